-- `nodes::name_of` meets its contract: each answer is that of its token. Assumes nothing.
use mathlib.Core.Path.{sym, ◌∙◌, ap}
use native.Mathlib.Omega.{arith}
use Rattle.words.proofs.BytesLaws.{part_cut, part_is}
use Rattle.nodes.specs.Nav.{name_in}
use Rattle.nodes.proofs.TokenLaws.{reach, nameless}
use Rattle.nodes.proofs.name_of.Goals as goal

pub overflow_add-node : goal.overflow_add-node
overflow_add-node c =
    let m = reach _ _ _ c.token_at.ensures c.in-Begin.is in
    omega arith

pub returns-in-Begin : goal.returns-in-Begin
returns-in-Begin c =
    let m = reach _ _ _ c.token_at.ensures c.in-Begin.is in
    c.part.ensures ∙ part_cut _ _ _ (omega arith) ∙ ap (name_in _ _) (sym c.in-Begin.is ∙ c.token_at.ensures)

pub returns-in_default : goal.returns-in_default
returns-in_default c =
    c.part-in_default.ensures ∙ part_is _ 0 0 (omega arith) ∙ nameless _ _ _ c.in_default.not-Begin ∙ ap (name_in _ _) c.token_at.ensures
