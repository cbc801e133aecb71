-- `nodes::is_step` meets its contract: the whole name, or the part before `@`. Assumes nothing.
use mathlib.Core.Path.{sym, ◌∙◌}
use Rattle.nodes.proofs.SameLaws.{match_whole, match_part}
use Rattle.nodes.proofs.is_step.Goals as goal

pub returns-then-same : goal.returns-then-same
returns-then-same c = match_whole _ _ (sym c.same.ensures ∙ c.if-same.true)

pub returns : goal.returns
returns c =
    c.same-2.ensures ∙
    match_part _ _ _ _ (sym c.same.ensures ∙ c.if-same.false) c.byte_from-unit.ensures.is c.part.ensures
