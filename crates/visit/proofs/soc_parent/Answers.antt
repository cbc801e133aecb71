-- `visit::soc_parent` meets its contract: each step that finds nothing ends the search. Assumes nothing.
use mathlib.Core.Path.{◌∙◌}
use Rattle.claims.specs.declared.Way.TheVariants.{Soc}
use Rattle.visit.proofs.CodeLaws.{rootless, soc_is}
use Rattle.visit.proofs.soc_parent.Goals as goal

pub returns-in_err-root : goal.returns-in_err-root
returns-in_err-root c = c.from_residual.ensures ∙ rootless _ _ _ c.path_offset.ensures c.in_err-root.was Soc

pub returns-in_err-node : goal.returns-in_err-node
returns-in_err-node c =
    c.from_residual-in_err-node.ensures ∙ soc_is _ _ _ c.path_offset.ensures _ c.in_ok-root.was _ _ c.in_err-node.was c.subnode.ensures

pub returns : goal.returns
returns c =
    rw (← c.getprop.ensures, c.in_ok-getprop.was) at
    (soc_is _ _ _ c.path_offset.ensures _ c.in_ok-root.was _ _ c.in_ok-node.was c.subnode.ensures)

pub returns-in_err-getprop : goal.returns-in_err-getprop
returns-in_err-getprop c =
    c.from_residual-in_err-getprop.ensures ∙
    rw (← c.getprop.ensures, c.in_err-getprop.was) at
    (soc_is _ _ _ c.path_offset.ensures _ c.in_ok-root.was _ _ c.in_ok-node.was c.subnode.ensures)
