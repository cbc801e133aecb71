-- `visit::reserved_parent` meets its contract: each step that finds nothing ends the search. Assumes nothing.
use mathlib.Core.Path.{◌∙◌}
use Rattle.claims.specs.declared.Way.TheVariants.{Reserve}
use Rattle.visit.proofs.CodeLaws.{rootless, reserved_is}
use Rattle.visit.proofs.reserved_parent.Goals as goal

pub returns-in_err-root : goal.returns-in_err-root
returns-in_err-root c = c.from_residual.ensures ∙ rootless _ _ _ c.path_offset.ensures c.in_err-root.was Reserve

pub returns-in_err-node : goal.returns-in_err-node
returns-in_err-node c =
    c.from_residual-in_err-node.ensures ∙ reserved_is _ _ _ c.path_offset.ensures _ c.in_ok-root.was _ _ c.in_err-node.was c.subnode.ensures

pub returns-then-children_count : goal.returns-then-children_count
returns-then-children_count c =
    rw (← c.children_count.ensures, c.if-children_count.true) at
    (reserved_is _ _ _ c.path_offset.ensures _ c.in_ok-root.was _ _ c.in_ok-node.was c.subnode.ensures)

pub returns : goal.returns
returns c =
    rw (← c.children_count.ensures, c.if-children_count.false) at
    (reserved_is _ _ _ c.path_offset.ensures _ c.in_ok-root.was _ _ c.in_ok-node.was c.subnode.ensures)
