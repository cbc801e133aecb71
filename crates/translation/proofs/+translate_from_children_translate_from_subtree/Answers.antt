use mathlib.Core.Path.{refl, ◌∙◌}
use native.Mathlib.Omega.{arith}
use Rattle.translation.proofs.StepLaws.{children, is_target, is_other, none_left, goes_on, stays, less, again}
use Rattle.translation.proofs.+translate_from_children_translate_from_subtree.Goals as goal

pub translate_from_children-returns : goal.translate_from_children-returns
translate_from_children-returns t c = none_left c.loop-child.invariant c.in_default.is

pub translate_from_children-returns-in_default-found : goal.translate_from_children-returns-in_default-found
translate_from_children-returns-in_default-found t c =
    stays _ _ c.in_default-found.not-On ∙ goes_on c.loop-child.invariant _ c.in-Some.is _ c.translate_from_subtree-found.ensures _ refl

pub translate_from_children-loop-child-smaller : goal.translate_from_children-loop-child-smaller
translate_from_children-loop-child-smaller t c =
    less c.loop-child.invariant _ c.in-Some.is _ c.translate_from_subtree-found.ensures _ c.in-On.is _ c.next_subnode-child.ensures

pub translate_from_children-loop-child-preserved : goal.translate_from_children-loop-child-preserved
translate_from_children-loop-child-preserved t c =
    again c.loop-child.invariant _ c.in-Some.is _ c.translate_from_subtree-found.ensures _ c.in-On.is _ c.next_subnode-child.ensures

pub translate_from_subtree-returns-then-node-target : goal.translate_from_subtree-returns-then-node-target
translate_from_subtree-returns-then-node-target t c = is_target _ _ _ _ _ _ _ _ _ c.if-node-target.true c.begin_at.ensures

pub translate_from_subtree-translate_from_children-inner-requires : goal.translate_from_subtree-translate_from_children-inner-requires
translate_from_subtree-translate_from_children-inner-requires t c =
    let n = children c.requires _ c.first_subnode.ensures in
    (omega (arith, n.1, c.decreases), n.0)

pub translate_from_subtree-returns : goal.translate_from_subtree-returns
translate_from_subtree-returns t c =
    is_other _ _ _ _ _ _ _ _ _ _ _ _ _ c.if-node-target.false c.first_subnode.ensures c.cells_of.ensures.address c.cells_of.ensures.size
    c.translate_from_children-inner.ensures c.up_through.ensures
