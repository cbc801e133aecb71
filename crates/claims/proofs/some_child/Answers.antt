use mathlib.Core.Path.{refl}
use Rattle.claims.proofs.JudgeLaws.{none_left, this_is, next_nearer, next_from}
use Rattle.claims.proofs.some_child.Goals as goal

pub loop-child-init : goal.loop-child-init
loop-child-init c = record { stands = c.requires; same = refl }

pub returns : goal.returns
returns c = none_left _ _ _ _ _ _ _ c.loop-child.invariant c.in_default.is

pub returns-then-child_is : goal.returns-then-child_is
returns-then-child_is c =
    this_is _ _ _ _ _ _ _ c.loop-child.invariant _ c.in-Some.is _ c.child_is.ensures c.if-child_is.true

pub loop-child-smaller : goal.loop-child-smaller
loop-child-smaller c =
    next_nearer _ _ _ _ _ _ _ c.loop-child.invariant _ c.in-Some.is _ c.next_subnode-child.ensures

pub loop-child-preserved : goal.loop-child-preserved
loop-child-preserved c =
    next_from _ _ _ _ _ _ _ c.loop-child.invariant _ c.in-Some.is _ c.child_is.ensures c.if-child_is.false
    _ c.next_subnode-child.ensures
