use mathlib.Core.Path.{sym, ◌∙◌, subst}
use mathlib.Core.Logic.{⊎_elim}
use native.Mathlib.Omega.{arith}
use Rattle.nodes.specs.Nav.{KidIs}
use Rattle.nodes.proofs.FindLaws.{find_here, find_next, nearer, find_end, find_stuck}
use Rattle.nodes.proofs.child_from.Goals as goal

pub overflow_add-q : goal.overflow_add-q
overflow_add-q c =
    let w = subst (KidIs _ _ _) c.in-Node.is c.next_kid.ensures in
    omega arith

pub returns-then-is_step : goal.returns-then-is_step
returns-then-is_step c =
    let w = subst (KidIs _ _ _) c.in-Node.is c.next_kid.ensures in
    (_, _, c.loop-q.invariant ∙ find_here _ _ _ _ _ _ _ w _ c.part.ensures (sym c.is_step.ensures ∙ c.if-is_step.true))

pub loop-q-smaller : goal.loop-q-smaller
loop-q-smaller c =
    let w = subst (KidIs _ _ _) c.in-Node.is c.next_kid.ensures in
    nearer w c.skip-at.ensures

pub loop-q-preserved : goal.loop-q-preserved
loop-q-preserved c =
    let w = subst (KidIs _ _ _) c.in-Node.is c.next_kid.ensures in
    c.loop-q.invariant ∙
    find_next _ _ _ _ _ _ _ w _ c.part.ensures _ (sym c.is_step.ensures ∙ c.if-is_step.false) c.skip-at.ensures

pub returns-in-End : goal.returns-in-End
returns-in-End c =
    c.loop-q.invariant ∙
    ⊎_elim
    (λ e. find_end _ _ _ _ _ (subst (KidIs _ _ _) e.1 c.next_kid.ensures))
    (λ e. find_stuck _ _ _ _ (subst (KidIs _ _ _) e c.next_kid.ensures))
    c.in-End.is
