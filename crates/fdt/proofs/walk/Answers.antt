use mathlib.Core.Path.{refl, sym, ◌∙◌}
use native.Mathlib.Omega.{arith}
use lib.ListN.{length}
use Rattle.fdt.specs.Walk.{walked}
use Rattle.fdt.proofs.WalkLaws.{step_is, step_less, step_on, step_off}
use Rattle.fdt.proofs.walk.Goals as goal

pub loop-next-init : goal.loop-next-init
unfolding walked
loop-next-init c = (length c.args.tree.structure.now, omega arith, refl)

pub loop-next-smaller : goal.loop-next-smaller
loop-next-smaller c =
    let k = c in
    let l = k in
    let a = l.args in
    step_less _ _ _ _ (step_is a.tree.structure.now a.tree.strings.now l.loop-next.st _ _ k.token_at.ensures k.stepped.ensures c.in-Go.is)

pub loop-next-preserved : goal.loop-next-preserved
loop-next-preserved c =
    let k = c in
    let l = k in
    let a = l.args in
    let i = l.loop-next.invariant in
    let r = step_on _ _ _ _ (step_is a.tree.structure.now a.tree.strings.now l.loop-next.st _ _ k.token_at.ensures k.stepped.ensures c.in-Go.is) i.0 i.1 in
    (r.0, r.1, i.2 ∙ r.2)

pub returns-in-Stop : goal.returns-in-Stop
returns-in-Stop c =
    let k = c in
    let l = k in
    let a = l.args in
    let i = l.loop-next.invariant in
    sym (i.2 ∙ step_off _ _ _ i.0 _ (step_is a.tree.structure.now a.tree.strings.now l.loop-next.st _ _ k.token_at.ensures k.stepped.ensures c.in-Stop.is))
