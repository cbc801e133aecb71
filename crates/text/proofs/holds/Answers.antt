use native.Mathlib.Omega.{arith}
use mathlib.Core.Path.{sym}
use Rattle.text.proofs.StringLaws.{contains_short, sought_all, sought_here, sought_on, sought_nowhere}
use Rattle.text.proofs.holds.Goals as goal

pub returns-then-text-part : goal.returns-then-text-part
returns-then-text-part c = sym (contains_short _ _ (omega arith))

pub loop-i-init : goal.loop-i-init
loop-i-init c = sought_all _ _

pub returns-then-same : goal.returns-then-same
returns-then-same c =
    sought_here _ _ _ c.loop-i.invariant _ _ c.part.ensures c.same.ensures c.if-same.true

pub loop-i-preserved : goal.loop-i-preserved
loop-i-preserved c =
    sought_on _ _ _ c.loop-i.invariant _ _ c.part.ensures c.same.ensures c.if-same.false

pub returns-else-same : goal.returns-else-same
returns-else-same c =
    sought_nowhere _ _ _ (sought_on _ _ _ c.loop-i.invariant _ _ c.part.ensures c.same.ensures c.if-same.false) (omega arith) (omega arith)

pub returns-else-text-part : goal.returns-else-text-part
returns-else-text-part c = sought_nowhere _ _ _ c.loop-i.invariant (omega arith) (omega arith)
