use native.Mathlib.Omega.{arith}
use Rattle.sheet.proofs.Summing.{begins, ends, adds}
use Rattle.sheet.proofs.usable_pages.Goals as goal

pub loop-i-init : goal.loop-i-init
loop-i-init c = begins _ _ _

pub loop-i-preserved : goal.loop-i-preserved
loop-i-preserved c = adds c.loop-i.invariant (omega (arith, c.min-i-end.ensures)) c.saturating_add-pages.ensures

pub returns : goal.returns
returns c = ends c.loop-i.invariant (omega (arith, c.min-i-end.ensures))
