-- `at_root` gives the address where the region ends below 2^64. Assumes nothing.
use native.Mathlib.Omega.{arith}
use Rattle.windows.specs.Window.{reach}
use Rattle.claims.proofs.ClaimLaws.{root_lands, root_over}
use Rattle.claims.proofs.at_root.Goals as goal

pub returns-then-region-eq0 : goal.returns-then-region-eq0
unfolding reach
returns-then-region-eq0 c = root_lands _ _ (omega arith)

pub returns-then-region : goal.returns-then-region
unfolding reach
returns-then-region c = root_over _ _ (omega arith)

pub returns : goal.returns
unfolding reach
returns c = root_lands _ _ (omega arith)
