-- `land` gives the sum where it fits. Assumes nothing.
use native.Mathlib.Omega.{arith}
use Rattle.windows.proofs.FitLaws.{lands, lands_not}
use Rattle.windows.proofs.land.Goals as goal

pub returns-then-parent-offset : goal.returns-then-parent-offset
returns-then-parent-offset c = lands_not _ _ _ (omega arith)

pub returns-then-to-last : goal.returns-then-to-last
returns-then-to-last c = lands_not _ _ _ (omega arith)

pub returns : goal.returns
returns c = lands _ _ _ (omega arith)
