-- `words::le32` meets its contract, by its two halves. Assumes nothing.
use mathlib.Core.Path.{sym}
use native.Mathlib.Omega.{arith}
use Rattle.words.specs.Little.{quarter}
use Rattle.words.proofs.LittleLaws.{quarter_past}
use Rattle.words.proofs.le32.Goals as goal

pub returns-then-s-at : goal.returns-then-s-at
returns-then-s-at c = record { is = sym (quarter_past _ _ c.if-s-at.true); small = omega arith }

pub returns : goal.returns
unfolding quarter
returns c = record { is = omega arith; small = omega arith }
