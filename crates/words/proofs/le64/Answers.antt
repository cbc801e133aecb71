-- `words::le64` meets its contract: by its two halves where bytes are missing. Assumes nothing.
use mathlib.Core.Path.{sym}
use native.Mathlib.Omega.{arith}
use Rattle.words.specs.Little.{eight}
use Rattle.words.proofs.LittleLaws.{eight_past}
use Rattle.words.proofs.le64.Goals as goal

pub returns-then-s-at : goal.returns-then-s-at
returns-then-s-at c = record { is = sym (eight_past _ _ c.if-s-at.true); small = omega arith }

pub returns : goal.returns
unfolding eight
returns c = record { is = omega arith; small = omega arith }
