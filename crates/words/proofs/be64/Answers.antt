-- `words::be64` meets its contract, by its two halves. Assumes nothing.
use mathlib.Core.Path.{sym}
use native.Mathlib.Omega.{arith}
use Rattle.words.specs.Bytes.{double}
use Rattle.words.proofs.BytesLaws.{double_past}
use Rattle.words.proofs.be64.Goals as goal

pub returns-then-s-at : goal.returns-then-s-at
returns-then-s-at c = record { is = sym (double_past _ _ c.if-s-at.true); small = omega arith }

pub returns : goal.returns
unfolding double
returns c = record { is = omega arith; small = omega arith }
