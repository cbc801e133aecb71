-- `words::be32` meets its contract: where the place is in the slice by the four bytes, else by the law that a number past the end is 0.
-- Assumes nothing.
use mathlib.Core.Path.{sym}
use native.Mathlib.Omega.{arith}
use Rattle.words.specs.Bytes.{word}
use Rattle.words.proofs.BytesLaws.{word_past}
use Rattle.words.proofs.be32.Goals as goal

pub returns-then-s-at : goal.returns-then-s-at
returns-then-s-at c = record { is = sym (word_past _ _ c.if-s-at.true); small = omega arith }

pub returns : goal.returns
unfolding word
returns c = record { is = omega arith; small = omega arith }
