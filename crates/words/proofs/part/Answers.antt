-- `words::part` meets its contract: a part that the slice has whole, or the empty part. Assumes nothing.
use mathlib.Core.Path.{sym}
use native.Mathlib.Omega.{arith}
use Rattle.words.proofs.BytesLaws.{part_none, part_cut}
use Rattle.words.proofs.part.Goals as goal

pub returns-then-s-len : goal.returns-then-s-len
returns-then-s-len c = sym (part_none _ _ _ (omega arith))

pub returns-then-s-len-2 : goal.returns-then-s-len-2
returns-then-s-len-2 c = sym (part_none _ _ _ (omega arith))

pub returns : goal.returns
returns c = sym (part_cut _ _ _ (omega arith))
