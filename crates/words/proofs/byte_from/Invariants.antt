-- `words::byte_from` meets its contract. The loop's invariant: the first byte from the start on is the first one from `i` on.
-- Assumes nothing.
use mathlib.Core.Path.{◌≡◌}
use Rattle.words.specs.Bytes.{first_byte}
use Rattle.words.proofs.byte_from.Given as goal

abbrev pub invariant-loop-i : goal.invariant-loop-i
invariant-loop-i l = first_byte l.x l.s l.at ≡ first_byte l.x l.s l.i
