-- `register_each` is safe and ends, and its map is one that a caller can register in again.
use Rattle.memory.specs.Made.{Made}
use Rattle.replay.proofs.register_each.Given as goal

abbrev pub invariant-loop-i : goal.invariant-loop-i
invariant-loop-i l = Made 4096 l.map
