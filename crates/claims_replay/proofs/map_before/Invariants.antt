-- The map of `map_before` is one that a caller can register in.
use Rattle.memory.specs.Made.{Made}
use Rattle.claims_replay.proofs.map_before.Given as goal

abbrev pub invariant-loop-i : goal.invariant-loop-i
invariant-loop-i l = Made 4096 l.held
