-- `filled` makes its map by our calls only, so it is a made map.
use Rattle.memory.specs.Made.{Made}
use Rattle.full_map.proofs.filled.Given as goal

abbrev pub invariant-loop-i : goal.invariant-loop-i
invariant-loop-i l = Made 4096 l.map
