-- `put` writes slot after slot: the numbers of the first i stand in their places.
use Rattle.map_numbers.proofs.Places.{Written}
use Rattle.map_numbers.proofs.put.Given as goal

abbrev pub invariant-loop-i : goal.invariant-loop-i
invariant-loop-i l = Written l.entries l.i l.memory
