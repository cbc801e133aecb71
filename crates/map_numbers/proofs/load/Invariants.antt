-- `load` reads slot after slot: the first i are the entries in the numbers.
use Rattle.map_numbers.proofs.Places.{Reads}
use Rattle.map_numbers.proofs.load.Given as goal

abbrev pub invariant-loop-i : goal.invariant-loop-i
invariant-loop-i l = Reads l.memory l.i l.map.entries
