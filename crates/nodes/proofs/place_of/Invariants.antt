-- `nodes::place_of` meets its contract. The loop's invariant: counting on from `at` with `begun` answers as counting from the start; and
-- `begun` is at most `at`. The measure is what is left of the block. Assumes nothing.
use Prim.Native.Nat.{◌-◌}
use lib.ListN.{length}
use Rattle.nodes.proofs.OrderLaws.{Counts}
use Rattle.nodes.proofs.place_of.Given as goal

abbrev pub invariant-loop-next : goal.invariant-loop-next
invariant-loop-next l = Counts l.tree.structure.now l.tree.strings.now l.target l.at l.begun

abbrev pub decreases-loop-next : goal.decreases-loop-next
decreases-loop-next l = length l.tree.structure.now - l.at
