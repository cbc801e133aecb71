-- `nodes::next_kid` meets its contract. The loop's invariant: what comes first past the properties is the same from `at` on as from the
-- start on. The measure is what is left of the block. Assumes nothing.
use Prim.Native.Nat.{◌-◌}
use lib.ListN.{length}
use Rattle.nodes.proofs.NavLaws.{Drops}
use Rattle.nodes.proofs.next_kid.Given as goal

abbrev pub invariant-loop-next : goal.invariant-loop-next
invariant-loop-next l = Drops l.tree.structure.now l.tree.strings.now l.p l.at

abbrev pub decreases-loop-next : goal.decreases-loop-next
decreases-loop-next l = length l.tree.structure.now - l.at
