-- `nodes::skip` meets its contract. The loop's invariant: with `depth` levels open at `at`, what follows their end is what follows the
-- node's; and `depth` is at most `at + 1`. The measure is what is left of the block. Assumes nothing.
use Prim.Native.Nat.{◌-◌}
use lib.ListN.{length}
use Rattle.nodes.proofs.NavLaws.{Skips}
use Rattle.nodes.proofs.skip.Given as goal

abbrev pub invariant-loop-next : goal.invariant-loop-next
invariant-loop-next l = Skips l.tree.structure.now l.tree.strings.now l.p l.at l.depth

abbrev pub decreases-loop-next : goal.decreases-loop-next
decreases-loop-next l = length l.tree.structure.now - l.at
