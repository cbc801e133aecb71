-- `nodes::path_offset` meets its contract. The loop's invariant: from `node` and `i` on the path's answer is what it is from the root on.
-- The measure is what is left of the path. Assumes nothing.
use Prim.Native.Nat.{◌-◌}
use lib.ListN.{length}
use Rattle.nodes.proofs.PathLaws.{Goes}
use Rattle.nodes.proofs.path_offset.Given as goal

abbrev pub invariant-loop-i : goal.invariant-loop-i
invariant-loop-i l = Goes l.tree.structure.now l.tree.strings.now l.path l.node l.i

abbrev pub decreases-loop-i : goal.decreases-loop-i
decreases-loop-i l = length l.path - l.i
