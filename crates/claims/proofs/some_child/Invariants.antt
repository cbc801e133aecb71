-- `some_child` meets its contract. The loop's invariant: a node stands at `child`, and some child from it on is what is looked for exactly
-- if one from the first on is. The measure is how many nodes are left, with all below them. Assumes nothing.
use Rattle.fdt.specs.Tree.{count}
use Rattle.subtree.specs.Subtree.{at}
use Rattle.claims.proofs.JudgeLaws.{From}
use Rattle.claims.proofs.some_child.Given as goal

abbrev pub invariant-loop-child : goal.invariant-loop-child
invariant-loop-child l = From l.tree.structure.now l.tree.strings.now l.reserved l.cells.address l.cells.size l.initial.child l.child

abbrev pub decreases-loop-child : goal.decreases-loop-child
decreases-loop-child l = count (at l.tree.structure.now l.tree.strings.now l.child)
