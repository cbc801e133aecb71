-- `translation::translate_from_children` and `translation::translate_from_subtree`. The measure of their recursion is
-- the levels that are left (Search.row_left, node_left): a node's children have a level less than the node, and the node no more than the row
-- it stands in. The loop's invariant (StepLaws.Goes): the search from the first child on is the search from this one on; its measure is the
-- count of the nodes from this one on. Assumes nothing.
use Rattle.fdt.specs.Tree.{count}
use Rattle.subtree.specs.Subtree.{node_at, at}
use Rattle.translation.specs.Search.{row_left, node_left}
use Rattle.translation.proofs.StepLaws.{Goes}
use Rattle.translation.proofs.+translate_from_children_translate_from_subtree.Given as goal

abbrev pub decreases-translate_from_children : goal.decreases-translate_from_children
decreases-translate_from_children l = row_left (at l.tree.structure.now l.tree.strings.now l.first)

abbrev pub decreases-translate_from_subtree : goal.decreases-translate_from_subtree
decreases-translate_from_subtree l = node_left (node_at l.tree.structure.now l.tree.strings.now l.node)

abbrev pub invariant-translate_from_children-loop-child : goal.invariant-translate_from_children-loop-child
invariant-translate_from_children-loop-child l =
    Goes l.tree.structure.now l.tree.strings.now l.target l.sought l.cells.address l.cells.size l.initial.child l.before l.child l.tried

abbrev pub decreases-translate_from_children-loop-child : goal.decreases-translate_from_children-loop-child
decreases-translate_from_children-loop-child l = count (at l.tree.structure.now l.tree.strings.now l.child)
