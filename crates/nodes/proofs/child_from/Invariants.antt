-- `nodes::child_from` meets its contract. The loop's invariant: the child that is looked for is the same from `at` on as from the start
-- on. The measure is what is left of the block. Assumes nothing.
use mathlib.Core.Path.{◌≡◌}
use Prim.Native.Nat.{◌-◌}
use lib.ListN.{length}
use Rattle.fdt.specs.Tree.{lex_at}
use Rattle.nodes.specs.Nav.{find_t}
use Rattle.nodes.proofs.child_from.Given as goal

abbrev pub invariant-loop-q : goal.invariant-loop-q
invariant-loop-q l = find_t l.step (lex_at l.tree.structure.now l.tree.strings.now l.p) 0 ≡ find_t l.step (lex_at l.tree.structure.now l.tree.strings.now l.at) 0

abbrev pub decreases-loop-q : goal.decreases-loop-q
decreases-loop-q l = length l.tree.structure.now - l.at
