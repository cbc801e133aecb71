-- `nodes::prop_from` meets its contract. The loop's invariant: the property that is looked for is the same from `at` on as from the
-- start on. The measure is what is left of the block. Assumes nothing.
use mathlib.Core.Path.{◌≡◌}
use Prim.Native.Nat.{◌-◌}
use lib.ListN.{length}
use Rattle.fdt.specs.Tree.{lex_at}
use Rattle.nodes.specs.Nav.{lookup}
use Rattle.nodes.proofs.prop_from.Given as goal

abbrev pub invariant-loop-next : goal.invariant-loop-next
invariant-loop-next l = lookup l.name (lex_at l.tree.structure.now l.tree.strings.now l.p) ≡ lookup l.name (lex_at l.tree.structure.now l.tree.strings.now l.at)

abbrev pub decreases-loop-next : goal.decreases-loop-next
decreases-loop-next l = length l.tree.structure.now - l.at
