-- `fdt::walk` meets its contract. The invariant: more tokens are allowed than the block has left, and the walk from here ends as the
-- whole walk does. The measure is what is left of the block. Assumes nothing.
use mathlib.Core.Path.{◌≡◌}
use Prim.Native.Nat.{ℕ, suc, ◌≤◌, ◌+◌, ◌-◌}
use lib.ListN.{length}
use Rattle.fdt.specs.Walk.{walk_at, walked}
use Rattle.fdt.proofs.walk.Given as goal

abbrev pub invariant-loop-next : goal.invariant-loop-next
invariant-loop-next l = (f : ℕ) × (length l.tree.structure.now ≤ l.st.at + f) × (walked l.tree.structure.now l.tree.strings.now ≡ walk_at (suc f) l.tree.structure.now l.tree.strings.now l.st)

abbrev pub decreases-loop-next : goal.decreases-loop-next
decreases-loop-next l = length l.tree.structure.now - l.st.at
