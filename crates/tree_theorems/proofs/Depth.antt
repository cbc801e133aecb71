-- How deep translation's search goes in an opened tree: "a node and its children call each other, depth falling". The prover holds the pair
-- of routines to a measure that falls with every call, twice the levels that are left: odd for the routine that runs over children, even for
-- the one that tries a node. Here that measure is at most 63 at the first call, so at most 32 calls of the one and 31 of the other are ever
-- open at a time, whatever the tree holds: the stack that the search needs is bounded. Assumes nothing.
use Rattle.std.specs.Prelude.{Some, Ok}
use mathlib.Core.Path.{◌≡◌, sym, ◌∙◌, ap}
use Prim.Native.Nat.{ℕ, ◌≤◌}
use native.Mathlib.Omega.{arith}
use mathlib.Core.List.{List, [], ◌∷◌}
use Rattle.fdt.specs.declared.Blocks.{Blocks}
use Rattle.fdt.specs.Header.{structure_of, strings_of}
use Rattle.fdt.specs.Opening.{opened_of}
use Rattle.fdt.specs.Tree.{Nodes, height, tree_of}
use Rattle.grammar.proofs.GrammarLaws.{tree_is}
use Rattle.grammar.proofs.OpeningLaws.{opened_exactly, opened_blocks}
use Rattle.nodes.specs.Nav.{first_at}
use Rattle.nodes.specs.OnTree.{kids_of}
use Rattle.nodes.specs.Path.{path_at}
use Rattle.subtree.specs.Subtree.{node_at, at, path_to}
use Rattle.subtree.proofs.SubtreeLaws.{kids_at, path_at_lem, opened_tree}
use Rattle.translation.specs.Search.{row_left}

module _ (s : List ℕ) (k : Blocks) (o : opened_of s ≡ Ok (Some k)) where
  -- THE THEOREMS. "32 levels (root is 1)": below the root there are at most 31
  pub levels_few : height (kids_of (tree_of (structure_of s) (strings_of s))) ≤ 31
  levels_few =
      let w = ((opened_exactly s).0 (o ∙ ap Ok (ap Some (opened_blocks s k o)))).2 in
      let e : height (kids_of (tree_of (structure_of s) (strings_of s))) ≡ height w.kids =
      ap (λ (t : Nodes). height (kids_of t)) (tree_is (structure_of s) (strings_of s) w.root w.ps w.kids w.block) in
      omega (arith, w.within.levels)

  -- the first call runs over the children of the root, which is the node of the path `/`: its measure
  pub calls_few : (root : ℕ) → path_at (structure_of s) (strings_of s) (47 ∷ []) ≡ Some root
      → row_left (at (structure_of s) (strings_of s) (first_at (structure_of s) (strings_of s) root)) ≤ 63
  unfolding path_to
  calls_few root e =
      let b = structure_of s in
      let n = strings_of s in
      let r : node_at b n root ≡ tree_of b n = ap (at b n) (sym e) ∙ path_at_lem b n (47 ∷ []) ∙ opened_tree s k o in
      let z : at b n (first_at b n root) ≡ kids_of (tree_of b n) = sym (kids_at b n root) ∙ ap kids_of r in
      let h : height (at b n (first_at b n root)) ≡ height (kids_of (tree_of b n)) = ap height z in
      omega (arith, levels_few)
