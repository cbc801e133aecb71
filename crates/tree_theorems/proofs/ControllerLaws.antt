-- Of an accepted tree, the interrupt controllers' claims are those that translation gives, entry by entry, in the same order. Assumes nothing.
use Rattle.std.specs.Prelude.{Some, Ok}
use mathlib.Core.Path.{◌≡◌, refl, ap₂}
use mathlib.Core.Bool.{Bool, true, false, cond}
use mathlib.Core.List.{List, [], ◌∷◌, ◌++◌}
use Prim.Native.Nat.{ℕ}
use Rattle.entry.specs.declared.Claim.{Claim}
use Rattle.cells.specs.declared.Region.{Region}
use Rattle.cells.specs.Rows.{rows}
use Rattle.fdt.specs.declared.Blocks.{Blocks}
use Rattle.fdt.specs.Header.{structure_of, strings_of}
use Rattle.fdt.specs.Opening.{opened_of}
use Rattle.fdt.specs.Tree.{Property, Nodes, none, node, tree_of}
use Rattle.nodes.specs.OnTree.{kids_of}
use Rattle.reading.specs.Values.{value_of}
use Rattle.windows.specs.declared.Window.{Window}
use Rattle.windows.specs.declared.Window.TheVariants.{To, Nowhere, Unreadable}
use Rattle.subtree.specs.Names.{reg_name, interrupt_controller_name}
use Rattle.subtree.specs.Subtree.{props_of}
use Rattle.translation.specs.Translation.{address_of, size_of, answer}
use Rattle.stdout.specs.Stdout.{is_there}
use Rattle.claims.specs.declared.Way.TheVariants.{Controllers}
use Rattle.claims.specs.Claims.{entries_in, lands_by, landed, claim_by, claims_by, child_regions, kid_claims, controller_claims}
use Rattle.tree_theorems.specs.Children.{Child, this, later}
use Rattle.tree_theorems.specs.Controllers.{device_at, regions_translated, row_translated, controllers_translated}
use Rattle.tree_theorems.proofs.Translated.{root_child}

-- a claim where a window leads is a claim of that answer
landed_answer : (w : Window) (size k : ℕ) → landed Controllers w size ≡ device_at (answer w size k)
landed_answer (To x) size k = refl
landed_answer Nowhere size k = refl
landed_answer Unreadable size k = refl

module _ (s : List ℕ) (k : Blocks) (o : opened_of s ≡ Ok (Some k)) where
  abbrev tree : Nodes
  tree = tree_of (structure_of s) (strings_of s)

  -- the regions of a child
  regions : {q : ℕ} {ps : List Property} → Child q ps (kids_of tree) → (l : List Region)
      → claims_by Controllers (rows []) l ≡ regions_translated tree q l
  unfolding claims_by claim_by regions_translated
  regions c [] = refl
  regions {q = q} {ps = ps} c (r ∷ l) =
      rw (root_child s k o q ps c r, ← landed_answer (lands_by Controllers (rows []) r.address r.size) r.size _, regions c l)

  -- of a child with the property, or without it
  one : {q : ℕ} {ps : List Property} → Child q ps (kids_of tree) → (t : Bool) (l : List Region)
      → claims_by Controllers (rows []) (cond t l []) ≡ cond t (regions_translated tree q l) []
  unfolding claims_by
  one c true l = regions c l
  one c false l = refl

  -- of children in a row
  row : (ks : Nodes) → ((q : ℕ) (ps : List Property) → Child q ps ks → Child q ps (kids_of tree))
      → kid_claims Controllers (rows []) (address_of (props_of tree)) (size_of (props_of tree)) ks ≡ row_translated tree ks
  unfolding kid_claims child_regions row_translated
  row none f = refl
  row (node q nm ps kids rest) f =
      ap₂ (λ (x y : List Claim). x ++ y)
      (one (f q ps this) (is_there (value_of interrupt_controller_name ps)) (entries_in (address_of (props_of tree)) (size_of (props_of tree)) (value_of reg_name ps)))
      (row rest (λ q ps c. f q ps (later c)))

  -- THE THEOREM: "then the root's children with `interrupt-controller`, translated"
  pub controllers_are : controller_claims tree ≡ controllers_translated tree
  unfolding controller_claims
  controllers_are = row (kids_of tree) (λ q ps c. c)
