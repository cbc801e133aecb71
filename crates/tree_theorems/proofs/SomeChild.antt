-- Some child of a row passes a test exactly when there is one that does. Assumes nothing.
use mathlib.Core.Path.{◌≡◌, refl}
use mathlib.Core.Logic.{◌↔◌}
use mathlib.Core.Bool.{Bool, true, false, ◌||◌}
use mathlib.Core.List.{List}
use Prim.Native.Nat.{ℕ}
use Rattle.words.proofs.BytesLaws.{never}
use Rattle.cells.specs.declared.CellCount.{CellCount}
use Rattle.fdt.specs.Tree.{Property, Nodes, none, node}
use Rattle.claims.specs.Judging.{child_is, some_kid}
use Rattle.tree_theorems.specs.Children.{Child, this, later}

module _ (reserved : Bool) (a c : CellCount) where
  -- one that is so
  abbrev One : Nodes → Type 0
  One ks = (q : ℕ) × (ps : List Property) × Child q ps ks × (child_is reserved a c ps ≡ true)

  some_of : (ks : Nodes) → some_kid reserved a c ks ≡ true → One ks
  unfolding some_kid
  some_of none e = never (cc)
  some_of (node q nm ps kids rest) e = go (child_is reserved a c ps) refl e (some_of rest)
    where
      go : (t : Bool) → child_is reserved a c ps ≡ t → (t || some_kid reserved a c rest) ≡ true → (some_kid reserved a c rest ≡ true → One rest)
          → One (node q nm ps kids rest)
      go true i e f = (q, ps, this, i)
      go false i e f = let w = f e in (w.0, w.1, later w.2, w.3)

  some_by : {q : ℕ} {ps : List Property} {ks : Nodes} → Child q ps ks → child_is reserved a c ps ≡ true → some_kid reserved a c ks ≡ true
  unfolding some_kid
  some_by this e = rw e
  some_by (later {os = os} x) e = rw (some_by x e) (or_true (child_is reserved a c os))
    where
      or_true : (t : Bool) → (t || true) ≡ true
      or_true true = refl
      or_true false = refl

-- some child of a row is so exactly when there is one
pub some_exactly : (reserved : Bool) (a c : CellCount) (ks : Nodes)
    → (some_kid reserved a c ks ≡ true) ↔ ((q : ℕ) × (ps : List Property) × Child q ps ks × (child_is reserved a c ps ≡ true))
some_exactly reserved a c ks = (some_of reserved a c ks, λ w. some_by reserved a c w.2 w.3)
