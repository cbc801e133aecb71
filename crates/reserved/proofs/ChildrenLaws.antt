-- When the children of /reserved-memory count, and which of them: the answers of the code, from what it reads at the places of the nodes. A
-- value that is found is as long as is said, so that `ranges` is empty exactly if its length is 0. Assumes nothing.
use mathlib.Core.Path.{◌≡◌, refl, sym, ap}
use Prim.Native.Nat.{ℕ}
use mathlib.Core.List.{List, [], ◌∷◌}
use mathlib.Core.Bool.{Bool, true, false}
use lib.ListN.{length}
use lib.Dec.{eqb}
use Rattle.std.specs.Prelude.{Option, Some, None}
use Rattle.words.specs.Bytes.{part_of}
use Rattle.words.proofs.BytesLaws.{cond_elim}
use Rattle.fdt.specs.Tree.{Property, Tok, begin, ended, prop, fin, bad, lex_at}
use Rattle.cells.specs.declared.CellCount.{CellCount}
use Rattle.fdt.specs.declared.Block.{Block}
use Rattle.nodes.specs.Nav.{same_bytes, inside, content_at, lookup, prop_at}
use Rattle.nodes.specs.Cells.{address_cells, size_cells, count_at}
use Rattle.reading.specs.Values.{value_of, count_of}
use Rattle.reading.proofs.Places.{property_at}
use Rattle.subtree.specs.Names.{status_name, okay, ranges_name}
use Rattle.subtree.specs.Subtree.{node_at, props_of}
use Rattle.subtree.proofs.SubtreeLaws.{value_at, count_at_lem}
use Rattle.reserved.specs.Reserved.{available, stated_alike, is_empty, children_count}

-- ── A value that is found is as long as is said ──
abbrev Long : List ℕ → Option Block → Type 0
Long b (Some v) = length (part_of b v.at v.len) ≡ v.len
Long b None = Unit {0}

module _ (b n : List ℕ) (name : List ℕ) where
  lookup_long : (ts : List Tok) (p : ℕ) → lex_at b n p ≡ ts → Long b (lookup name ts)
  unfolding lookup
  lookup_long [] p e = tt
  lookup_long (begin q nm ∷ ts) p e = tt
  lookup_long (ended ∷ ts) p e = tt
  lookup_long (prop x ∷ ts) p e =
      let a = property_at b n p e in
      cond_elim (Long b) (same_bytes x.name name) _ _ (λ s. ap length a.part) (λ s. lookup_long ts a.next (sym a.tokens))
  lookup_long (fin ∷ ts) p e = tt
  lookup_long (bad ∷ ts) p e = tt

  prop_long : (q : ℕ) → Long b (prop_at b n q name)
  unfolding prop_at
  prop_long q = go (content_at b n q)
    where
      go : (c : Option ℕ) → Long b (inside None (λ p. lookup name (lex_at b n p)) c)
      go (Some p) = lookup_long (lex_at b n p) p refl
      go None = tt

  -- x is what is found
  module _ (q : ℕ) (x : Option Block) (is : x ≡ prop_at b n q name) where
    -- whether it is there, with no bytes
    pub empty_here : (p : Block) → x ≡ Some p → eqb p.len 0 ≡ is_empty (value_of name (props_of (node_at b n q)))
    empty_here p e =
        let h : length (part_of b p.at p.len) ≡ p.len = rw (← is, e) at (prop_long q) in
        rw (← value_at b n q name, ← is, e, h)

    pub empty_missing : x ≡ None → false ≡ is_empty (value_of name (props_of (node_at b n q)))
    empty_missing e = rw (← value_at b n q name, ← is, e)

-- ── By `status` ──
module _ (b n : List ℕ) (q : ℕ) (x : Option Block) (is : x ≡ prop_at b n q status_name) where
  -- v is the value, and s whether it is `okay`
  pub status_here : (p : Block) (v : List ℕ) (s : Bool) → x ≡ Some p → v ≡ part_of b p.at p.len → s ≡ same_bytes v okay
      → s ≡ available (props_of (node_at b n q))
  unfolding available
  status_here p v s e ev es = rw (← value_at b n q status_name, ← is, e, ← ev) es

  pub status_missing : x ≡ None → true ≡ available (props_of (node_at b n q))
  unfolding available
  status_missing e = rw (← value_at b n q status_name, ← is, e)

-- ── By the counts of the root and of /reserved-memory, and its `ranges` ──
module _ (b n : List ℕ) (root q : ℕ) where
  -- whether both state the count of this name, and the same one: x and y are read, and t is the answer
  pub alike : (name : List ℕ) (x y : CellCount) (t : Bool) → x ≡ count_at b n root name → y ≡ count_at b n q name → t ≡ stated_alike x y
      → t ≡ stated_alike (count_of (value_of name (props_of (node_at b n root)))) (count_of (value_of name (props_of (node_at b n q))))
  alike name x y t ex ey e = rw (← count_at_lem b n root name, ← count_at_lem b n q name, ← ex, ← ey) e

module _ (root ps : List Property) (x : Bool) (ex : x ≡ stated_alike (count_of (value_of address_cells root)) (count_of (value_of address_cells ps))) where
  pub addresses_differ : x ≡ false → false ≡ children_count root ps
  unfolding children_count
  addresses_differ h = rw (← ex, h)

  module _ (same : x ≡ true) (y : Bool) (ey : y ≡ stated_alike (count_of (value_of size_cells root)) (count_of (value_of size_cells ps))) where
    pub sizes_differ : y ≡ false → false ≡ children_count root ps
    unfolding children_count
    sizes_differ h = rw (← ex, same, ← ey, h)

    pub by_ranges : y ≡ true → (z : Bool) → z ≡ is_empty (value_of ranges_name ps) → z ≡ children_count root ps
    unfolding children_count
    by_ranges h z ez = rw (← ex, same, ← ey, h, ← ez)
