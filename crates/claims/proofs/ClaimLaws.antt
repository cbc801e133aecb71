-- Laws on claims: where a region of the root's child lies, what makes a virtual board, and that the entries of a child's value are the
-- regions that the child claims. Assumes nothing.
use mathlib.Core.Path.{◌≡◌, refl, ◌∙◌, ap}
use Prim.Native.Nat.{ℕ, ◌+◌, ◌-◌, ◌^◌, ◌≤◌, ◌<◌}
use mathlib.Core.List.{List, [], ◌∷◌}
use mathlib.Core.Bool.{Bool, true, false, cond, ◌&&◌}
use lib.ListN.{length}
use lib.Dec.{eqb, leb, ltb}
use borrow.Author.Tests.{le-leb, lt-leb}
use Rattle.std.specs.Prelude.{Option, Some, None}
use Rattle.words.specs.Bytes.{part_of}
use Rattle.words.proofs.BytesLaws.{never}
use Rattle.cells.specs.declared.CellCount.{CellCount}
use Rattle.cells.specs.declared.CellCount.TheVariants.{Stated, Absent, Faulty}
use Rattle.cells.specs.declared.Region.{Region}
use Rattle.cells.specs.Count.{size_width}
use Rattle.cells.specs.Rows.{Table, unreadable, rows, number_at, reg_of}
use Rattle.cells.proofs.RowsLaws.{reg_none}
use Rattle.fdt.specs.declared.Block.{Block}
use Rattle.nodes.specs.Nav.{prop_at}
use Rattle.nodes.specs.Path.{path_at}
use Rattle.reading.specs.Values.{value_of, held}
use Rattle.reading.specs.Reads.{value_in}
use Rattle.windows.specs.declared.Window.TheVariants.{To, Nowhere}
use Rattle.windows.specs.Window.{reach}
use Rattle.subtree.specs.Names.{reg_name, size_name, alloc_ranges_name, model_name, interrupt_controller_name, dummy_virt}
use Rattle.subtree.specs.Subtree.{node_at, at, root_at, props_of, path_to}
use Rattle.subtree.proofs.SubtreeLaws.{value_at, path_at_lem}
use Rattle.translation.specs.Translation.{climb, arrived, climbed}
use Rattle.text.specs.Strings.{string_in, string_at, contains}
use Rattle.text.proofs.StringLaws.{string_held}
use Rattle.reserved.specs.Reserved.{available, exact_by, exact_of}
use Rattle.stdout.specs.Stdout.{is_there}
use Rattle.claims.specs.declared.Way.{Way}
use Rattle.claims.specs.declared.Way.TheVariants.{Reserve, Soc, Controllers}
use Rattle.claims.specs.Claims.{entries, entries_in, the_one, dynamic, fixed_or, child_regions, lands_by, is_virt}
use Rattle.claims.specs.Values.{where_one, dynamic_at, or_value, child_value}

-- ── A region of the root's child ──
module _ (a n : ℕ) where
  pub root_lands : a + reach n ≤ 2 ^ 64 - 1 → To a ≡ lands_by Controllers (rows []) a n
  unfolding lands_by climbed climb arrived
  root_lands h = rw (le-leb _ _ h)

  pub root_over : 2 ^ 64 - 1 < a + reach n → Nowhere ≡ lands_by Controllers (rows []) a n
  unfolding lands_by climbed climb arrived
  root_over h = rw (lt-leb _ _ h)

-- ── A virtual board ──
-- f is where the path `/` leads: the root
module _ (b n : List ℕ) (f : Option ℕ) (is : f ≡ path_at b n (47 ∷ [])) where
  pub root_is : at b n f ≡ root_at b n
  unfolding path_to
  root_is = ap (at b n) is ∙ path_at_lem b n (47 ∷ [])

  module _ (arm : Bool) (armed : arm ≡ true) where
    pub virt_rootless : f ≡ None → false ≡ is_virt arm (root_at b n)
    unfolding is_virt value_of string_in
    virt_rootless e = rw (← root_is, e, armed)

    -- x is where the string of `model` stands
    module _ (q : ℕ) (here : f ≡ Some q) (x : Option Block) (ex : x ≡ string_at b n q model_name) where
      model : held b x ≡ string_in (value_of model_name (props_of (root_at b n)))
      model = rw (← root_is, here, ex) (string_held b n q model_name ∙ ap string_in (value_at b n q model_name))

      pub virt_nameless : x ≡ None → false ≡ is_virt arm (root_at b n)
      unfolding is_virt
      virt_nameless e = rw (armed, ← model, e)

      -- v is the string, and h whether it has the board's
      pub virt_by : (p : Block) → x ≡ Some p → (v : List ℕ) → v ≡ part_of b p.at p.len → (h : Bool) → h ≡ contains v dummy_virt
          → h ≡ is_virt arm (root_at b n)
      unfolding is_virt
      virt_by p e v ev h eh = rw (armed, ← model, e, ← ev) eh

-- ── A child of the root ──
-- x is where `interrupt-controller` stands
module _ (b n : List ℕ) (q : ℕ) (x : Option Block) (is : x ≡ prop_at b n q interrupt_controller_name)
    (way : Way) (by : way ≡ Controllers) (a c : CellCount) where
  pub controller : (p : Block) → x ≡ Some p → (v : Option Block) → v ≡ prop_at b n q reg_name → v ≡ child_value b n way a c q
  unfolding child_value
  controller p e v ev = rw (by, ← value_at b n q interrupt_controller_name, ← is, e) ev

  pub no_controller : x ≡ None → None ≡ child_value b n way a c q
  unfolding child_value
  no_controller e = rw (by, ← value_at b n q interrupt_controller_name, ← is, e)

-- ── A dynamic reservation ──
-- x and y are where `size` and `alloc-ranges` stand, v and w their values, and k whether they leave no choice
pub exact_is : (b n : List ℕ) (q : ℕ) (x : Option Block) → x ≡ prop_at b n q size_name → (y : Option Block) → y ≡ prop_at b n q alloc_ranges_name
    → (p : Block) → x ≡ Some p → (o : Block) → y ≡ Some o
    → (v : List ℕ) → v ≡ part_of b p.at p.len → (w : List ℕ) → w ≡ part_of b o.at o.len
    → (a c : CellCount) (e : Option Region) → e ≡ exact_of a c v w → (k : Option Region) → e ≡ k
    → where_one k (Some o) ≡ dynamic_at b a c (prop_at b n q size_name) (prop_at b n q alloc_ranges_name)
exact_is b n q x ex y ey p hx o hy v ev w ew a c e is k ek = rw (← ex, hx, ← ey, hy, ← ev, ← ew, ← is, ek)

-- ── The entries of a child's value ──
-- in the exact dynamic case the region is the one entry of `alloc-ranges`
exact_row : (size : ℕ) (t : Table Region) (r : Region) → exact_by size t ≡ Some r → t ≡ rows (r ∷ [])
unfolding exact_by
exact_row size unreadable r e = never (cc)
exact_row size (rows []) r e = never (cc)
exact_row size (rows (p ∷ [])) r e = go (eqb p.size size && (ltb 0 size && leb (p.address + size) (2 ^ 64 - 1))) e
  where
    go : (t : Bool) → cond t (Some p) None ≡ Some r → rows (p ∷ []) ≡ rows (r ∷ [])
    go true h = let s : p ≡ r = cc in rw s
    go false h = never (cc)
exact_row size (rows (p ∷ q ∷ l)) r e = never (cc)

exact_one : (a c : CellCount) (v w : List ℕ) (r : Region) → exact_of a c v w ≡ Some r → reg_of a c w ≡ rows (r ∷ [])
unfolding exact_of
exact_one a (Stated k) v w r e = go (eqb (length v) (size_width (Stated k))) e
  where
    go : (t : Bool) → cond t (exact_by (number_at v (size_width (Stated k)) 0) (reg_of a (Stated k) w)) None ≡ Some r
        → reg_of a (Stated k) w ≡ rows (r ∷ [])
    go true h = exact_row _ _ r h
    go false h = never (cc)
exact_one a Absent v w r e = never (cc)
exact_one a Faulty v w r e = never (cc)

module _ (b : List ℕ) (a c : CellCount) where
  -- where there is no value there are no entries
  empty : entries (reg_of a c []) ≡ []
  empty = ap entries (reg_none a c [] refl)

  of_exact : (v : List ℕ) (p : Block) (x : Option Region) → exact_of a c v (part_of b p.at p.len) ≡ x
      → entries (reg_of a c (value_in b (where_one x (Some p)))) ≡ the_one x
  of_exact v p (Some r) e = ap entries (exact_one a c v (part_of b p.at p.len) r e)
  of_exact v p None e = empty

  of_dynamic : (x y : Option Block) → entries (reg_of a c (value_in b (dynamic_at b a c x y))) ≡ dynamic a c (held b x) (held b y)
  of_dynamic None y = empty
  of_dynamic (Some v) None = empty
  of_dynamic (Some v) (Some w) = of_exact (part_of b v.at v.len) w _ refl

  of_reserved : (t : Bool) (x y z : Option Block)
      → entries (reg_of a c (value_in b (cond t (or_value x (dynamic_at b a c y z)) None)))
      ≡ cond t (fixed_or a c (held b x) (dynamic a c (held b y) (held b z))) []
  of_reserved true (Some v) y z = refl
  of_reserved true None y z = of_dynamic y z
  of_reserved false x y z = empty

  of_reg : (x : Option Block) → entries (reg_of a c (value_in b x)) ≡ entries_in a c (held b x)
  of_reg (Some v) = refl
  of_reg None = empty

  of_controller : (t : Bool) (x : Option Block) → entries (reg_of a c (value_in b (cond t x None))) ≡ cond t (entries_in a c (held b x)) []
  of_controller true x = of_reg x
  of_controller false x = empty

-- THE THEOREM: the entries of a child's value are the regions that the child claims
pub child_regions_lem : (b n : List ℕ) (way : Way) (a c : CellCount) (q : ℕ)
    → entries (reg_of a c (value_in b (child_value b n way a c q))) ≡ child_regions way a c (props_of (node_at b n q))
unfolding child_value child_regions
child_regions_lem b n Reserve a c q =
    rw (← value_at b n q reg_name, ← value_at b n q size_name, ← value_at b n q alloc_ranges_name)
    (of_reserved b a c (available (props_of (node_at b n q))) (prop_at b n q reg_name) (prop_at b n q size_name) (prop_at b n q alloc_ranges_name))
child_regions_lem b n Soc a c q = rw (← value_at b n q reg_name) (of_reg b a c (prop_at b n q reg_name))
child_regions_lem b n Controllers a c q =
    rw (← value_at b n q reg_name)
    (of_controller b a c (is_there (value_of interrupt_controller_name (props_of (node_at b n q)))) (prop_at b n q reg_name))
