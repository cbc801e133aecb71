-- Laws on what a tree is refused for: the answers of the code, from what it reads at the nodes' places. Assumes nothing.
use mathlib.Core.Path.{◌≡◌, refl, sym, ◌∙◌, ap}
use Prim.Native.Nat.{ℕ, ◌<◌}
use native.Mathlib.Omega.{arith}
use mathlib.Core.List.{List, [], ◌∷◌}
use mathlib.Core.Bool.{Bool, true, false, cond, ◌&&◌, ◌||◌}
use Rattle.std.specs.Prelude.{Ok, Err, Option, Some, None}
use Rattle.words.specs.Bytes.{part_of}
use Rattle.words.proofs.BytesLaws.{never}
use Rattle.cells.specs.declared.CellCount.{CellCount}
use Rattle.cells.specs.declared.CellCount.TheVariants.{Stated, Absent, Faulty}
use Rattle.cells.specs.declared.Region.{Region}
use Rattle.cells.specs.declared.Range.{Range}
use Rattle.cells.specs.declared.RegRow.{RegRow}
use Rattle.cells.specs.declared.RegRow.TheVariants.{NoReg, PastReg, RegAt}
use Rattle.cells.specs.declared.RangeRow.{RangeRow}
use Rattle.cells.specs.declared.RangeRow.TheVariants.{NoRange, PastRange, RangeAt}
use Rattle.cells.specs.Rows.{Table, unreadable, rows, reg_of, ranges_of, reg_row, range_row}
use Rattle.fdt.specs.Tree.{Nodes, none, node, count}
use Rattle.fdt.specs.declared.Block.{Block}
use Rattle.nodes.specs.Nav.{first_at, next_at, prop_at, child_at}
use Rattle.nodes.specs.Path.{path_at}
use Rattle.nodes.specs.Cells.{address_cells, size_cells, count_at}
use Rattle.nodes.specs.OnTree.{head_of, kids_of, find_k}
use Rattle.reading.specs.Values.{value_of, count_of}
use Rattle.subtree.specs.Names.{reg_name, ranges_name, soc_name, reserved_memory_name}
use Rattle.subtree.specs.Subtree.{node_at, at, root_at, Stands, props_of, rest_of, under_root}
use Rattle.subtree.proofs.SubtreeLaws.{kids_at, rest_at, value_at, count_at_lem, child_at_lem, first_stands, next_stands}
use Rattle.text.specs.Strings.{string_in}
use Rattle.translation.specs.Translation.{address_of, size_of}
use Rattle.reserved.specs.Reserved.{available, stated_alike, children_count}
use Rattle.claims.specs.Claims.{is_virt}
use Rattle.claims.specs.Judging.{is_unreadable, has_entry, child_is, some_kid, bad_reg, bad_ranges, judged_of}
use Rattle.claims.specs.declared.ValueFault.TheVariants.{UnreadableReg, UnreadableRanges}
use Rattle.claims.proofs.ClaimLaws.{root_is}

-- ── A table by its first row ──
abbrev pub no_reg : RegRow → Bool
no_reg NoReg = true
no_reg PastReg = false
no_reg (RegAt r) = false

abbrev pub some_reg : RegRow → Bool
some_reg NoReg = false
some_reg PastReg = false
some_reg (RegAt r) = true

abbrev pub no_range : RangeRow → Bool
no_range NoRange = true
no_range PastRange = false
no_range (RangeAt r) = false

reg_unreadable : (t : Table Region) → no_reg (reg_row t 0) ≡ is_unreadable t
reg_unreadable unreadable = refl
reg_unreadable (rows []) = refl
reg_unreadable (rows (r ∷ l)) = refl

reg_entry : (t : Table Region) → some_reg (reg_row t 0) ≡ has_entry t
reg_entry unreadable = refl
reg_entry (rows []) = refl
reg_entry (rows (r ∷ l)) = refl

ranges_unreadable : (t : Table Range) → no_range (range_row t 0) ≡ is_unreadable t
ranges_unreadable unreadable = refl
ranges_unreadable (rows []) = refl
ranges_unreadable (rows (r ∷ l)) = refl

pub no_unreadable : (x : RegRow) → (x ≡ NoReg → ⊥) → false ≡ no_reg x
no_unreadable NoReg h = absurd (h refl)
no_unreadable PastReg h = refl
no_unreadable (RegAt r) h = refl

pub no_entry : (x : RegRow) → ((r : Region) → x ≡ RegAt r → ⊥) → false ≡ some_reg x
no_entry NoReg h = refl
no_entry PastReg h = refl
no_entry (RegAt r) h = absurd (h r refl)

pub readable_row : (x : RangeRow) → (x ≡ NoRange → ⊥) → no_range x ≡ false
readable_row NoRange h = absurd (h refl)
readable_row PastRange h = refl
readable_row (RangeAt r) h = refl

-- ── A child ──
and_false : (t : Bool) → false ≡ t && false
and_false true = refl
and_false false = refl

-- x is where its `reg` stands
module _ (b n : List ℕ) (q : ℕ) (x : Option Block) (is : x ≡ prop_at b n q reg_name) (reserved : Bool) (a c : CellCount) where
  pub is_without : x ≡ None → false ≡ child_is reserved a c (props_of (node_at b n q))
  unfolding child_is
  is_without e = go reserved
    where
      go : (t : Bool) → false ≡ child_is t a c (props_of (node_at b n q))
      go true = rw (← value_at b n q reg_name, ← is, e) (and_false (available (props_of (node_at b n q))))
      go false = rw (← value_at b n q reg_name, ← is, e)

  -- v is its value, and row the first row of that
  module _ (p : Block) (here : x ≡ Some p) (v : List ℕ) (ev : v ≡ part_of b p.at p.len)
      (row : RegRow) (er : row ≡ reg_row (reg_of a c v) 0) where
    value : Some v ≡ value_of reg_name (props_of (node_at b n q))
    value = rw (← value_at b n q reg_name, ← is, here, ev)

    -- s says whether it counts
    module _ (counted : reserved ≡ true) (s : Bool) (es : s ≡ available (props_of (node_at b n q))) where
      pub is_other : s ≡ false → false ≡ child_is reserved a c (props_of (node_at b n q))
      unfolding child_is
      is_other h = rw (counted, ← es, h)

      pub is_reserved : s ≡ true → (k : RegRow) → row ≡ k → no_reg k ≡ child_is reserved a c (props_of (node_at b n q))
      unfolding child_is
      is_reserved h k e = rw (counted, ← es, h, ← value) (ap no_reg (sym e ∙ er) ∙ reg_unreadable (reg_of a c v))

    pub is_device : reserved ≡ false → (k : RegRow) → row ≡ k → some_reg k ≡ child_is reserved a c (props_of (node_at b n q))
    unfolding child_is
    is_device h k e = rw (h, ← value) (ap some_reg (sym e ∙ er) ∙ reg_entry (reg_of a c v))

-- ── Children in a row ──
module _ (reserved : Bool) (a c : CellCount) where
  some_split : (t : Nodes) (q : ℕ) → head_of t ≡ Some q
      → some_kid reserved a c t ≡ child_is reserved a c (props_of t) || some_kid reserved a c (rest_of t)
  unfolding some_kid
  some_split none q e = never (cc)
  some_split (node p nm ps kids rest) q e = refl

rest_fewer : (t : Nodes) (q : ℕ) → head_of t ≡ Some q → count (rest_of t) < count t
rest_fewer none q e = never (cc)
rest_fewer (node p nm ps kids rest) q e = omega arith

-- some child from f on is what is looked for exactly if one from g on is; and a node stands at g
pub record From (b n : List ℕ) (reserved : Bool) (a c : CellCount) (f g : Option ℕ) : Type 0 where
  pub stands : Stands b n g
  pub same : some_kid reserved a c (at b n f) ≡ some_kid reserved a c (at b n g)

module _ (b n : List ℕ) (reserved : Bool) (a c : CellCount) (f g : Option ℕ) (l : From b n reserved a c f g) where
  pub none_left : g ≡ None → false ≡ some_kid reserved a c (at b n f)
  unfolding some_kid
  none_left e = sym (rw e at l.same)

  module _ (q : ℕ) (here : g ≡ Some q) where
    stands_here : Stands b n (Some q)
    stands_here = rw here at l.stands

    -- next is the sibling after it
    pub next_nearer : (next : Option ℕ) → next ≡ next_at b n q → count (at b n next) < count (at b n g)
    next_nearer next e = rw (here, e, ← rest_at b n q) (rest_fewer (node_at b n q) q stands_here)

    -- t says whether it is what is looked for
    module _ (t : Bool) (is : t ≡ child_is reserved a c (props_of (node_at b n q))) where
      split : some_kid reserved a c (at b n f) ≡ t || some_kid reserved a c (at b n (next_at b n q))
      split = rw (is, ← rest_at b n q) (rw here at l.same ∙ some_split reserved a c (node_at b n q) q stands_here)

      pub this_is : t ≡ true → true ≡ some_kid reserved a c (at b n f)
      this_is h = sym (rw h at split)

      pub next_from : t ≡ false → (next : Option ℕ) → next ≡ next_at b n q → From b n reserved a c f next
      next_from h next e = record { stands = rw e (next_stands b n q); same = rw e (rw h at split) }

-- ── The root's child of a name, and its children ──
under : (b n : List ℕ) (root : ℕ) (name : List ℕ) (f : Option ℕ) → f ≡ child_at b n root name → at b n f ≡ under_root name (node_at b n root)
under b n root name f is = ap (at b n) is ∙ child_at_lem b n root name

pub first_found : (b n : List ℕ) (q : ℕ) (g : Option ℕ) → g ≡ first_at b n q → Stands b n g
first_found b n q g e = rw e (first_stands b n q)

-- by the cells x and y of the node at q, from its first child g on
kids_some : (reserved : Bool) (b n : List ℕ) (q : ℕ) (x y : CellCount) → x ≡ count_at b n q address_cells → y ≡ count_at b n q size_cells
    → (g : Option ℕ) → g ≡ first_at b n q
    → some_kid reserved x y (at b n g) ≡ some_kid reserved (address_of (props_of (node_at b n q))) (size_of (props_of (node_at b n q))) (kids_of (node_at b n q))
unfolding address_of size_of
kids_some reserved b n q x y ex ey g eg = rw (ex, ey, eg, count_at_lem b n q address_cells, count_at_lem b n q size_cells, kids_at b n q)

-- ── 7 ──
alike_absent : (x : CellCount) → stated_alike x Absent ≡ false
alike_absent (Stated k) = refl
alike_absent Absent = refl
alike_absent Faulty = refl

-- f is where /reserved-memory stands
module _ (b n : List ℕ) (root : ℕ) (f : Option ℕ) (is : f ≡ child_at b n root reserved_memory_name) where
  pub no_reserved : f ≡ None → false ≡ bad_reg (node_at b n root)
  unfolding bad_reg children_count value_of
  no_reserved e = rw (← under b n root reserved_memory_name f is, e, alike_absent (count_of (value_of address_cells (props_of (node_at b n root)))))

  -- k says whether its children count
  module _ (q : ℕ) (here : f ≡ Some q) (k : Bool) (ek : k ≡ children_count (props_of (node_at b n root)) (props_of (node_at b n q))) where
    pub uncounted : k ≡ false → false ≡ bad_reg (node_at b n root)
    unfolding bad_reg
    uncounted h = rw (← under b n root reserved_memory_name f is, here, ← ek, h)

    pub counted : k ≡ true → (g : Option ℕ) → g ≡ first_at b n q
        → (x y : CellCount) → x ≡ count_at b n q address_cells → y ≡ count_at b n q size_cells
        → (r : Bool) → r ≡ some_kid true x y (at b n g) → r ≡ bad_reg (node_at b n root)
    unfolding bad_reg
    counted h g eg x y ex ey r er =
        rw (← under b n root reserved_memory_name f is, here, ← ek, h) (er ∙ kids_some true b n q x y ex ey g eg)

-- ── 8 ──
-- f is where /soc stands
module _ (b n : List ℕ) (root : ℕ) (f : Option ℕ) (is : f ≡ child_at b n root soc_name) where
  pub no_soc : f ≡ None → false ≡ bad_ranges (node_at b n root)
  unfolding bad_ranges value_of
  no_soc e = rw (← under b n root soc_name f is, e)

  -- x is where its `ranges` stands
  module _ (q : ℕ) (here : f ≡ Some q) (x : Option Block) (ex : x ≡ prop_at b n q ranges_name) where
    pub no_ranges : x ≡ None → false ≡ bad_ranges (node_at b n root)
    unfolding bad_ranges
    no_ranges e = rw (← under b n root soc_name f is, here, ← value_at b n q ranges_name, ← ex, e)

    -- v is their value, by its own cells and the root's, and row the first row of that
    module _ (p : Block) (there : x ≡ Some p) (v : List ℕ) (ev : v ≡ part_of b p.at p.len)
        (own parent long : CellCount) (eo : own ≡ count_at b n q address_cells) (ep : parent ≡ count_at b n root address_cells)
        (el : long ≡ count_at b n q size_cells) (row : RangeRow) (er : row ≡ range_row (ranges_of own parent long v) 0) where
      bad : bad_ranges (node_at b n root)
          ≡ no_range row && some_kid false (address_of (props_of (node_at b n q))) (size_of (props_of (node_at b n q))) (kids_of (node_at b n q))
      unfolding bad_ranges address_of size_of
      bad =
          rw (← under b n root soc_name f is, here, ← value_at b n q ranges_name, ← ex, there, ← ev)
          (rw (er, ranges_unreadable (ranges_of own parent long v))
          (rw (eo, ep, el, count_at_lem b n q address_cells, count_at_lem b n root address_cells, count_at_lem b n q size_cells)))

      pub readable : (k : RangeRow) → row ≡ k → no_range k ≡ false → false ≡ bad_ranges (node_at b n root)
      readable k e h = rw (bad, e, h)

      pub met : row ≡ NoRange → (g : Option ℕ) → g ≡ first_at b n q → (r : Bool) → r ≡ some_kid false own long (at b n g)
          → r ≡ bad_ranges (node_at b n root)
      met e g eg r h = rw (bad, e) (h ∙ kids_some false b n q own long eo el g eg)

-- ── 7 before 8 ──
module _ (b n : List ℕ) (f : Option ℕ) (is : f ≡ path_at b n (47 ∷ [])) where
  pub judged_rootless : (arm : Bool) → f ≡ None → Ok tt ≡ judged_of arm (root_at b n)
  unfolding judged_of bad_reg bad_ranges is_virt find_k children_count value_of string_in
  judged_rootless arm e = rw (← root_is b n f is, e) (go arm)
    where
      go : (t : Bool) → Ok tt ≡ judged_of t none
      go true = refl
      go false = refl

  -- what is said of the node at q is said of the root
  pub of_root : (q : ℕ) → f ≡ Some q → (p : Nodes → Bool) (x : Bool) → x ≡ p (node_at b n q) → x ≡ p (root_at b n)
  of_root q e p x h = rw (← root_is b n f is, e) h

module _ (arm : Bool) (t : Nodes) (x : Bool) (ex : x ≡ bad_reg t) where
  pub judged_reg : x ≡ true → Err UnreadableReg ≡ judged_of arm t
  unfolding judged_of
  judged_reg h = rw (← ex, h)

  module _ (hx : x ≡ false) (y : Bool) (ey : y ≡ is_virt arm t) where
    pub judged_virt : y ≡ true → Ok tt ≡ judged_of arm t
    unfolding judged_of
    judged_virt h = rw (← ex, hx, ← ey, h)

    -- k is what `ranges` say
    pub judged_ranges : y ≡ false → (z : Bool) → z ≡ bad_ranges t → (k : Bool) → z ≡ k → cond k (Err UnreadableRanges) (Ok tt) ≡ judged_of arm t
    unfolding judged_of
    judged_ranges hy z ez k h = rw (← ex, hx, ← ey, hy, ← ez, h)
