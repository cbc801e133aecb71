-- The steps of the search, one law for each answer of the code: from what a step read in the blocks to what specs/ says of the node there,
-- by the laws of the crate subtree. Assumes nothing.
use mathlib.Core.Path.{◌≡◌, refl, sym, ◌∙◌, ap}
use mathlib.Core.Bool.{false}
use mathlib.Core.List.{List, [], ◌∷◌}
use Prim.Native.Nat.{ℕ, suc, ◌+◌, ◌-◌, ◌^◌, ◌≤◌, ◌<◌, max}
use native.Mathlib.Omega.{arith}
use lib.ListN.{length}
use borrow.Author.Tests.{eq-eqb, ne_eqb, le-leb, lt-leb}
use Rattle.std.specs.Prelude.{Option, Some, None}
use Rattle.words.proofs.BytesLaws.{never}
use Rattle.words.specs.Bytes.{part_of}
use Rattle.cells.specs.declared.CellCount.{CellCount}
use Rattle.cells.specs.declared.Region.{Region}
use Rattle.cells.specs.declared.RegRow.{RegRow}
use Rattle.cells.specs.declared.RegRow.TheVariants.{NoReg, PastReg, RegAt}
use Rattle.cells.specs.Rows.{Table, unreadable, rows, reg_of, ranges_of, reg_row}
use Rattle.fdt.specs.Tree.{Nodes, none, node, count, height}
use Rattle.fdt.specs.declared.Block.{Block}
use Rattle.nodes.specs.Nav.{prop_at, first_at, next_at}
use Rattle.nodes.specs.Path.{path_at}
use Rattle.nodes.specs.Cells.{count_at, address_cells, size_cells}
use Rattle.nodes.specs.OnTree.{head_of, kids_of}
use Rattle.reading.specs.Values.{value_of, held, count_of}
use Rattle.windows.specs.declared.Window.{Window}
use Rattle.windows.specs.declared.Window.TheVariants.{Nowhere}
use Rattle.windows.specs.Window.{reach, window}
use Rattle.subtree.specs.Subtree.{node_at, at, root_at, props_of, rest_of, path_to}
use Rattle.subtree.proofs.SubtreeLaws.{kids_at, rest_at, value_at, count_at_lem, first_stands, next_stands, path_at_lem, few}
use Rattle.translation.specs.declared.Sought.{Sought}
use Rattle.translation.specs.declared.Sought.TheVariants.{FirstReg}
use Rattle.translation.specs.declared.Search.{Search}
use Rattle.translation.specs.declared.Search.TheVariants.{Gone, Lost, On}
use Rattle.subtree.specs.Names.{reg_name, ranges_name}
use Rattle.translation.specs.Translation.{address_of, size_of, over, arrived, trail, first_row, start_of, translated, reached}
use Rattle.translation.specs.Search.{begun_at, via_window, up_through, or_on, tried, searched, finished, Begins, row_left, node_left}
use Rattle.translation.proofs.SearchLaws.{tried_on, on_count, search_is}
use Rattle.translation.specs.declared.Translated.{Translated}

-- ── The end ──
module _ (f : Search) (x size k : ℕ) (e : f ≡ Gone x size k) where
  pub ends_below : x + reach size ≤ 2 ^ 64 - 1 → Some (reached (record { address = x; size = size }) k) ≡ finished f
  unfolding finished arrived
  ends_below h = rw (e, le-leb (x + reach size) (2 ^ 64 - 1) h)

  pub ends_past : 2 ^ 64 - 1 < x + reach size → None ≡ finished f
  unfolding finished arrived
  ends_past h = rw (e, lt-leb (x + reach size) (2 ^ 64 - 1) h)

pub ends_nowhere : (f : Search) → ((x size k : ℕ) → f ≡ Gone x size k → ⊥) → None ≡ finished f
unfolding finished
ends_nowhere (Gone x size k) h = absurd (h x size k refl)
ends_nowhere Lost h = refl
ends_nowhere (On m) h = refl

-- ── Through a bus ──

-- w is what the bus at hand does with the region that its children gave
pub up_gone : (W : ℕ → ℕ → Window) (f : Search) (x size k : ℕ) (v w : Window) → f ≡ Gone x size k → v ≡ W x size → v ≡ w → via_window w size k ≡ up_through W f
up_gone W f x size k v w e h i = rw (e, ← h, i)

pub up_other : (W : ℕ → ℕ → Window) (f : Search) → ((x size k : ℕ) → f ≡ Gone x size k → ⊥) → f ≡ up_through W f
up_other W (Gone x size k) h = absurd (h x size k refl)
up_other W Lost h = refl
up_other W (On m) h = refl

-- ── A node's properties ──

-- a row of `reg` as a beginning
abbrev pub row_begun : RegRow → ℕ → Search
row_begun (RegAt r) k = Gone r.address r.size k
row_begun PastReg k = Lost
row_begun NoReg k = Lost

row_begun_lem : (t : Table Region) (k : ℕ) → row_begun (reg_row t 0) k ≡ begun_at (first_row t) k
row_begun_lem unreadable k = refl
row_begun_lem (rows []) k = refl
row_begun_lem (rows (r ∷ l)) k = refl

module _ (b n : List ℕ) (q : ℕ) where
  -- v is what the lookup gave, w the bytes there
  there : (name w : List ℕ) (v : Option Block) (p : Block) → v ≡ prop_at b n q name → v ≡ Some p → w ≡ part_of b p.at p.len
      → value_of name (props_of (node_at b n q)) ≡ Some w
  there name w v p e i h = sym (value_at b n q name) ∙ ap (held b) (sym e ∙ i) ∙ ap Some (sym h)

  absent : (name : List ℕ) (v : Option Block) → v ≡ prop_at b n q name → v ≡ None → value_of name (props_of (node_at b n q)) ≡ None
  absent name v e i = sym (value_at b n q name) ∙ ap (held b) (sym e ∙ i)

  -- the target: its first row of `reg`, by its parent's cells
  module _ (s : Sought) (a c : CellCount) (k : ℕ) (first : s ≡ FirstReg) (v : Option Block) (e : v ≡ prop_at b n q reg_name) where
    pub begins_row : (w : List ℕ) (p : Block) (row r : RegRow) → v ≡ Some p → w ≡ part_of b p.at p.len → row ≡ reg_row (reg_of a c w) 0 → row ≡ r
        → row_begun r k ≡ begun_at (start_of s a c (value_of reg_name (props_of (node_at b n q)))) k
    begins_row w p row r i h j l = rw (first, there reg_name w v p e i h, ← l, j) (row_begun_lem (reg_of a c w) k)

    pub begins_not : v ≡ None → Lost ≡ begun_at (start_of s a c (value_of reg_name (props_of (node_at b n q)))) k
    begins_not i = rw (first, absent reg_name v e i)

  -- a count of cells that the node states for its children
  stated : (name : List ℕ) (own : CellCount) → own ≡ count_at b n q name → own ≡ count_of (value_of name (props_of (node_at b n q)))
  stated name own e = e ∙ count_at_lem b n q name

  -- the search from the first child on, by the cells that the node states, is the search among its children
  below : (target : ℕ) (s : Sought) (k : ℕ) (f : Option ℕ) (a c : CellCount) (inner : Search) → f ≡ first_at b n q → a ≡ count_at b n q address_cells
      → c ≡ count_at b n q size_cells → inner ≡ searched target s (at b n f) a c k
      → inner ≡ searched target s (kids_of (node_at b n q)) (address_of (props_of (node_at b n q))) (size_of (props_of (node_at b n q))) k
  unfolding address_of size_of
  below target s k f a c inner e i j h = rw (kids_at b n q, ← e, ← stated address_cells a i, ← stated size_cells c j) h

  -- a bus: its `ranges`, by its own cells and its parent's
  module _ (up : CellCount) (x size : ℕ) (v : Option Block) (e : v ≡ prop_at b n q ranges_name) where
    pub over_here : (w : List ℕ) (p : Block) (a c : CellCount) (r : Window) → v ≡ Some p → w ≡ part_of b p.at p.len
        → a ≡ count_at b n q address_cells → c ≡ count_at b n q size_cells → r ≡ window false (ranges_of a up c w) x size
        → r ≡ over (props_of (node_at b n q)) up x size
    unfolding over address_of size_of
    over_here w p a c r i h j l o = rw (there ranges_name w v p e i h, ← stated address_cells a j, ← stated size_cells c l) o

    pub over_not : v ≡ None → Nowhere ≡ over (props_of (node_at b n q)) up x size
    unfolding over
    over_not i = rw (absent ranges_name v e i)

-- ── A node that stands ──
module _ (q : ℕ) where
  counted : (t : Nodes) → head_of t ≡ Some q → count t ≡ suc (count (kids_of t) + count (rest_of t))
  counted none e = never (cc)
  counted (node p nm ps kids rest) e = refl

  raised : (t : Nodes) → head_of t ≡ Some q → height t ≡ max (suc (height (kids_of t))) (height (rest_of t))
  raised none e = never (cc)
  raised (node p nm ps kids rest) e = refl

  searched_node : (target : ℕ) (s : Sought) (a c : CellCount) (k : ℕ) (t : Nodes) → head_of t ≡ Some q
      → searched target s t a c k
      ≡ or_on (tried target s q (props_of t) a c k (searched target s (kids_of t) (address_of (props_of t)) (size_of (props_of t)) (k + 1)))
      (λ m. searched target s (rest_of t) a c m)
  unfolding searched
  searched_node target s a c k none e = never (cc)
  searched_node target s a c k (node p nm ps kids rest) e = let z : p ≡ q = cc in rw z

module _ {b n : List ℕ} {q k : ℕ} (p : Begins b n (Some q) k) where
  -- the number of the node itself
  pub numbered : k + 1 ≤ length b + 1
  numbered = let z = counted q (node_at b n q) p.stands in omega arith

  -- its children begin, and have a level less
  pub children : (f : Option ℕ) → f ≡ first_at b n q → Begins b n f (k + 1) × (row_left (at b n f) < node_left (node_at b n q))
  children f e =
      let z = counted q (node_at b n q) p.stands in
      let y : kids_of (node_at b n q) ≡ at b n f = kids_at b n q ∙ ap (at b n) (sym e) in
      let w : count (kids_of (node_at b n q)) ≡ count (at b n f) = ap count y in
      let h : height (kids_of (node_at b n q)) ≡ height (at b n f) = ap height y in
      (record { stands = rw e (first_stands b n q); room = omega arith }, omega arith)

module _ (b n : List ℕ) (q target : ℕ) (s : Sought) (a c : CellCount) (k : ℕ) where
  -- what is to be said of the node at q
  abbrev pub Tried : Search → Type 0
  Tried r =
      r ≡ tried target s q (props_of (node_at b n q)) a c k
      (searched target s (kids_of (node_at b n q)) (address_of (props_of (node_at b n q))) (size_of (props_of (node_at b n q))) (k + 1))

  pub is_target : (r : Search) → q ≡ target → r ≡ begun_at (start_of s a c (value_of reg_name (props_of (node_at b n q)))) (k + 1) → Tried r
  unfolding tried
  is_target r e h = rw (eq-eqb q target e) h

  -- o and z are the node's own cells
  pub is_other : (f : Option ℕ) (o z : CellCount) (inner r : Search) → (q ≡ target → ⊥) → f ≡ first_at b n q → o ≡ count_at b n q address_cells
      → z ≡ count_at b n q size_cells → inner ≡ searched target s (at b n f) o z (k + 1)
      → r ≡ up_through (λ x size. over (props_of (node_at b n q)) a x size) inner → Tried r
  unfolding tried
  is_other f o z inner r ne e i j h u = rw (ne_eqb q target ne, ← below b n q target s (k + 1) f o z inner e i j h) u

-- ── The nodes in a row ──

-- what is not to go on is the answer
pub stays : (f : Search) (g : ℕ → Search) → ((m : ℕ) → f ≡ On m → ⊥) → f ≡ or_on f g
stays (Gone x size k) g h = refl
stays Lost g h = refl
stays (On m) g h = absurd (h m refl)

-- the search from the first of them on is the search from this one on
pub record Goes (b n : List ℕ) (target : ℕ) (s : Sought) (a c : CellCount) (first : Option ℕ) (before : ℕ) (child : Option ℕ) (number : ℕ) : Type 0 where
  pub begins : Begins b n child number
  pub lower : height (at b n child) ≤ height (at b n first)
  pub same : searched target s (at b n first) a c before ≡ searched target s (at b n child) a c number

pub starts : {b n : List ℕ} {target : ℕ} {s : Sought} {a c : CellCount} {f : Option ℕ} {k : ℕ} → Begins b n f k → Goes b n target s a c f k f k
starts p = record { begins = p; lower = omega arith; same = refl }

module _ {b n : List ℕ} {target : ℕ} {s : Sought} {a c : CellCount} {first : Option ℕ} {before : ℕ} {child : Option ℕ} {number : ℕ} (g : Goes b n target s a c first before child number) where
  pub none_left : child ≡ None → On number ≡ searched target s (at b n first) a c before
  unfolding searched
  none_left e = sym (rw e at g.same)

  module _ (q : ℕ) (e : child ≡ Some q) where
    pub node_begins : Begins b n (Some q) number × (node_left (node_at b n q) < row_left (at b n first))
    node_begins =
        let f : height (node_at b n q) ≤ height (at b n first) = rw e at g.lower in
        let i : Begins b n (Some q) number = rw e at g.begins in
        let z = raised q (node_at b n q) i.stands in
        (i, omega arith)

    module _ (r : Search) (h : Tried b n q target s a c number r) where
      -- x is what the node gave: that is the answer, or the nodes after it have it
      pub goes_on : (x : Search) → r ≡ x → or_on x (λ m. searched target s (rest_of (node_at b n q)) a c m) ≡ searched target s (at b n first) a c before
      goes_on x i =
          ap (λ (y : Search). or_on y (λ m. searched target s (rest_of (node_at b n q)) a c m)) (sym i ∙ h)
          ∙ sym (searched_node q target s a c number (node_at b n q) node_begins.0.stands) ∙ sym (rw e at g.same)

      module _ (m : ℕ) (i : r ≡ On m) (next : Option ℕ) (j : next ≡ next_at b n q) where
        after : rest_of (node_at b n q) ≡ at b n next
        after = rest_at b n q ∙ ap (at b n) (sym j)

        -- all nodes of this one were counted
        passed : m + count (at b n next) ≡ number + count (at b n child)
        passed =
            let k = on_count target s (kids_of (node_at b n q)) _ _ (number + 1) m (tried_on target s q _ a c number _ m (sym h ∙ i)) in
            let z = counted q (node_at b n q) node_begins.0.stands in
            rw (e, ← after) (omega arith)

        pub less : count (at b n next) < count (at b n child)
        less = let z = counted q (node_at b n q) node_begins.0.stands in rw (e, ← after) (omega arith)

        pub again : Goes b n target s a c first before next m
        again =
            let l = less in
            let o = passed in
            let z = raised q (node_at b n q) node_begins.0.stands in
            let w : height (node_at b n q) ≤ height (at b n first) = rw e at g.lower in
            let h : height (rest_of (node_at b n q)) ≡ height (at b n next) = ap height after in
            record {
              begins = record { stands = rw j (next_stands b n q); room = omega (arith, g.begins.room) };
              lower = omega arith;
              same = sym (goes_on (On m) i) ∙ ap (λ (t : Nodes). searched target s t a c m) after;
            }

-- ── The whole tree ──

-- at the root's first child no node was tried, and there are no more nodes than bytes
pub root_begins : {b n : List ℕ} {f : Option ℕ} (q : ℕ) → f ≡ first_at b n q → Begins b n f 0
root_begins {b} {n} {f} q e = let z = few b n f in record { stands = rw e (first_stands b n q); room = omega arith }

module _ (b n : List ℕ) (target : ℕ) (s : Sought) (v : Option ℕ) (e : v ≡ path_at b n (47 ∷ [])) where
  root_is : root_at b n ≡ at b n v
  unfolding path_to
  root_is = sym (path_at_lem b n (47 ∷ [])) ∙ ap (at b n) (sym e)

  pub no_root : v ≡ None → None ≡ translated (root_at b n) target s
  unfolding translated trail
  no_root i = rw (root_is, i)

  module _ (q : ℕ) (i : v ≡ Some q) (f : Option ℕ) (j : f ≡ first_at b n q) where
    pub from_root : (a c : CellCount) (inner : Search) (r : Option Translated) → a ≡ count_at b n q address_cells → c ≡ count_at b n q size_cells
        → inner ≡ searched target s (at b n f) a c 0 → r ≡ finished inner → r ≡ translated (root_at b n) target s
    from_root a c inner r k l h o =
        rw (root_is, i, ← search_is (node_at b n q) target s, ← below b n q target s 0 f a c inner j k l h) o
