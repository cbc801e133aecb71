-- The tests of 7 and 8 hold exactly when their words do. Assumes nothing.
use Rattle.std.specs.Prelude.{Option, Some, None}
use mathlib.Core.Path.{◌≡◌, refl, sym, ◌∙◌, ap}
use mathlib.Core.Logic.{◌↔◌, ◌⊎◌, inl, inr, ⊎_elim}
use Prim.Native.Nat.{ℕ}
use native.Mathlib.Omega.{arith}
use mathlib.Core.Bool.{Bool, true, false, ◌&&◌}
use mathlib.Core.List.{List, [], ◌∷◌}
use lib.ListN.{length}
use lib.Dec.{eqb}
use borrow.Author.Tests.{eq-eqb, eqb-true}
use Rattle.words.proofs.BytesLaws.{never}
use Rattle.cells.specs.declared.CellCount.{CellCount}
use Rattle.cells.specs.declared.CellCount.TheVariants.{Stated, Absent, Faulty}
use Rattle.cells.specs.declared.Region.{Region}
use Rattle.cells.specs.Count.{stated_by}
use Rattle.cells.specs.Rows.{Table, unreadable, rows, ranges_of}
use Rattle.cells.proofs.CountLaws.{stated_is, stated_not}
use Rattle.cells.proofs.RowsLaws.{reg_unreadable, ranges_unreadable}
use Rattle.fdt.specs.Tree.{Property, Nodes}
use Rattle.nodes.specs.Cells.{address_cells, size_cells}
use Rattle.reading.specs.Values.{value_of, count_of}
use Rattle.reading.proofs.Values.{same_equal, equal_same}
use Rattle.subtree.specs.Names.{ranges_name, status_name, okay, model_name, dummy_virt, soc_name, reserved_memory_name}
use Rattle.subtree.specs.Subtree.{props_of, under_root}
use Rattle.text.specs.Strings.{string_in}
use Rattle.text.proofs.StringLaws.{contains_exactly}
use Rattle.translation.specs.Translation.{address_of, size_of}
use Rattle.reserved.specs.Reserved.{available_by, available, stated_alike, is_empty, children_count}
use Rattle.claims.specs.Claims.{holds_virt, is_virt}
use Rattle.claims.specs.Judging.{is_unreadable, has_entry, in_value, child_is, bad_reg, bad_ranges}
use Rattle.tree_theorems.specs.Unreadable.{States, ChildrenCount, Counts, UnreadableReg, UnreadableRanges, ReadableEntry, BadReserved, Virtual, BadSoc}
use Rattle.tree_theorems.proofs.SomeChild.{some_exactly}

-- ── Tests ──
both : (x y : Bool) → ((x && y) ≡ true) ↔ ((x ≡ true) × (y ≡ true))
both true y = (λ e. (refl, e), λ w. w.1)
both false y = (λ e. never (cc), λ w. w.0)

-- a test on a value that may be there, where a missing one fails it
in_value_lem : (f : List ℕ → Bool) (v : Option (List ℕ)) → (in_value f false v ≡ true) ↔ ((x : List ℕ) × (v ≡ Some x) × (f x ≡ true))
in_value_lem f None = (λ e. never (cc), λ w. let h = w.1 in never (cc))
in_value_lem f (Some x) = (λ e. (x, refl, e), λ w. let h = w.1 in let g = w.2 in cc)

is_unreadable_lem : {A : Type 0} (t : Table A) → (is_unreadable t ≡ true) ↔ (t ≡ unreadable)
is_unreadable_lem unreadable = (λ e. refl, λ e. refl)
is_unreadable_lem (rows l) = (λ e. never (cc), λ e. never (cc))

has_entry_lem : (t : Table Region) → (has_entry t ≡ true) ↔ ((r : Region) × (l : List Region) × (t ≡ rows (r ∷ l)))
has_entry_lem unreadable = (λ e. never (cc), λ w. let h = w.2 in never (cc))
has_entry_lem (rows []) = (λ e. never (cc), λ w. let h = w.2 in never (cc))
has_entry_lem (rows (r ∷ l)) = (λ e. (r, l, refl), λ w. refl)

-- ── Which children count ──
module _ (name : List ℕ) (ps : List Property) (k : ℕ) where
  states : (count_of (value_of name ps) ≡ Stated k) ↔ States name ps k
  states = (there (value_of name ps) refl, back)
    where
      here : (v : List ℕ) → value_of name ps ≡ Some v → (b : Bool) → eqb (length v) 4 ≡ b → stated_by v ≡ Stated k → States name ps k
      here v e true h q = let i = stated_is v (eqb-true _ _ h) in record { value = v; has = e; long = eqb-true _ _ h; says = cc }
      here v e false h q = let i = stated_not v (λ l. let j = eq-eqb (length v) 4 l in never (cc)) in never (cc)

      there : (v : Option (List ℕ)) → value_of name ps ≡ v → count_of v ≡ Stated k → States name ps k
      there None e q = never (cc)
      there (Some v) e q = here v e (eqb (length v) 4) refl q

      back : States name ps k → count_of (value_of name ps) ≡ Stated k
      back s = ap count_of s.has ∙ stated_is s.value s.long ∙ ap Stated s.says

stated_alike_lem : (c d : CellCount) → (stated_alike c d ≡ true) ↔ ((k : ℕ) × (c ≡ Stated k) × (d ≡ Stated k))
stated_alike_lem (Stated x) (Stated y) = (λ e. (x, refl, ap Stated (sym (eqb-true _ _ e))), λ w. eq-eqb x y (same w.0 w.1 w.2))
  where
    same : (k : ℕ) → Stated x ≡ Stated k → Stated y ≡ Stated k → x ≡ y
    same k h g = cc
stated_alike_lem (Stated x) Absent = (λ e. never (cc), λ w. let h = w.2 in never (cc))
stated_alike_lem (Stated x) Faulty = (λ e. never (cc), λ w. let h = w.2 in never (cc))
stated_alike_lem Absent d = (λ e. never (cc), λ w. let h = w.1 in never (cc))
stated_alike_lem Faulty d = (λ e. never (cc), λ w. let h = w.1 in never (cc))

module _ (root ps : List Property) where
  alike : (name : List ℕ) → (stated_alike (count_of (value_of name root)) (count_of (value_of name ps)) ≡ true) ↔ ((k : ℕ) × States name root k × States name ps k)
  alike name =
      let w = stated_alike_lem (count_of (value_of name root)) (count_of (value_of name ps)) in (
        λ e. let h = w.0 e in (h.0, (states name root h.0).0 h.1, (states name ps h.0).0 h.2),
        λ s. w.1 (s.0, (states name root s.0).1 s.1, (states name ps s.0).1 s.2),
      )

  pub children_count_lem : (children_count root ps ≡ true) ↔ ChildrenCount root ps
  unfolding children_count
  children_count_lem = (
    λ e.
        let a = (both _ _).0 e in
        let b = (both _ _).0 a.1 in
        record { address = (alike address_cells).0 a.0; size = (alike size_cells).0 b.0; ranges = empty (value_of ranges_name ps) b.1 },
    λ c. (both _ _).1 ((alike address_cells).1 c.address, (both _ _).1 ((alike size_cells).1 c.size, rw c.ranges)),
  )
    where
      empty : (v : Option (List ℕ)) → is_empty v ≡ true → v ≡ Some []
      empty None e = never (cc)
      empty (Some []) e = refl
      empty (Some (x ∷ l)) e = let h : length (x ∷ l) ≡ 0 = eqb-true _ _ e in absurd (omega arith)

pub counts : (ps : List Property) → (available ps ≡ true) ↔ Counts ps
unfolding available
counts ps = (there (value_of status_name ps) refl, ⊎_elim (λ e. rw e) (λ e. rw e (equal_same okay okay refl)))
  where
    there : (v : Option (List ℕ)) → value_of status_name ps ≡ v → available_by v ≡ true → (value_of status_name ps ≡ None) ⊎ (value_of status_name ps ≡ Some okay)
    there None e h = inl e
    there (Some v) e h = inr (e ∙ ap Some (same_equal v okay h))

-- ── 7 ──
module _ (parent ps : List Property) where
  reg_child : (child_is true (address_of parent) (size_of parent) ps ≡ true) ↔ (Counts ps × UnreadableReg parent ps)
  unfolding child_is
  reg_child = (
    λ e.
        let a = (both _ _).0 e in
        let v = (in_value_lem _ _).0 a.1 in
        let u = (reg_unreadable (address_of parent) (size_of parent) v.0).0 ((is_unreadable_lem _).0 v.2) in
        ((counts ps).0 a.0, record { value = v.0; has = v.1; nonempty = u.0; why = u.1 }),
    λ w.
        let r = w.1 in
        (both _ _).1 ((counts ps).1 w.0, (in_value_lem _ _).1 (r.value, r.has, (is_unreadable_lem _).1 ((reg_unreadable (address_of parent) (size_of parent) r.value).1 (r.nonempty, r.why)))),
  )

  entry_child : (child_is false (address_of parent) (size_of parent) ps ≡ true) ↔ ReadableEntry parent ps
  unfolding child_is
  entry_child = (
    λ e.
        let v = (in_value_lem _ _).0 e in
        let u = (has_entry_lem _).0 v.2 in
        record { value = v.0; has = v.1; entry = u.0; others = u.1; reads = u.2 },
    λ r. (in_value_lem _ _).1 (r.value, r.has, (has_entry_lem _).1 (r.entry, r.others, r.reads)),
  )

pub bad_reg_exactly : (t : Nodes) → (bad_reg t ≡ true) ↔ BadReserved t
unfolding bad_reg
bad_reg_exactly t = (
  λ e.
      let a = (both _ _).0 e in
      let k = (some_exactly true _ _ _).0 a.1 in
      let c = (reg_child (props_of (under_root reserved_memory_name t)) k.1).0 k.3 in
      record { children = (children_count_lem _ _).0 a.0; place = k.0; own = k.1; child = k.2; counts = c.0; reg = c.1 },
  λ b.
      (both _ _).1
      ((children_count_lem _ _).1 b.children, (some_exactly true _ _ _).1 (b.place, b.own, b.child, (reg_child _ b.own).1 (b.counts, b.reg))),
)

-- ── 8 ──
pub virt_exactly : (arm : Bool) (t : Nodes) → (is_virt arm t ≡ true) ↔ Virtual arm t
unfolding is_virt
virt_exactly arm t = (
  λ e.
      let a = (both _ _).0 e in
      there (string_in (value_of model_name (props_of t))) refl a.0 a.1,
  λ v. (both _ _).1 (v.built, rw v.has ((contains_exactly v.model dummy_virt).1 (v.before, v.after, v.holds))),
)
  where
    there : (s : Option (List ℕ)) → string_in (value_of model_name (props_of t)) ≡ s → arm ≡ true → holds_virt s ≡ true → Virtual arm t
    there None e b h = never (cc)
    there (Some m) e b h =
        let w = (contains_exactly m dummy_virt).0 h in
        record { built = b; model = m; has = e; before = w.0; after = w.1; holds = w.2 }

module _ (parent ps : List Property) where
  ranges_bad : (in_value (λ v. is_unreadable (ranges_of (address_of ps) (address_of parent) (size_of ps) v)) false (value_of ranges_name ps) ≡ true) ↔ UnreadableRanges parent ps
  ranges_bad = (
    λ e.
        let v = (in_value_lem _ _).0 e in
        let u = (ranges_unreadable (address_of ps) (address_of parent) (size_of ps) v.0).0 ((is_unreadable_lem _).0 v.2) in
        record { value = v.0; has = v.1; nonempty = u.0; why = u.1 },
    λ r. (in_value_lem _ _).1 (r.value, r.has, (is_unreadable_lem _).1 ((ranges_unreadable (address_of ps) (address_of parent) (size_of ps) r.value).1 (r.nonempty, r.why))),
  )

-- the test of 8, where the board is not a virtual one
pub bad_ranges_exactly : (arm : Bool) (t : Nodes) → ((is_virt arm t ≡ false) × (bad_ranges t ≡ true)) ↔ BadSoc arm t
unfolding bad_ranges
bad_ranges_exactly arm t = (
  λ e.
      let a = (both _ _).0 e.1 in
      let k = (some_exactly false _ _ _).0 a.1 in
      record {
        board = λ v. clash (is_virt arm t) ((virt_exactly arm t).1 v) e.0;
        place = k.0;
        own = k.1;
        child = k.2;
        entry = (entry_child (props_of (under_root soc_name t)) k.1).0 k.3;
        ranges = (ranges_bad (props_of t) (props_of (under_root soc_name t))).0 a.0;
      },
  λ b. (
    not_virt (is_virt arm t) refl b.board,
    (both _ _).1
        ((ranges_bad (props_of t) (props_of (under_root soc_name t))).1 b.ranges, (some_exactly false _ _ _).1 (b.place, b.own, b.child, (entry_child _ b.own).1 b.entry)),
  ),
)
  where
    clash : (x : Bool) → x ≡ true → x ≡ false → ⊥
    clash x h g = never (cc)

    not_virt : (x : Bool) → is_virt arm t ≡ x → (Virtual arm t → ⊥) → is_virt arm t ≡ false
    not_virt true e f = absurd (f ((virt_exactly arm t).0 e))
    not_virt false e f = e
