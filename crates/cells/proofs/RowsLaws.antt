-- Laws on the rows of `reg` and `ranges`. On any table, once for both: it is unreadable exactly if it is not empty and a width is at fault or
-- bytes are left over; an empty value has no rows; row i is there exactly if the table is readable and i is below the number of rows, and
-- then it is what stands at i rows from the start. Assumes nothing.
use mathlib.Core.Path.{◌≡◌, refl, sym, ◌∙◌, ap}
use Prim.Native.Nat.{ℕ, zero, suc, ◌+◌, ◌*◌, ◌/◌, ◌%◌, ◌≤◌, ◌<◌}
use native.Mathlib.Nat.{le-div_iff_mul-le}
use native.Mathlib.Omega.{arith}
use mathlib.Core.List.{List, [], ◌∷◌}
use mathlib.Core.Bool.{Bool, true, false, ◌||◌, or-true}
use mathlib.Core.Logic.{◌↔◌, ◌⊎◌, inl, inr, ⊎_map}
use lib.ListN.{length, get_or}
use lib.Dec.{eqb, ltb}
use borrow.Author.Tests.{eq-eqb, ne_eqb, eqb-true, eqb-false, ltb-true, ltb-false}
use Rattle.cells.specs.declared.CellCount.{CellCount}
use Rattle.cells.specs.Count.{address_width, size_width, Unfit}
use Rattle.words.proofs.BytesLaws.{never}
use Rattle.cells.proofs.CountLaws.{address_none, size_none}
use Rattle.cells.specs.Rows.{Table, unreadable, rows, region_at, range_at, rows_from, table_of, reg_of, ranges_of, reg_row, range_row}
use Rattle.cells.specs.declared.Region.{Region}
use Rattle.cells.specs.declared.Range.{Range}
use Rattle.cells.specs.declared.RegRow.TheVariants.{NoReg, PastReg, RegAt}
use Rattle.cells.specs.declared.RangeRow.TheVariants.{NoRange, PastRange, RangeAt}

-- a row lies inside the value
pub in_room : (n w i : ℕ) → 0 < w → i < n / w → i * w + w ≤ n
in_room n w i pos h = let q : suc i * w ≤ n = (le-div_iff_mul-le {k = w} {x = suc i} {y = n} pos).0 (omega arith) in omega arith

-- ── Which tables are readable ──
-- what document 01 calls unreadable
abbrev pub Unreadable : Bool → ℕ → ℕ → Type 0
Unreadable faulty w n = (n ≡ 0 → ⊥) × ((faulty ≡ true) ⊎ ((w ≡ 0) ⊎ (n % w ≡ 0 → ⊥)))

-- what has rows
pub record Readable (faulty : Bool) (w n : ℕ) : Type 0 where
  pub filled : n ≡ 0 → ⊥
  pub sound : faulty ≡ false
  pub wide : w ≡ 0 → ⊥
  pub whole : n % w ≡ 0

-- one of three
cases : {C : Type 0} (faulty : Bool) (w n : ℕ) → (n ≡ 0 → C) → (Unreadable faulty w n → C) → (Readable faulty w n → C) → C
cases {C} faulty w n f g h = go (eqb n 0) refl faulty refl (eqb w 0) refl (eqb (n % w) 0) refl
  where
    go : (p : Bool) → eqb n 0 ≡ p → (q : Bool) → faulty ≡ q → (r : Bool) → eqb w 0 ≡ r → (t : Bool) → eqb (n % w) 0 ≡ t → C
    go true e q u r v t x = f (eqb-true _ _ e)
    go false e true u r v t x = g (eqb-false _ _ e, inl u)
    go false e false u true v t x = g (eqb-false _ _ e, inr (inl (eqb-true _ _ v)))
    go false e false u false v false x = g (eqb-false _ _ e, inr (inr (eqb-false _ _ x)))
    go false e false u false v true x =
        h (record { filled = eqb-false _ _ e; sound = u; wide = eqb-false _ _ v; whole = eqb-true _ _ x })

module _ {A : Type 0} (row : ℕ → A) where
  pub table_empty : (faulty : Bool) (w n : ℕ) → n ≡ 0 → table_of row faulty w n ≡ rows []
  unfolding table_of
  table_empty faulty w n h = rw (eq-eqb _ _ h)

  table_not : (faulty : Bool) (w n : ℕ) → Unreadable faulty w n → table_of row faulty w n ≡ unreadable
  unfolding table_of
  table_not true w n (f, b) = rw (ne_eqb _ _ f)
  table_not false w n (f, inl e) = never (cc)
  table_not false w n (f, inr (inl e)) = rw (ne_eqb _ _ f, eq-eqb _ _ e)
  table_not false w n (f, inr (inr o)) = rw (ne_eqb _ _ f, ne_eqb _ _ o, or-true)

  pub table_rows : (faulty : Bool) (w n : ℕ) → Readable faulty w n → table_of row faulty w n ≡ rows (rows_from row w (n / w) 0)
  unfolding table_of
  table_rows faulty w n r = rw (ne_eqb _ _ r.filled, r.sound, ne_eqb _ _ r.wide, eq-eqb _ _ r.whole)

  -- both ways
  pub table_unreadable : (faulty : Bool) (w n : ℕ) → table_of row faulty w n ≡ unreadable ↔ Unreadable faulty w n
  table_unreadable faulty w n = (
    λ e. cases faulty w n (λ h. let a = table_empty faulty w n h in never (cc)) (λ u. u)
        (λ r. let a = table_rows faulty w n r in never (cc)),
    table_not faulty w n,
  )

-- ── Row i ──
module _ {A : Type 0} (row : ℕ → A) (w : ℕ) where
  pub rows_length : (k o : ℕ) → length (rows_from row w k o) ≡ k
  unfolding rows_from
  rows_length zero o = refl
  rows_length (suc k) o = ap suc (rows_length k (o + w))

  pub rows_row : (d : A) (k i o : ℕ) → i < k → get_or (rows_from row w k o) i d ≡ row (o + i * w)
  unfolding rows_from
  rows_row d zero i o h = let b : ⊥ = omega arith in absurd b
  rows_row d (suc k) zero o h = let e : o ≡ o + 0 * w = omega arith in ap row e
  rows_row d (suc k) (suc i) o h = let e : o + w + i * w ≡ o + suc i * w = omega arith in rows_row d k i (o + w) (omega arith) ∙ ap row e

-- what `reg_row` and `range_row` have in common: they pick row i of a table
pub record Picks {A R : Type 0} (f : Table A → ℕ → R) (no past : R) (some : A → R) : Type 0 where
  pub none : (i : ℕ) → f unreadable i ≡ no
  pub end : (i : ℕ) → f (rows []) i ≡ past
  pub here : (r : A) (l : List A) → f (rows (r ∷ l)) zero ≡ some r
  pub later : (r : A) (l : List A) (i : ℕ) → f (rows (r ∷ l)) (suc i) ≡ f (rows l) i
  pub one : (r q : A) → some r ≡ some q → r ≡ q
  pub not_no : (r : A) → some r ≡ no → ⊥
  pub not_past : (r : A) → some r ≡ past → ⊥
  pub no_past : no ≡ past → ⊥

module _ {A R : Type 0} {f : Table A → ℕ → R} {no past : R} {some : A → R} (p : Picks f no past some) where
  pick_there : (l : List A) (i : ℕ) (d : A) → i < length l → f (rows l) i ≡ some (get_or l i d)
  pick_there [] i d h = let b : ⊥ = omega arith in absurd b
  pick_there (r ∷ l) zero d h = p.here r l
  pick_there (r ∷ l) (suc i) d h = p.later r l i ∙ pick_there l i d (omega arith)

  pick_past : (l : List A) (i : ℕ) → length l ≤ i → f (rows l) i ≡ past
  pick_past [] i h = p.end i
  pick_past (r ∷ l) zero h = let b : ⊥ = omega arith in absurd b
  pick_past (r ∷ l) (suc i) h = p.later r l i ∙ pick_past l i (omega arith)

  -- row i is there exactly when the table is readable and i is below the number of rows
  pub row_there : (t : Table A) (i : ℕ) (r : A) → f t i ≡ some r ↔ ((l : List A) × (t ≡ rows l) × (i < length l) × (get_or l i r ≡ r))
  row_there t i r = (to t, λ q. ap (λ (u : Table A). f u i) q.1 ∙ pick_there q.0 i r q.2 ∙ ap some q.3)
    where
      inside : (l : List A) (b : Bool) → ltb i (length l) ≡ b → f (rows l) i ≡ some r → (k : List A) × (rows l ≡ rows k) × (i < length k) × (get_or k i r ≡ r)
      inside l true u h =
          let m : i < length l = ltb-true _ _ u in
          (l, refl, m, p.one _ _ (sym (pick_there l i r m) ∙ h))
      inside l false u h = absurd (p.not_past r (sym h ∙ pick_past l i (ltb-false _ _ u)))

      to : (u : Table A) → f u i ≡ some r → (l : List A) × (u ≡ rows l) × (i < length l) × (get_or l i r ≡ r)
      to unreadable h = absurd (p.not_no r (sym h ∙ p.none i))
      to (rows l) h = inside l (ltb i (length l)) refl h

  module _ (row : ℕ → A) (faulty : Bool) (w n i : ℕ) where
    pub at_empty : n ≡ 0 → f (table_of row faulty w n) i ≡ past
    at_empty h = ap (λ (u : Table A). f u i) (table_empty row faulty w n h) ∙ p.end i

    pub at_unreadable : Unreadable faulty w n → f (table_of row faulty w n) i ≡ no
    at_unreadable h = ap (λ (u : Table A). f u i) ((table_unreadable row faulty w n).1 h) ∙ p.none i

    pub at_past : Readable faulty w n → n / w ≤ i → f (table_of row faulty w n) i ≡ past
    at_past g h =
        ap (λ (u : Table A). f u i) (table_rows row faulty w n g) ∙
        pick_past (rows_from row w (n / w) 0) i (omega (arith, rows_length row w (n / w) 0))

    pub at_row : Readable faulty w n → i < n / w → f (table_of row faulty w n) i ≡ some (row (i * w))
    at_row g h =
        let e : 0 + i * w ≡ i * w = omega arith in
        ap (λ (u : Table A). f u i) (table_rows row faulty w n g) ∙
        pick_there (rows_from row w (n / w) 0) i (row 0) (omega (arith, rows_length row w (n / w) 0)) ∙
        ap some (rows_row row w (row 0) (n / w) i 0 h ∙ ap row e)

    -- each answer exactly when
    pub gives_no : f (table_of row faulty w n) i ≡ no ↔ Unreadable faulty w n
    gives_no = (
      λ e. cases faulty w n (λ h. absurd (p.no_past (sym e ∙ at_empty h))) (λ u. u)
          (λ g. split g (ltb i (n / w)) refl e),
      at_unreadable,
    )
      where
        split : Readable faulty w n → (b : Bool) → ltb i (n / w) ≡ b → f (table_of row faulty w n) i ≡ no → Unreadable faulty w n
        split g true u e = absurd (p.not_no _ (sym (at_row g (ltb-true _ _ u)) ∙ e))
        split g false u e = absurd (p.no_past (sym e ∙ at_past g (ltb-false _ _ u)))

    pub gives_row : (r : A) → f (table_of row faulty w n) i ≡ some r ↔ (Readable faulty w n × (i < n / w) × (r ≡ row (i * w)))
    gives_row r = (
      λ e. cases faulty w n (λ h. absurd (p.not_past r (sym e ∙ at_empty h))) (λ u. absurd (p.not_no r (sym e ∙ at_unreadable u)))
          (λ g. split g (ltb i (n / w)) refl e),
      λ q. at_row q.0 q.1 ∙ ap some (sym q.2),
    )
      where
        split : Readable faulty w n → (b : Bool) → ltb i (n / w) ≡ b → f (table_of row faulty w n) i ≡ some r → Readable faulty w n × (i < n / w) × (r ≡ row (i * w))
        split g true u e = let m : i < n / w = ltb-true _ _ u in (g, m, p.one _ _ (sym e ∙ at_row g m))
        split g false u e = absurd (p.not_past r (sym e ∙ at_past g (ltb-false _ _ u)))

    pub gives_past : f (table_of row faulty w n) i ≡ past ↔ ((n ≡ 0) ⊎ (Readable faulty w n × (n / w ≤ i)))
    gives_past = (λ e. cases faulty w n inl (λ u. absurd (p.no_past (sym (at_unreadable u) ∙ e))) (λ g. split g (ltb i (n / w)) refl e), back)
      where
        split : Readable faulty w n → (b : Bool) → ltb i (n / w) ≡ b → f (table_of row faulty w n) i ≡ past → (n ≡ 0) ⊎ (Readable faulty w n × (n / w ≤ i))
        split g true u e = absurd (p.not_past _ (sym (at_row g (ltb-true _ _ u)) ∙ e))
        split g false u e = inr (g, ltb-false _ _ u)

        back : (n ≡ 0) ⊎ (Readable faulty w n × (n / w ≤ i)) → f (table_of row faulty w n) i ≡ past
        back (inl h) = at_empty h
        back (inr (g, h)) = at_past g h

-- ── Two widths and three ──
zero_or : (x : ℕ) (b : Bool) → (eqb x 0 || b) ≡ true ↔ ((x ≡ 0) ⊎ (b ≡ true))
zero_or x b = (to (eqb x 0) refl, from)
  where
    to : (t : Bool) → eqb x 0 ≡ t → (t || b) ≡ true → (x ≡ 0) ⊎ (b ≡ true)
    to true e h = inl (eqb-true _ _ e)
    to false e h = inr h

    from : (x ≡ 0) ⊎ (b ≡ true) → (eqb x 0 || b) ≡ true
    from (inl e) = rw (eq-eqb _ _ e)
    from (inr e) = rw (e, or-true)

no_zero : (x : ℕ) (b : Bool) → (eqb x 0 || b) ≡ false ↔ ((x ≡ 0 → ⊥) × (b ≡ false))
no_zero x b = (to (eqb x 0) refl, λ h. rw (ne_eqb _ _ h.0, h.1))
  where
    to : (t : Bool) → eqb x 0 ≡ t → (t || b) ≡ false → (x ≡ 0 → ⊥) × (b ≡ false)
    to true e h = never (cc)
    to false e h = (eqb-false _ _ e, h)

module _ (x z n : ℕ) where
  pub unreadable_two : Unreadable (eqb x 0 || eqb z 0) (x + z) n ↔ ((n ≡ 0 → ⊥) × ((x ≡ 0) ⊎ ((z ≡ 0) ⊎ (n % (x + z) ≡ 0 → ⊥))))
  unreadable_two = (λ u. (u.0, to u.1), λ u. (u.0, from u.1))
    where
      to : (((eqb x 0 || eqb z 0) ≡ true) ⊎ ((x + z ≡ 0) ⊎ (n % (x + z) ≡ 0 → ⊥))) → (x ≡ 0) ⊎ ((z ≡ 0) ⊎ (n % (x + z) ≡ 0 → ⊥))
      to (inl e) = ⊎_map (λ h. h) (λ h. inl (eqb-true _ _ h)) ((zero_or x (eqb z 0)).0 e)
      to (inr (inl e)) = inl (omega arith)
      to (inr (inr o)) = inr (inr o)

      from : (x ≡ 0) ⊎ ((z ≡ 0) ⊎ (n % (x + z) ≡ 0 → ⊥)) → (((eqb x 0 || eqb z 0) ≡ true) ⊎ ((x + z ≡ 0) ⊎ (n % (x + z) ≡ 0 → ⊥)))
      from (inl e) = inl ((zero_or x _).1 (inl e))
      from (inr (inl e)) = inl ((zero_or x _).1 (inr (eq-eqb _ _ e)))
      from (inr (inr o)) = inr (inr o)

  pub readable_two : Readable (eqb x 0 || eqb z 0) (x + z) n ↔ ((n ≡ 0 → ⊥) × (x ≡ 0 → ⊥) × (z ≡ 0 → ⊥) × (n % (x + z) ≡ 0))
  readable_two = (
    λ r. let s = (no_zero x (eqb z 0)).0 r.sound in (r.filled, s.0, eqb-false _ _ s.1, r.whole),
    λ q.
        record { filled = q.0; sound = (no_zero x _).1 (q.1, ne_eqb _ _ q.2); wide = λ e. q.1 (omega arith); whole = q.3 },
  )

module _ (x y z n : ℕ) where
  pub unreadable_three :
      Unreadable (eqb x 0 || (eqb y 0 || eqb z 0)) (x + y + z) n ↔
      ((n ≡ 0 → ⊥) × ((x ≡ 0) ⊎ ((y ≡ 0) ⊎ ((z ≡ 0) ⊎ (n % (x + y + z) ≡ 0 → ⊥)))))
  unreadable_three = (λ u. (u.0, to u.1), λ u. (u.0, from u.1))
    where
      to : (((eqb x 0 || (eqb y 0 || eqb z 0)) ≡ true) ⊎ ((x + y + z ≡ 0) ⊎ (n % (x + y + z) ≡ 0 → ⊥))) → (x ≡ 0) ⊎ ((y ≡ 0) ⊎ ((z ≡ 0) ⊎ (n % (x + y + z) ≡ 0 → ⊥)))
      to (inl e) = ⊎_map (λ h. h) (λ h. ⊎_map (λ g. g) (λ g. inl (eqb-true _ _ g)) ((zero_or y (eqb z 0)).0 h)) ((zero_or x (eqb y 0 || eqb z 0)).0 e)
      to (inr (inl e)) = inl (omega arith)
      to (inr (inr o)) = inr (inr (inr o))

      from : (x ≡ 0) ⊎ ((y ≡ 0) ⊎ ((z ≡ 0) ⊎ (n % (x + y + z) ≡ 0 → ⊥))) → (((eqb x 0 || (eqb y 0 || eqb z 0)) ≡ true) ⊎ ((x + y + z ≡ 0) ⊎ (n % (x + y + z) ≡ 0 → ⊥)))
      from (inl e) = inl ((zero_or x _).1 (inl e))
      from (inr (inl e)) = inl ((zero_or x _).1 (inr ((zero_or y _).1 (inl e))))
      from (inr (inr (inl e))) = inl ((zero_or x _).1 (inr ((zero_or y _).1 (inr (eq-eqb _ _ e)))))
      from (inr (inr (inr o))) = inr (inr o)

  pub readable_three :
      Readable (eqb x 0 || (eqb y 0 || eqb z 0)) (x + y + z) n ↔
      ((n ≡ 0 → ⊥) × (x ≡ 0 → ⊥) × (y ≡ 0 → ⊥) × (z ≡ 0 → ⊥) × (n % (x + y + z) ≡ 0))
  readable_three = (
    λ r. let s = (no_zero x (eqb y 0 || eqb z 0)).0 r.sound in let q = (no_zero y (eqb z 0)).0 s.1 in
        (r.filled, s.0, q.0, eqb-false _ _ q.1, r.whole),
    λ q.
        record { filled = q.0; sound = (no_zero x _).1 (q.1, (no_zero y _).1 (q.2, ne_eqb _ _ q.3)); wide = λ e. q.1 (omega arith); whole = q.4 },
  )

-- ── `reg` and `ranges` ──
pub reg_picks : Picks reg_row NoReg PastReg RegAt
reg_picks =
    record {
      none = λ i. refl;
      end = λ i. refl;
      here = λ r l. refl;
      later = λ r l i. refl;
      one = λ r q e. cc;
      not_no = λ r e. never (cc);
      not_past = λ r e. never (cc);
      no_past = λ e. never (cc);
    }

pub range_picks : Picks range_row NoRange PastRange RangeAt
range_picks =
    record {
      none = λ i. refl;
      end = λ i. refl;
      here = λ r l. refl;
      later = λ r l i. refl;
      one = λ r q e. cc;
      not_no = λ r e. never (cc);
      not_past = λ r e. never (cc);
      no_past = λ e. never (cc);
    }

-- `reg` by the cells of the parent
module _ (a c : CellCount) (v : List ℕ) where
  pub reg_none : length v ≡ 0 → reg_of a c v ≡ rows []
  unfolding reg_of
  reg_none = table_empty _ _ _ _

  -- document 01: nonempty, and a count is unfit or bytes are left over
  pub reg_unreadable :
      reg_of a c v ≡ unreadable ↔
      ((length v ≡ 0 → ⊥) × (Unfit a ⊎ (Unfit c ⊎ (length v % (address_width a + size_width c) ≡ 0 → ⊥))))
  unfolding reg_of
  reg_unreadable = (
    λ e.
        let u = (unreadable_two _ _ _).0 ((table_unreadable _ _ _ _).0 e) in
        (u.0, ⊎_map (address_none a).0 (⊎_map (size_none c).0 (λ o. o)) u.1),
    λ u.
        (table_unreadable _ _ _ _).1
        ((unreadable_two _ _ _).1
        (u.0, ⊎_map (address_none a).1 (⊎_map (size_none c).1 (λ o. o)) u.1)),
  )

  module _ (i : ℕ) where
    pub reg_empty : length v ≡ 0 → reg_row (reg_of a c v) i ≡ PastReg
    reg_empty h = ap (λ (u : Table Region). reg_row u i) (reg_none h)

    -- each answer by widths in hand
    module _ (x z : ℕ) (ex : x ≡ address_width a) (ez : z ≡ size_width c) where
      reg_is : reg_of a c v ≡ table_of (region_at v x z) (eqb x 0 || eqb z 0) (x + z) (length v)
      unfolding reg_of
      reg_is = rw (ex, ez)

      -- row i is there exactly when the value is readable and has more than i rows
      pub reg_there :
          (r : Region) → reg_row (reg_of a c v) i ≡ RegAt r ↔
          (((length v ≡ 0 → ⊥) × (x ≡ 0 → ⊥) × (z ≡ 0 → ⊥) × (length v % (x + z) ≡ 0)) ×
          (i < length v / (x + z)) ×
          (r ≡ region_at v x z (i * (x + z))))
      reg_there r =
          let g = gives_row reg_picks (region_at v x z) (eqb x 0 || eqb z 0) (x + z) (length v) i r in
          let w = readable_two x z (length v) in
          rw reg_is (λ e. let q = g.0 e in (w.0 q.0, q.1, q.2), λ q. g.1 (w.1 q.0, q.1, q.2))

      module _ (filled : length v ≡ 0 → ⊥) where
        pub reg_no : (x ≡ 0) ⊎ ((z ≡ 0) ⊎ (length v % (x + z) ≡ 0 → ⊥)) → reg_row (reg_of a c v) i ≡ NoReg
        reg_no h = ap (λ (u : Table Region). reg_row u i) reg_is ∙ at_unreadable reg_picks _ _ _ _ i ((unreadable_two x z (length v)).1 (filled, h))

      module _ (readable : (length v ≡ 0 → ⊥) × (x ≡ 0 → ⊥) × (z ≡ 0 → ⊥) × (length v % (x + z) ≡ 0)) where
        pub reg_past : length v / (x + z) ≤ i → reg_row (reg_of a c v) i ≡ PastReg
        reg_past h = ap (λ (u : Table Region). reg_row u i) reg_is ∙ at_past reg_picks _ _ _ _ i ((readable_two x z (length v)).1 readable) h

        pub reg_row_lem : i < length v / (x + z) → reg_row (reg_of a c v) i ≡ RegAt (region_at v x z (i * (x + z)))
        reg_row_lem h = ap (λ (u : Table Region). reg_row u i) reg_is ∙ at_row reg_picks _ _ _ _ i ((readable_two x z (length v)).1 readable) h

-- `ranges` by the bus's own cells and its parent's address cells
module _ (a p c : CellCount) (v : List ℕ) where
  pub ranges_none : length v ≡ 0 → ranges_of a p c v ≡ rows []
  unfolding ranges_of
  ranges_none = table_empty _ _ _ _

  -- document 01: nonempty, and a count is unfit or bytes are left over
  pub ranges_unreadable :
      ranges_of a p c v ≡ unreadable ↔
      ((length v ≡ 0 → ⊥) × (Unfit a ⊎ (Unfit p ⊎ (Unfit c ⊎ (length v % (address_width a + address_width p + size_width c) ≡ 0 → ⊥)))))
  unfolding ranges_of
  ranges_unreadable = (
    λ e.
        let u = (unreadable_three _ _ _ _).0 ((table_unreadable _ _ _ _).0 e) in
        (u.0, ⊎_map (address_none a).0 (⊎_map (address_none p).0 (⊎_map (size_none c).0 (λ o. o))) u.1),
    λ u.
        (table_unreadable _ _ _ _).1
        ((unreadable_three _ _ _ _).1
        (u.0, ⊎_map (address_none a).1 (⊎_map (address_none p).1 (⊎_map (size_none c).1 (λ o. o))) u.1)),
  )

  module _ (i : ℕ) where
    pub ranges_empty : length v ≡ 0 → range_row (ranges_of a p c v) i ≡ PastRange
    ranges_empty h = ap (λ (u : Table Range). range_row u i) (ranges_none h)

    -- each answer by widths in hand
    module _ (x y z : ℕ) (ex : x ≡ address_width a) (ey : y ≡ address_width p) (ez : z ≡ size_width c) where
      ranges_is : ranges_of a p c v ≡ table_of (range_at v x y z) (eqb x 0 || (eqb y 0 || eqb z 0)) (x + y + z) (length v)
      unfolding ranges_of
      ranges_is = rw (ex, ey, ez)

      -- row i is there exactly when the value is readable and has more than i rows
      pub ranges_there :
          (r : Range) → range_row (ranges_of a p c v) i ≡ RangeAt r ↔
          (((length v ≡ 0 → ⊥) × (x ≡ 0 → ⊥) × (y ≡ 0 → ⊥) × (z ≡ 0 → ⊥) × (length v % (x + y + z) ≡ 0)) ×
          (i < length v / (x + y + z)) ×
          (r ≡ range_at v x y z (i * (x + y + z))))
      ranges_there r =
          let g = gives_row range_picks (range_at v x y z) (eqb x 0 || (eqb y 0 || eqb z 0)) (x + y + z) (length v) i r in
          let w = readable_three x y z (length v) in
          rw ranges_is (λ e. let q = g.0 e in (w.0 q.0, q.1, q.2), λ q. g.1 (w.1 q.0, q.1, q.2))

      module _ (filled : length v ≡ 0 → ⊥) where
        pub ranges_no : (x ≡ 0) ⊎ ((y ≡ 0) ⊎ ((z ≡ 0) ⊎ (length v % (x + y + z) ≡ 0 → ⊥))) → range_row (ranges_of a p c v) i ≡ NoRange
        ranges_no h = ap (λ (u : Table Range). range_row u i) ranges_is ∙ at_unreadable range_picks _ _ _ _ i ((unreadable_three x y z (length v)).1 (filled, h))

      module _ (readable : (length v ≡ 0 → ⊥) × (x ≡ 0 → ⊥) × (y ≡ 0 → ⊥) × (z ≡ 0 → ⊥) × (length v % (x + y + z) ≡ 0)) where
        pub ranges_past : length v / (x + y + z) ≤ i → range_row (ranges_of a p c v) i ≡ PastRange
        ranges_past h = ap (λ (u : Table Range). range_row u i) ranges_is ∙ at_past range_picks _ _ _ _ i ((readable_three x y z (length v)).1 readable) h

        pub ranges_row : i < length v / (x + y + z) → range_row (ranges_of a p c v) i ≡ RangeAt (range_at v x y z (i * (x + y + z)))
        ranges_row h = ap (λ (u : Table Range). range_row u i) ranges_is ∙ at_row range_picks _ _ _ _ i ((readable_three x y z (length v)).1 readable) h
