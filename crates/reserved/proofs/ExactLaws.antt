-- The exact dynamic case, from answers in hand: the number in `size`, and rows 0 and 1 of `alloc-ranges`. Assumes nothing.
use mathlib.Core.Path.{◌≡◌, refl, sym, ◌∙◌, ap}
use Prim.Native.Nat.{ℕ, ◌+◌, ◌*◌, ◌-◌, ◌^◌, ◌≤◌, ◌<◌}
use native.Mathlib.Omega.{arith}
use mathlib.Core.List.{List, [], ◌∷◌}
use mathlib.Core.Bool.{Bool, true, false, cond, ◌&&◌}
use mathlib.Core.Logic.{⊎_elim}
use lib.ListN.{length}
use lib.Dec.{eqb, leb, ltb}
use borrow.Author.Tests.{eq-eqb, ne_eqb, eqb-true, eqb-false, lt-ltb, le-leb, lt-leb}
use Rattle.std.specs.Prelude.{Option, Some, None}
use Rattle.words.proofs.BytesLaws.{never, double_past}
use Rattle.cells.specs.declared.CellCount.{CellCount}
use Rattle.cells.specs.declared.CellCount.TheVariants.{Stated, Absent, Faulty}
use Rattle.cells.specs.declared.Region.{Region}
use Rattle.cells.specs.declared.RegRow.{RegRow}
use Rattle.cells.specs.declared.RegRow.TheVariants.{PastReg, RegAt}
use Rattle.cells.specs.Count.{cell_bytes}
use Rattle.cells.specs.Rows.{Table, unreadable, rows, number_at, reg_of, reg_row}
use Rattle.reserved.specs.Number.{cells_number}
use Rattle.reserved.specs.Reserved.{exact_by, exact_of}
use Rattle.reserved.proofs.NumberLaws.{number_missing, number_read}

-- ── One entry of n bytes ──
module _ (n : ℕ) where
  pub of_nothing : (t : Table Region) → n ≡ 0 → None ≡ exact_by n t
  unfolding exact_by
  of_nothing unreadable h = refl
  of_nothing (rows []) h = refl
  of_nothing (rows (r ∷ [])) h = rw h (go (eqb r.size 0))
    where
      go : (b : Bool) → None ≡ cond (b && (ltb 0 0 && leb (r.address + 0) (2 ^ 64 - 1))) (Some r) None
      go true = refl
      go false = refl
  of_nothing (rows (r ∷ q ∷ l)) h = refl

  -- x is row 0, and no region
  pub no_first : (t : Table Region) (x : RegRow) → x ≡ reg_row t 0
      → ((r : Region) → x ≡ RegAt r → ⊥) → None ≡ exact_by n t
  unfolding exact_by
  no_first unreadable x e k = refl
  no_first (rows []) x e k = refl
  no_first (rows (r ∷ l)) x e k = absurd (k r e)

  -- x is row 1, and not past the last
  pub more_rows : (t : Table Region) (x : RegRow) → x ≡ reg_row t 1
      → (x ≡ PastReg → ⊥) → None ≡ exact_by n t
  unfolding exact_by
  more_rows unreadable x e k = refl
  more_rows (rows []) x e k = refl
  more_rows (rows (r ∷ [])) x e k = absurd (k e)
  more_rows (rows (r ∷ q ∷ l)) x e k = refl

-- row 0 is a region and row 1 is past the last
pub record Lone (t : Table Region) (r : Region) (x y : RegRow) : Type 0 where
  pub first : x ≡ reg_row t 0
  pub region : x ≡ RegAt r
  pub second : y ≡ reg_row t 1
  pub past : y ≡ PastReg

lone_row : (t : Table Region) (r : Region) (x y : RegRow) → Lone t r x y → t ≡ rows (r ∷ [])
lone_row unreadable r x y o = never (cc)
lone_row (rows []) r x y o = never (cc)
lone_row (rows (q ∷ [])) r x y o = let h : q ≡ r = cc in rw h
lone_row (rows (q ∷ p ∷ l)) r x y o = never (cc)

module _ (n : ℕ) (t : Table Region) (r : Region) (x y : RegRow) (lone : Lone t r x y) where
  pub other_size : (r.size ≡ n → ⊥) → None ≡ exact_by n t
  unfolding exact_by
  other_size h = rw (lone_row t r x y lone, ne_eqb _ _ h)

  module _ (same : r.size ≡ n) (some : n ≡ 0 → ⊥) where
    pub too_far : 2 ^ 64 - 1 < r.address + n → None ≡ exact_by n t
    unfolding exact_by
    too_far h = rw (lone_row t r x y lone, eq-eqb _ _ same, lt-ltb 0 n (omega arith), lt-leb _ _ h)

    pub exactly : r.address + n ≤ 2 ^ 64 - 1 → Some r ≡ exact_by n t
    unfolding exact_by
    exactly h = rw (lone_row t r x y lone, eq-eqb _ _ same, lt-ltb 0 n (omega arith), le-leb _ _ h)

-- ── The count and `size` ──
-- d is not stated
pub unstated : (a d : CellCount) (size ranges : List ℕ)
    → ((c : ℕ) → d ≡ Stated c → ⊥) → None ≡ exact_of a d size ranges
unfolding exact_of
unstated a (Stated c) size ranges k = absurd (k c refl)
unstated a Absent size ranges k = refl
unstated a Faulty size ranges k = refl

module _ (a d : CellCount) (c : ℕ) (stated : d ≡ Stated c) (size ranges : List ℕ) where
  other_length : (length size ≡ cell_bytes c → ⊥) → None ≡ exact_of a d size ranges
  unfolding exact_of
  other_length h = rw (stated, ne_eqb _ _ h)

  own_length : length size ≡ cell_bytes c → exact_by (number_at size (cell_bytes c) 0) (reg_of a d ranges) ≡ exact_of a d size ranges
  unfolding exact_of
  own_length h = rw (stated, eq-eqb _ _ h)

  -- m is what was read of `size`
  module _ (m : Option ℕ) (is : m ≡ cells_number size c) where
    -- no number: the bytes are too few, or cells are not 1 or 2, so that they take no bytes and say 0
    pub no_number : m ≡ None → None ≡ exact_of a d size ranges
    no_number e = ⊎_elim none (λ short. other_length (λ h. omega arith)) (number_missing size c m is e)
      where
        none : cell_bytes c ≡ 0 → None ≡ exact_of a d size ranges
        none z = go (eqb (length size) 0) refl
          where
            go : (b : Bool) → eqb (length size) 0 ≡ b → None ≡ exact_of a d size ranges
            go true u =
                let h : length size ≡ 0 = eqb-true _ _ u in
                of_nothing _ _ (rw z (double_past size 0 (omega arith))) ∙ own_length (omega arith)
            go false u = other_length (λ h. eqb-false _ _ u (h ∙ z))

    module _ (n : ℕ) (read : m ≡ Some n) where
      pub not_long : (length size ≡ c * 4 → ⊥) → None ≡ exact_of a d size ranges
      not_long h = other_length (λ e. h (e ∙ (number_read size c m is n read).0))

      -- what is left is for the rows to say
      pub by_rows : length size ≡ c * 4 → (x : Option Region) → x ≡ exact_by n (reg_of a d ranges) → x ≡ exact_of a d size ranges
      by_rows h x e =
          let w = number_read size c m is n read in
          e ∙ ap (λ (k : ℕ). exact_by k (reg_of a d ranges)) w.2 ∙ own_length (h ∙ sym w.0)
