-- The ranges one after the other, counted as the code counts: from row i on. Assumes nothing.
use mathlib.Core.Path.{◌≡◌, refl}
use mathlib.Core.Bool.{Bool}
use mathlib.Core.List.{List, [], ◌∷◌}
use Prim.Native.Nat.{ℕ, zero, suc, ◌+◌, ◌<◌}
use native.Mathlib.Omega.{arith}
use native.Mathlib.Nat.{div-le_self}
use native.Mathlib.Numerals.{add-one}
use lib.ListN.{length, drop}
use Rattle.cells.specs.declared.CellCount.{CellCount}
use Rattle.cells.specs.declared.Range.{Range}
use Rattle.cells.specs.declared.RangeRow.TheVariants.{NoRange, PastRange, RangeAt}
use Rattle.cells.specs.Count.{address_width, size_width}
use Rattle.cells.specs.Rows.{Table, unreadable, rows, ranges_of, range_row}
use Rattle.cells.proofs.RowsLaws.{ranges_there}
use Rattle.windows.specs.declared.Fit.{Fit}
use Rattle.windows.specs.declared.Window.{Window}
use Rattle.windows.specs.declared.Window.TheVariants.{To, Nowhere, Unreadable}
use Rattle.windows.specs.Window.{fit_by, fit_or, first_fit, window}

-- what is still to be said from row i on
pub go_on : Bool → Table Range → ℕ → ℕ → ℕ → Window
go_on soc unreadable i a n = Unreadable
go_on soc (rows l) zero a n = window soc (rows l) a n
go_on soc (rows l) (suc i) a n = first_fit soc (drop (suc i) l) a n

module _ (soc : Bool) (a n : ℕ) where
  pub on_all : (t : Table Range) → go_on soc t 0 a n ≡ window soc t a n
  unfolding go_on window
  on_all unreadable = refl
  on_all (rows l) = refl

  clash : {A : Type 0} → ◌≡◌ {A = ℕ} 0 1 → A
  clash z = let w : ⊥ = omega arith in absurd w

  pub on_unreadable : (t : Table Range) (i : ℕ) → range_row t i ≡ NoRange → go_on soc t i a n ≡ Unreadable
  unfolding go_on
  on_unreadable unreadable i e = refl
  on_unreadable (rows []) i e = clash (cc)
  on_unreadable (rows (r ∷ l)) zero e = clash (cc)
  on_unreadable (rows (r ∷ l)) (suc i) e = clash (none l i e)
    where
      none : (k : List Range) (j : ℕ) → range_row (rows k) j ≡ NoRange → ◌≡◌ {A = ℕ} 0 1
      none [] j q = cc
      none (x ∷ k) zero q = cc
      none (x ∷ k) (suc j) q = none k j q

  -- past the last row: nothing was there, or nothing had it
  past_drop : (l : List Range) (i : ℕ) → range_row (rows l) i ≡ PastRange → first_fit soc (drop i l) a n ≡ Nowhere
  unfolding first_fit
  past_drop [] zero e = refl
  past_drop [] (suc i) e = refl
  past_drop (r ∷ l) zero e = clash (cc)
  past_drop (r ∷ l) (suc i) e = past_drop l i e

  pub on_empty : (t : Table Range) → range_row t 0 ≡ PastRange → go_on soc t 0 a n ≡ To a
  unfolding go_on window
  on_empty unreadable e = clash (cc)
  on_empty (rows []) e = refl
  on_empty (rows (r ∷ l)) e = clash (cc)

  pub on_past : (t : Table Range) (i : ℕ) → (i ≡ 0 → ⊥) → range_row t i ≡ PastRange → go_on soc t i a n ≡ Nowhere
  unfolding go_on
  on_past unreadable i p e = clash (cc)
  on_past (rows l) zero p e = absurd (p refl)
  on_past (rows l) (suc i) p e = past_drop l (suc i) e

  -- a row: it decides, or the next does
  row_drop : (l : List Range) (i : ℕ) (r : Range) → range_row (rows l) i ≡ RangeAt r
      → first_fit soc (drop i l) a n ≡ fit_or (fit_by soc r a n) (first_fit soc (drop (suc i) l) a n)
  unfolding first_fit
  row_drop [] i r e = clash (cc)
  row_drop (x ∷ l) zero r e = let q : x ≡ r = cc in rw q
  row_drop (x ∷ l) (suc i) r e = row_drop l i r e

  row_on : (t : Table Range) (i : ℕ) (r : Range) → range_row t i ≡ RangeAt r
      → go_on soc t i a n ≡ fit_or (fit_by soc r a n) (go_on soc t (i + 1) a n)
  unfolding go_on window
  row_on unreadable i r e = clash (cc)
  row_on (rows []) i r e = clash (cc)
  row_on (rows (x ∷ l)) zero r e = row_drop (x ∷ l) zero r e
  row_on (rows (x ∷ l)) (suc i) r e = rw (add-one (suc i)) (row_drop (x ∷ l) (suc i) r e)

  -- x is what the row's range does with the region
  pub on_row : (t : Table Range) (i : ℕ) (r : Range) (x : Fit) → range_row t i ≡ RangeAt r → fit_by soc r a n ≡ x
      → go_on soc t i a n ≡ fit_or x (go_on soc t (i + 1) a n)
  on_row t i r x e f = rw (← f) (row_on t i r e)

-- a row's number is below the bytes of the value
pub row_below : (a p c : CellCount) (v : List ℕ) (i : ℕ) (r : Range) → range_row (ranges_of a p c v) i ≡ RangeAt r → i < length v
row_below a p c v i r e =
    let w = (ranges_there a p c v i (address_width a) (address_width p) (size_width c) refl refl refl r).0 e in
    omega (arith, w.1, div-le_self (length v) (address_width a + address_width p + size_width c))
