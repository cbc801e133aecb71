-- What is left of a list from a row on, by what stands at that row: the rows of a value and the entries of the reservation block. And the
-- claims among the steps of a script. Assumes nothing.
use mathlib.Core.Path.{◌≡◌, refl, sym, ◌∙◌, ap}
use Prim.Native.Nat.{ℕ, zero, suc, ◌+◌, ◌-◌, ◌/◌, ◌<◌}
use native.Mathlib.Omega.{arith}
use mathlib.Core.Bool.{Bool, true, false}
use mathlib.Core.List.{List, [], ◌∷◌, ◌++◌}
use lib.ListN.{length, drop}
use lib.Seq.{drop-nil}
use lib.Dec.{leb}
use borrow.Author.Tests.{leb-true, leb-false}
use Rattle.std.specs.Prelude.{Option, Some, None}
use Rattle.words.proofs.BytesLaws.{never}
use Rattle.entry.specs.declared.Claim.{Claim}
use Rattle.cells.specs.declared.CellCount.{CellCount}
use Rattle.cells.specs.declared.Region.{Region}
use Rattle.cells.specs.declared.Range.{Range}
use Rattle.cells.specs.declared.RegRow.{RegRow}
use Rattle.cells.specs.declared.RegRow.TheVariants.{NoReg, PastReg, RegAt}
use Rattle.cells.specs.Rows.{Table, unreadable, rows, reg_row}
use Rattle.fdt.specs.Tree.{Nodes, none, node}
use Rattle.reservations.specs.declared.Reservation.{Reservation}
use Rattle.reservations.specs.declared.Reservation.TheVariants.{Entry, End, Past}
use Rattle.reservations.specs.Reservations.{entry_of, entries_from, and_then as orEnd}
use Rattle.reservations.proofs.EntryLaws.{entry_past}
use Rattle.claims.specs.declared.Way.{Way}
use Rattle.claims.specs.Claims.{and_then, block_claims, entries, child_regions, claims_by, kid_claims}
use Rattle.visit.specs.Script.{claims_in, rows_script, kids_script, block_script}

-- ── Rows of a value ──
abbrev pub RowsLeft : List Region → ℕ → RegRow → Type 0
RowsLeft l i (RegAt r) = drop i l ≡ r ∷ drop (i + 1) l
RowsLeft l i PastReg = drop i l ≡ []
RowsLeft l i NoReg = drop i l ≡ []

pub rows_left : (t : Table Region) (i : ℕ) → RowsLeft (entries t) i (reg_row t i)
rows_left unreadable i = drop-nil i
rows_left (rows []) i = drop-nil i
rows_left (rows (r ∷ l)) zero = refl
rows_left (rows (r ∷ l)) (suc i) = later (reg_row (rows l) i) (rows_left (rows l) i)
  where
    later : (x : RegRow) → RowsLeft l i x → RowsLeft (r ∷ l) (suc i) x
    later (RegAt q) h = let e : suc i + 1 ≡ suc (i + 1) = omega arith in rw e h
    later PastReg h = h
    later NoReg h = h

-- ── Entries of the reservation block ──
module _ (v : List ℕ) (i : ℕ) where
  abbrev left : List Region
  left = entries_from (length v / 16 - i) v i

  abbrev pub EntriesLeft : Reservation → Type 0
  EntriesLeft (Entry r) = left ≡ r ∷ entries_from (length v / 16 - (i + 1)) v (i + 1)
  EntriesLeft End = left ≡ []
  EntriesLeft Past = left ≡ []

  -- nothing is left where nothing goes on
  stops : (k : ℕ) → ((l : List Region) → orEnd (entry_of v i) l ≡ []) → entries_from k v i ≡ []
  unfolding entries_from
  stops zero h = refl
  stops (suc k) h = h (entries_from k v (i + 1))

  pub entry_inside : (r : Region) → entry_of v i ≡ Entry r → i < length v / 16
  entry_inside r e = go (leb (length v / 16) i) refl
    where
      go : (t : Bool) → leb (length v / 16) i ≡ t → i < length v / 16
      go true u = let p = entry_past v i (leb-true _ _ u) in never (cc)
      go false u = leb-false _ _ u

  goes : (r : Region) → entry_of v i ≡ Entry r → EntriesLeft (Entry r)
  unfolding entries_from
  goes r e =
      let h : i < length v / 16 = entry_inside r e in
      let q : length v / 16 - i ≡ suc (length v / 16 - (i + 1)) = omega arith in
      rw (q, e)

  pub entries_left : EntriesLeft (entry_of v i)
  entries_left = go (entry_of v i) refl
    where
      go : (x : Reservation) → entry_of v i ≡ x → EntriesLeft x
      go (Entry r) e = goes r e
      go End e = stops _ (λ l. rw e)
      go Past e = stops _ (λ l. rw e)

-- ── Claims among the steps ──
pub and_then_lem : (o : Option Claim) (k l : List Claim) → and_then o k ++ l ≡ and_then o (k ++ l)
and_then_lem None k l = refl
and_then_lem (Some c) k l = refl

pub claims_append : (k l : List (Option Claim)) → claims_in (k ++ l) ≡ claims_in k ++ claims_in l
unfolding claims_in
claims_append [] l = refl
claims_append (o ∷ k) l = ap (and_then o) (claims_append k l) ∙ sym (and_then_lem o (claims_in k) (claims_in l))

pub claims_block : (l : List Region) → claims_in (block_script l) ≡ block_claims l
unfolding claims_in block_script block_claims
claims_block [] = refl
claims_block (r ∷ l) = rw (claims_block l)

claims_rows : (way : Way) (t : Table Range) (l : List Region) → claims_in (rows_script way t l) ≡ claims_by way t l
unfolding claims_in rows_script claims_by
claims_rows way t [] = refl
claims_rows way t (r ∷ l) = rw (claims_rows way t l)

pub claims_kids :
    (way : Way) (t : Table Range) (a c : CellCount) (ks : Nodes) → claims_in (kids_script way t a c ks) ≡ kid_claims way t a c ks
unfolding claims_in kids_script kid_claims
claims_kids way t a c none = refl
claims_kids way t a c (node q nm ps kids rest) =
    claims_append (rows_script way t (child_regions way a c ps)) (kids_script way t a c rest)
    ∙ rw (claims_rows way t (child_regions way a c ps), claims_kids way t a c rest)
