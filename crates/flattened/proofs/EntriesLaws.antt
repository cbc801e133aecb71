-- The reservation block that is written is read back: its entries in order, and no more. Assumes nothing.
use mathlib.Core.Path.{◌≡◌, refl, sym, ◌∙◌, ap}
use Prim.Native.Nat.{ℕ, suc, ◌+◌, ◌*◌, ◌/◌, ◌<◌}
use native.Mathlib.Omega.{arith}
use mathlib.Core.Bool.{Bool, true, false}
use mathlib.Core.List.{List, [], ◌∷◌, ◌++◌, append_assoc, append-nil}
use lib.ListN.{length, length-append}
use lib.Dec.{eqb}
use borrow.Author.Tests.{eqb-true, eqb-false}
use Rattle.words.specs.Bytes.{double}
use Rattle.cells.specs.declared.Region.{Region}
use Rattle.reservations.specs.declared.Reservation.{Reservation}
use Rattle.reservations.specs.declared.Reservation.TheVariants.{Entry}
use Rattle.reservations.specs.Reservations.{entry_of, and_then, entries_from, entries_of}
use Rattle.reservations.proofs.EntryLaws.{entry_address, entry_size, entry_end}
use Rattle.pen.specs.Numbers.{bytes8}
use Rattle.flattened.specs.Blob.{entries_bytes, reservation_bytes, AllEntries}
use Rattle.flattened.proofs.NumberLaws.{double_at}
use Rattle.pen.proofs.LengthLaws.{bytes8_length}
use Rattle.flattened.proofs.HeaderLaws.{entries_length}

module _ (v : List ℕ) where
  -- an entry that stands after pre
  entry_here : (pre rest : List ℕ) (i a z : ℕ) → length pre ≡ i * 16 → v ≡ pre ++ (bytes8 a ++ (bytes8 z ++ rest)) → a < 18446744073709551616 → z < 18446744073709551616
      → (i < length v / 16) × (a ≡ double v (i * 16)) × (z ≡ double v (i * 16 + 8))
  entry_here pre rest i a z lp e ha hz =
      let e2 : v ≡ (pre ++ bytes8 a) ++ (bytes8 z ++ rest) = e ∙ simp append_assoc in
      let l2 : length (pre ++ bytes8 a) ≡ i * 16 + 8 = length-append pre (bytes8 a) ∙ omega (arith, bytes8_length a) in
      let lv : length v ≡ i * 16 + 8 + (8 + length rest) = ap length e2 ∙ length-append (pre ++ bytes8 a) _ ∙ omega (arith, length-append (bytes8 z) rest, bytes8_length z) in (
        omega arith,
        sym (ap (λ (s : List ℕ). double s (i * 16)) e ∙ double_at pre _ a (i * 16) lp ha),
        sym (ap (λ (s : List ℕ). double s (i * 16 + 8)) e2 ∙ double_at (pre ++ bytes8 a) rest z (i * 16 + 8) l2 hz),
      )

  entries_back : (rs : List Region) (pre : List ℕ) (i : ℕ) → length pre ≡ i * 16 → v ≡ pre ++ (entries_bytes rs ++ (bytes8 0 ++ bytes8 0)) → AllEntries rs
      → entries_from (suc (length rs)) v i ≡ rs
  unfolding entries_from entries_bytes
  entries_back [] pre i lp e all =
      let e1 : v ≡ pre ++ (bytes8 0 ++ (bytes8 0 ++ [])) = e ∙ simp append-nil in
      let h = entry_here pre [] i 0 0 lp e1 (omega arith) (omega arith) in
      rw (← entry_end v i 0 0 h.0 h.1 h.2 refl refl)
  entries_back (r ∷ rs) pre i lp e all =
      let rest = entries_bytes rs ++ (bytes8 0 ++ bytes8 0) in
      let e1 : v ≡ pre ++ (bytes8 r.address ++ (bytes8 r.size ++ rest)) = e ∙ simp append_assoc in
      let e2 : v ≡ (pre ++ (bytes8 r.address ++ bytes8 r.size)) ++ rest = e ∙ simp append_assoc in
      let l2 : length (pre ++ (bytes8 r.address ++ bytes8 r.size)) ≡ (i + 1) * 16 = simp (length-append, bytes8_length) (omega arith) in
      let k = all.0 in
      let h = entry_here pre rest i r.address r.size lp e1 k.address k.size in
      let q = is (eqb r.address 0) refl h.0 h.1 h.2 k.some in
      ap (λ (x : Reservation). and_then x (entries_from (suc (length rs)) v (i + 1))) q
      ∙ ap (λ (l : List Region). r ∷ l) (entries_back rs (pre ++ (bytes8 r.address ++ bytes8 r.size)) (i + 1) l2 e2 all.1)
    where
      is : (t : Bool) → eqb r.address 0 ≡ t → i < length v / 16 → r.address ≡ double v (i * 16) → r.size ≡ double v (i * 16 + 8)
          → (r.address ≡ 0 → r.size ≡ 0 → ⊥) → entry_of v i ≡ Entry r
      is true t l a z n = sym (entry_size v i r.address r.size l a z (eqb-true _ _ t) (n (eqb-true _ _ t)))
      is false t l a z n = sym (entry_address v i r.address r.size l a z (eqb-false _ _ t))

-- THE ENTRIES
pub entries_are : (rs : List Region) → AllEntries rs → entries_of (reservation_bytes rs) ≡ rs
unfolding reservation_bytes
entries_are rs all =
    let l : length (entries_bytes rs ++ (bytes8 0 ++ bytes8 0)) ≡ 16 * (length rs + 1) = simp (length-append, bytes8_length) (omega (arith, entries_length rs)) in
    let q : length (entries_bytes rs ++ (bytes8 0 ++ bytes8 0)) / 16 ≡ suc (length rs) = omega arith in
    ap (λ (f : ℕ). entries_from f (entries_bytes rs ++ (bytes8 0 ++ bytes8 0)) 0) q ∙ entries_back (entries_bytes rs ++ (bytes8 0 ++ bytes8 0)) rs [] 0 refl refl all
