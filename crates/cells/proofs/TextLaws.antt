-- Laws on string values: a value ends at its first zero byte; it has no end exactly if it has no zero byte. Assumes nothing.
use mathlib.Core.Path.{◌≡◌, refl, sym, ◌∙◌, ap}
use Prim.Native.Nat.{ℕ, ◌≤◌, ◌<◌}
use native.Mathlib.Omega.{arith}
use mathlib.Core.List.{List}
use mathlib.Core.Bool.{Bool, true, false}
use mathlib.Core.Logic.{◌↔◌}
use lib.ListN.{length, get_or}
use lib.Dec.{ltb}
use borrow.Author.Tests.{lt-ltb, le-ltb, ltb-true, ltb-false}
use Rattle.std.specs.Prelude.{Some, None}
use Rattle.words.specs.Bytes.{string_end}
use Rattle.words.proofs.BytesLaws.{never, first_before, first_is, first_only}
use Rattle.cells.specs.Text.{text_of}

module _ (v : List ℕ) where
  pub text_in : string_end v 0 < length v → text_of v ≡ Some (string_end v 0)
  unfolding text_of
  text_in h = rw (lt-ltb _ _ h)

  pub text_past : length v ≤ string_end v 0 → text_of v ≡ None
  unfolding text_of
  text_past h = rw (le-ltb _ _ h)

  pub text_ends : (e : ℕ) → text_of v ≡ Some e ↔ ((e < length v) × (get_or v e 0 ≡ 0) × ((k : ℕ) → k < e → get_or v k 0 ≡ 0 → ⊥))
  text_ends e = (to (ltb (string_end v 0) (length v)) refl, from)
    where
      to : (b : Bool) → ltb (string_end v 0) (length v) ≡ b → text_of v ≡ Some e → (e < length v) × (get_or v e 0 ≡ 0) × ((k : ℕ) → k < e → get_or v k 0 ≡ 0 → ⊥)
      to true t h =
          let m : string_end v 0 < length v = ltb-true _ _ t in
          let u = text_in m in
          let q : string_end v 0 ≡ e = cc in
          (rw q at m, rw q at (first_is 0 v 0 m), λ k l. first_before 0 v 0 k (omega arith) (omega arith))
      to false t h = let u = text_past (ltb-false _ _ t) in never (cc)

      from : (e < length v) × (get_or v e 0 ≡ 0) × ((k : ℕ) → k < e → get_or v k 0 ≡ 0 → ⊥) → text_of v ≡ Some e
      from (l, z, n) =
          let q : e ≡ string_end v 0 = first_only 0 v 0 e (omega arith) (omega arith) (λ k g. n k) (λ g. z) in
          text_in (omega arith) ∙ ap Some (sym q)

  pub text_endless : text_of v ≡ None ↔ ((k : ℕ) → k < length v → get_or v k 0 ≡ 0 → ⊥)
  text_endless = (to (ltb (string_end v 0) (length v)) refl, λ n. text_past (from n (ltb (string_end v 0) (length v)) refl))
    where
      to : (b : Bool) → ltb (string_end v 0) (length v) ≡ b → text_of v ≡ None → (k : ℕ) → k < length v → get_or v k 0 ≡ 0 → ⊥
      to true t h k l = let u = text_in (ltb-true _ _ t) in never (cc)
      to false t h k l =
          let m : length v ≤ string_end v 0 = ltb-false _ _ t in
          first_before 0 v 0 k (omega arith) (omega arith)

      from : ((k : ℕ) → k < length v → get_or v k 0 ≡ 0 → ⊥) → (b : Bool) → ltb (string_end v 0) (length v) ≡ b → length v ≤ string_end v 0
      from n true t = let m : string_end v 0 < length v = ltb-true _ _ t in absurd (n _ m (first_is 0 v 0 m))
      from n false t = ltb-false _ _ t
