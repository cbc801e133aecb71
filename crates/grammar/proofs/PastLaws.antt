-- "Bytes past totalsize are not read": bytes that begin with the same totalsize bytes are opened alike, to the same blocks. Assumes nothing.
use mathlib.Core.Path.{◌≡◌, refl, sym, ◌∙◌, ap}
use mathlib.Core.Logic.{◌⊎◌, inl, inr, ⊎_elim}
use Prim.Native.Nat.{ℕ, ◌+◌, ◌≤◌, ◌<◌}
use native.Mathlib.Omega.{arith}
use mathlib.Core.List.{List}
use mathlib.Core.Bool.{Bool, true, false}
use lib.ListN.{length, take, length-take}
use lib.Seq.{get_or-take, ext_get_or}
use lib.Dec.{leb}
use borrow.Author.Tests.{le-leb, ne_eqb, leb-true, leb-false}
use Rattle.words.specs.Bytes.{word, part_of}
use Rattle.words.proofs.BytesLaws.{part_length, part_byte}
use Rattle.fdt.specs.Header.{totalsize, GoodHeader, good_header, structure_of, strings_of}
use Rattle.fdt.specs.Opening.{opened_number, blocks_of, opened_of}
use Rattle.fdt.proofs.HeaderLaws.{good_header_lem}
use Rattle.fdt.proofs.VerdictLaws.{says_header}
use Rattle.grammar.specs.Past.{SameFront}
use Rattle.grammar.proofs.OpeningLaws.{number_4}
use Rattle.grammar.proofs.VeilLaws.{word_same}

module _ (s t : List ℕ) (d : SameFront s t) where
  front_word : (p : ℕ) → p + 4 ≤ 40 → word s p ≡ word t p
  front_word p h = word_same s t p (λ i x y. d.bytes i (omega arith))

  -- a part that ends by then is the same
  pub front_part : (at n : ℕ) → at + n ≤ totalsize s → part_of s at n ≡ part_of t at n
  front_part at n h =
      let ls : at + n ≤ length s = omega arith in
      let lt : at + n ≤ length t = omega arith in
      let x = part_length s at n ls in
      ext_get_or 0 _ _ (x ∙ sym (part_length t at n lt)) (λ i q.
      let l : i < n = omega arith in
      part_byte s at n ls i l ∙ d.bytes (at + i) (omega arith) ∙ sym (part_byte t at n lt i l))

  pub front_test : good_header s ≡ good_header t
  unfolding good_header
  front_test =
      let e = front_word 4 (omega arith) in
      let l1 : 40 ≤ length s = omega arith in
      let l2 : 40 ≤ length t = omega arith in
      let l3 : totalsize t ≤ length s = omega arith in
      let l4 : totalsize t ≤ length t = omega arith in
      rw (e, le-leb 40 (length s) l1, le-leb 40 (length t) l2, le-leb (totalsize t) (length s) l3, le-leb (totalsize t) (length t) l4, front_word 0 (omega arith), front_word 8 (omega arith), front_word 12 (omega arith), front_word 20 (omega arith), front_word 24 (omega arith), front_word 32 (omega arith), front_word 36 (omega arith))

  pub front_blocks : blocks_of s ≡ blocks_of t
  unfolding blocks_of
  front_blocks = rw (front_word 8 (omega arith), front_word 36 (omega arith), front_word 12 (omega arith), front_word 32 (omega arith), front_word 16 (omega arith))

  pub front_structure : GoodHeader s → structure_of s ≡ structure_of t
  front_structure g = rw (← front_word 8 (omega arith), ← front_word 36 (omega arith)) (front_part _ _ g.struct_in)

  pub front_strings : GoodHeader s → strings_of s ≡ strings_of t
  front_strings g = rw (← front_word 12 (omega arith), ← front_word 32 (omega arith)) (front_part _ _ g.strings_in)

  -- THE THEOREM
  pub front_opened : opened_of s ≡ opened_of t
  unfolding opened_of
  front_opened = go (good_header s) refl
    where
      zs : length s ≡ 0 → ⊥
      zs e = omega arith

      zt : length t ≡ 0 → ⊥
      zt e = omega arith

      go : (x : Bool) → good_header s ≡ x → opened_of s ≡ opened_of t
      go false h = sym (says_header s zs h) ∙ says_header t zt (sym front_test ∙ h)
      go true h =
          let g = (good_header_lem s).0 h in
          rw (ne_eqb _ _ zs, ne_eqb _ _ zt, front_structure g, front_strings g, front_blocks, front_test, front_word 4 (omega arith))

-- a totalsize that does not hold the header is refused, whatever comes after it
pub past_short : (s : List ℕ) → totalsize s < 40 → (length s ≡ 0 → ⊥) → opened_number (opened_of s) ≡ 4
past_short s h n = (number_4 s).1 (n, λ g. omega (arith, g.some))

-- of any other, the first totalsize bytes begin so, or are all that there is
pub front_of : (s : List ℕ) → 40 ≤ totalsize s → SameFront s (take (totalsize s) s) ⊎ (s ≡ take (totalsize s) s)
front_of s h = go (leb (totalsize s) (length s)) refl
  where
    go : (x : Bool) → leb (totalsize s) (length s) ≡ x → SameFront s (take (totalsize s) s) ⊎ (s ≡ take (totalsize s) s)
    go true e =
        let l : totalsize s ≤ length s = leb-true _ _ e in
        let k : length (take (totalsize s) s) ≡ totalsize s = simp length-take (omega arith) in
        inl (record { some = h; whole = l; also = omega arith; bytes = λ i q. sym (get_or-take (totalsize s) s i 0 q) })
    go false e =
        let l : length s < totalsize s = leb-false _ _ e in
        inr (ext_get_or 0 s (take (totalsize s) s) (simp length-take (omega arith)) (λ i q. sym (get_or-take (totalsize s) s i 0 (omega arith))))

-- OPENING: the whole answer is that of the first totalsize bytes
pub past_opened : (s : List ℕ) → 40 ≤ totalsize s → opened_of s ≡ opened_of (take (totalsize s) s)
past_opened s h = ⊎_elim (λ d. front_opened s _ d) (λ e. ap opened_of e) (front_of s h)
