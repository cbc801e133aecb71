-- The bytes that the code puts are those of the definitions; and each call's answer. Assumes nothing.
use mathlib.Core.Path.{◌≡◌, refl, sym, ◌∙◌, ap}
use Prim.Native.Nat.{ℕ, suc, ◌+◌, ◌*◌, ◌/◌, ◌-◌, ◌≤◌}
use native.Mathlib.Omega.{arith}
use mathlib.Core.List.{List, [], ◌∷◌, ◌++◌, reverse, reverse-append}
use lib.ListN.{length, replicate, length-append, length-replicate, length-reverse, take, drop, length-take, length-drop}
use lib.Seq.{paste-zero}
use Rattle.std.specs.Prelude.{Result, Ok, Err, IsErrAnd}
use Rattle.numbers.proofs.Passed.{passed}
use Rattle.pen.specs.Numbers.{bytes4, bytes8, padding}
use Rattle.flattened.specs.Parts.{begins, property, ends, name_size, part_bytes, name_bytes}
use Rattle.flattened.specs.Blob.{header}
use Rattle.flattened.proofs.HeaderLaws.{header_length}
use Rattle.pen.proofs.LengthLaws.{bytes4_length}
use Rattle.pen.specs.Writing.{Writes, Put}
use Rattle.pen.proofs.WritingLaws.{kept}
use Rattle.writer.proofs.Accepting.{Ended, finish_size}
use Rattle.writer.specs.declared.Writer.{Writer}
use Rattle.writer.specs.declared.WriteRefusal.{WriteRefusal}
use Rattle.writer.specs.Writer.{Call, finish, after, answer_of}
use Rattle.writer.specs.Calls.{laid, part_at, end_at, part_laid, reservation_laid, turned, blocks_laid, blob_laid, laid_by, told, unchanged, outcome, wrote, finished}

-- ── The bytes of a part ──
pub begin_bytes : (name : List ℕ) → bytes4 1 ++ (name ++ replicate ((length name + 4) / 4 * 4 - length name) 0) ≡ part_bytes 0 (begins name)
unfolding part_bytes padding
begin_bytes name =
    let e : (length name + 4) / 4 * 4 - length name ≡ suc ((length name + 1 + 3) / 4 * 4 - (length name + 1)) = omega arith in
    ap (λ (k : ℕ). bytes4 1 ++ (name ++ replicate k 0)) e

pub property_bytes : (a : ℕ) (value : List ℕ)
    → bytes4 3 ++ (bytes4 (length value) ++ (bytes4 a ++ (value ++ replicate ((length value + 3) / 4 * 4 - length value) 0))) ≡ part_bytes a (property [] value)
unfolding part_bytes padding
property_bytes a value = refl

pub name_bytes_lem : (name : List ℕ) → replicate 1 0 ++ reverse name ≡ reverse (name ++ (0 ∷ []))
name_bytes_lem name = sym (reverse-append name (0 ∷ []))

-- ── What a call leaves ──
module _ (w : Writer) (c : Call) (buf : List ℕ) {a : Result Unit WriteRefusal} (is : a ≡ answer_of w c (length buf)) where
  refused_outcome : {e : WriteRefusal} → a ≡ Err e → unchanged w buf (Err e) ≡ outcome w c buf
  unfolding outcome
  refused_outcome met = rw (sym is ∙ met)

  -- `?` hands on the refusal that it met
  pub refused : {e : WriteRefusal} → a ≡ Err e → (r : Result Unit WriteRefusal) → IsErrAnd r (λ y. y ≡ e) → wrote w r buf ≡ outcome w c buf
  refused met r h = rw (passed r h) (refused_outcome met)

  pub made : a ≡ Ok tt → {buf' : List ℕ} → buf' ≡ laid_by w c buf → record { writer = after w c; size = told w c; answer = Ok tt; buffer = buf' } ≡ outcome w c buf
  unfolding outcome
  made done e = rw (sym is ∙ done, e)

module _ (w : Writer) {buf buf' : List ℕ} {r : ℕ} where
  pub lay_begin : (name : List ℕ) → Writes buf (part_at w) (part_bytes 0 (begins name)) buf' r → buf' ≡ part_laid w (begins name) buf
  unfolding part_laid part_bytes name_bytes
  lay_begin name h = h.put ∙ paste-zero _ (length buf - w.strings - name_size (begins name)) []

  pub lay_end : Writes buf (part_at w) (bytes4 2) buf' r → buf' ≡ part_laid w ends buf
  unfolding part_laid part_bytes name_bytes
  lay_end h = h.put ∙ paste-zero _ (length buf - w.strings - name_size ends) []

  pub lay_property : (name value : List ℕ) {b : List ℕ} {q : ℕ} → Writes buf (part_at w) (part_bytes w.strings (property [] value)) b q → length b ≡ length buf
      → Writes b (length b - w.strings - (length name + 1)) (reverse (name ++ (0 ∷ []))) buf' r → buf' ≡ part_laid w (property name value) buf
  unfolding part_laid part_bytes name_bytes name_size
  lay_property name value {b} h l g =
      g.put
      ∙ ap (λ (n : ℕ). laid b (n - w.strings - (length name + 1)) (reverse (name ++ (0 ∷ [])))) l
      ∙ ap (λ (s : List ℕ). laid s (length buf - w.strings - (length name + 1)) (reverse (name ++ (0 ∷ [])))) h.put

  pub lay_entry : (address size : ℕ) → Writes buf (40 + 16 * w.reserved) (bytes8 address ++ bytes8 size) buf' r → buf' ≡ reservation_laid w address size buf
  unfolding reservation_laid
  lay_entry address size h = h.put

pub turned_length : (l : List ℕ) (from : ℕ) {b : List ℕ} → from ≤ length l → b ≡ take from l ++ reverse (drop from l) → length b ≡ length l
turned_length l from h e =
    ap length e ∙ length-append (take from l) (reverse (drop from l)) ∙ omega (arith, length-take from l, length-reverse (drop from l), length-drop from l)

-- ── The header ──
pub header_room : (m b n long : ℕ) → 40 ≤ long → 0 + length (header m b n) ≤ long
header_room m b n long h = omega (arith, header_length m b n)

-- ── The end: each step keeps the buffer's length, so that the next has room ──
module _ (w : Writer) (buf : List ℕ) (r : Ended w (length buf)) {b1 b2 b3 b4 buf' : List ℕ} {q1 q2 q4 q5 : ℕ} (p1 : Put buf (40 + 16 * w.reserved) (replicate 16 0) b1 q1)
    (p2 : Put b1 (part_at w) (bytes4 9) b2 q2) (h3 : b3 ≡ turned b2 (end_at w)) (p4 : Put b3 (end_at w + w.strings) (replicate (length b3 - (end_at w + w.strings)) 0) b4 q4)
    (h5 : Writes b4 0 (header (16 * (w.reserved + 1)) (w.structure + 4) w.strings) buf' q5) where
  h1 : Writes buf (40 + 16 * w.reserved) (replicate 16 0) b1 q1
  h1 = p1.fits (omega (arith, length-replicate {A = ℕ} 16 0))

  l1 : length b1 ≡ length buf
  l1 = kept h1 (omega (arith, length-replicate {A = ℕ} 16 0))

  h2 : Writes b1 (part_at w) (bytes4 9) b2 q2
  h2 = p2.fits (omega (arith, bytes4_length 9, l1))

  l2 : length b2 ≡ length buf
  l2 = kept h2 (omega (arith, bytes4_length 9, l1)) ∙ l1

  l3 : length b3 ≡ length buf
  l3 = turned_length b2 (end_at w) (omega (arith, l2)) h3 ∙ l2

  h4 : Writes b3 (end_at w + w.strings) (replicate (length b3 - (end_at w + w.strings)) 0) b4 q4
  h4 = p4.fits (omega (arith, length-replicate {A = ℕ} (length b3 - (end_at w + w.strings)) 0, l3))

  pub lay_blob : buf' ≡ blob_laid w buf
  unfolding blob_laid blocks_laid
  lay_blob =
      let e2 : b2 ≡ laid (laid buf (40 + 16 * w.reserved) (replicate 16 0)) (part_at w) (bytes4 9) = h2.put ∙ ap (λ (s : List ℕ). laid s (part_at w) (bytes4 9)) h1.put in
      let e3 : b3 ≡ turned (laid (laid buf (40 + 16 * w.reserved) (replicate 16 0)) (part_at w) (bytes4 9)) (end_at w) = h3 ∙ ap (λ (s : List ℕ). turned s (end_at w)) e2 in
      let e4 = h4.put ∙ ap (λ (n : ℕ). laid b3 (end_at w + w.strings) (replicate (n - (end_at w + w.strings)) 0)) l3
      ∙ ap (λ (s : List ℕ). laid s (end_at w + w.strings) (replicate (length buf - (end_at w + w.strings)) 0)) e3 in
      h5.put ∙ ap (λ (s : List ℕ). laid s 0 (header (16 * (w.reserved + 1)) (w.structure + 4) w.strings)) e4

-- the length that is told is that of what stands
module _ (w : Writer) (buf : List ℕ) {a : Result Unit WriteRefusal} (is : a ≡ answer_of w finish (length buf)) where
  pub finish_refused : {e : WriteRefusal} → a ≡ Err e → (r : Result ℕ WriteRefusal) → IsErrAnd r (λ y. y ≡ e) → finished w r buf ≡ outcome w finish buf
  finish_refused met r h = rw (passed r h) (refused_outcome w finish buf is met)

  pub finish_made : a ≡ Ok tt → {buf' : List ℕ} → buf' ≡ blob_laid w buf → finished (after w finish) (Ok (part_at w + 4 + w.strings)) buf' ≡ outcome w finish buf
  finish_made done {buf'} e =
      ap (λ (n : ℕ). finished (after w finish) (Ok n) buf') (finish_size w (length buf) done is) ∙ made w finish buf is done e
