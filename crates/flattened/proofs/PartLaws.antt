-- The parts of a structure block are read back as they were written. Assumes nothing.
use mathlib.Core.Path.{◌≡◌, refl, sym, ◌∙◌, ap}
use Prim.Native.Nat.{ℕ, suc, ◌+◌, ◌*◌, ◌/◌, ◌%◌, ◌-◌, ◌<◌}
use native.Mathlib.Omega.{arith}
use mathlib.Core.List.{List, [], ◌∷◌, ◌++◌, append_assoc, append-nil}
use lib.ListN.{length, length-append}
use Rattle.words.specs.Bytes.{word, bytes, string_end}
use Rattle.fdt.specs.Token.{tok_at}
use Rattle.fdt.specs.Tree.{Tok, begin, ended, fin, lex_at}
use Rattle.fdt.specs.declared.Token.TheVariants.{Begin, EndNode, Prop}
use Rattle.fdt.proofs.TokLaws.{at_begin, at_end, at_prop, at_fin, prop_is}
use Rattle.fdt.proofs.LexLaws.{lex_of}
use Rattle.pen.specs.Numbers.{bytes4, padding}
use Rattle.flattened.specs.Parts.{Part, begins, property, ends, part_bytes, name_bytes, part_size, name_size, parts_bytes, names_bytes, parts_size, names_size, part_tok, parts_toks, NoZero, Clean, AllClean}
use Rattle.flattened.proofs.NumberLaws.{word_at, padding_length, bytes_at, string_at_lem}
use Rattle.pen.proofs.LengthLaws.{bytes4_length}

-- ── How long the parts are ──
pub part_length : (a : ℕ) (x : Part) → length (part_bytes a x) ≡ part_size x
unfolding part_bytes part_size
part_length a (begins name) =
    simp (length-append, bytes4_length, padding_length) (omega arith)
part_length a (property name value) =
    simp (length-append, bytes4_length, padding_length) (omega arith)
part_length a ends = bytes4_length 2

pub name_length : (x : Part) → length (name_bytes x) ≡ name_size x
unfolding name_bytes name_size
name_length (begins name) = refl
name_length (property name value) = length-append name (0 ∷ [])
name_length ends = refl

pub parts_length : (a : ℕ) (xs : List Part) → length (parts_bytes a xs) ≡ parts_size xs
unfolding parts_bytes parts_size
parts_length a [] = refl
parts_length a (x ∷ xs) =
    length-append (part_bytes a x) (parts_bytes (a + name_size x) xs) ∙ omega (arith, part_length a x, parts_length (a + name_size x) xs)

pub names_length : (xs : List Part) → length (names_bytes xs) ≡ names_size xs
unfolding names_bytes names_size
names_length [] = refl
names_length (x ∷ xs) = length-append (name_bytes x) (names_bytes xs) ∙ omega (arith, name_length x, names_length xs)

pub part_four : (x : Part) → part_size x % 4 ≡ 0
unfolding part_size
part_four (begins name) = omega arith
part_four (property name value) = omega arith
part_four ends = refl

ends_size : part_size ends ≡ 4
unfolding part_size
ends_size = refl

-- ── A part at p of the block B, its name, if it has one, at a of the block N ──
module _ (B N pre rest npre nrest : List ℕ) (p a : ℕ) (lp : length pre ≡ p) (four : p % 4 ≡ 0) (la : length npre ≡ a) (bs : length B < 4294967296) (ns : length N < 4294967296) where
  begin_tok : (name : List ℕ) → NoZero name → B ≡ pre ++ (part_bytes a (begins name) ++ rest)
      → (tok_at B N p ≡ Begin (length name) (p + part_size (begins name))) × (bytes B (p + 4) (p + 4 + length name) ≡ name)
  unfolding part_bytes part_size
  begin_tok name z e =
      let e1 : B ≡ pre ++ (bytes4 1 ++ (name ++ (0 ∷ (padding (length name + 1) ++ rest)))) = e ∙ simp append_assoc in
      let e2 : B ≡ (pre ++ bytes4 1) ++ (name ++ (0 ∷ (padding (length name + 1) ++ rest))) = e ∙ simp append_assoc in
      let l2 : length (pre ++ bytes4 1) ≡ p + 4 = length-append pre (bytes4 1) ∙ omega (arith, bytes4_length 1) in
      let w : word B p ≡ 1 = ap (λ (s : List ℕ). word s p) e1 ∙ word_at pre _ 1 p lp (omega arith) in
      let s : string_end B (p + 4) ≡ p + 4 + length name = ap (λ (s : List ℕ). string_end s (p + 4)) e2 ∙ string_at_lem (pre ++ bytes4 1) name _ (p + 4) l2 z in
      let lb : length B ≡ p + 4 + (length name + suc (length (padding (length name + 1) ++ rest))) =
      ap length e2 ∙ length-append (pre ++ bytes4 1) _ ∙ omega (arith, length-append name (0 ∷ (padding (length name + 1) ++ rest))) in
      let t = at_begin B N p 1 (omega arith) (sym w) (p + 4 + length name) refl (sym s) (omega arith) in
      let q1 : p + 4 + length name - (p + 4) ≡ length name = omega arith in
      let q2 : (p + 4 + length name + 4) / 4 * 4 ≡ p + (4 + (length name + 1 + 3) / 4 * 4) = omega arith in
      (sym t ∙ rw (q1, q2), ap (λ (s : List ℕ). bytes s (p + 4) (p + 4 + length name)) e2 ∙ bytes_at (pre ++ bytes4 1) name _ (p + 4) (p + 4 + length name) l2 refl)

  end_tok : B ≡ pre ++ (part_bytes a ends ++ rest) → tok_at B N p ≡ EndNode (p + 4)
  unfolding part_bytes
  end_tok e =
      let w : word B p ≡ 2 = ap (λ (s : List ℕ). word s p) e ∙ word_at pre rest 2 p lp (omega arith) in
      let lb : length B ≡ p + (4 + length rest) = ap length e ∙ length-append pre _ ∙ omega (arith, length-append (bytes4 2) rest, bytes4_length 2) in
      sym (at_end B N p 2 (omega arith) (sym w) refl)

  prop_tok : (name value : List ℕ) → NoZero name → B ≡ pre ++ (part_bytes a (property name value) ++ rest) → N ≡ npre ++ (name_bytes (property name value) ++ nrest)
      → (tok_at B N p ≡ Prop (length value) a (a + length name) (p + part_size (property name value)))
      × (bytes N a (a + length name) ≡ name) × (bytes B (p + 12) (p + 12 + length value) ≡ value)
  unfolding part_bytes name_bytes part_size
  prop_tok name value z e f =
      let m = padding (length value) ++ rest in
      let e1 : B ≡ pre ++ (bytes4 3 ++ (bytes4 (length value) ++ (bytes4 a ++ (value ++ m)))) = e ∙ simp append_assoc in
      let e2 : B ≡ (pre ++ bytes4 3) ++ (bytes4 (length value) ++ (bytes4 a ++ (value ++ m))) = e ∙ simp append_assoc in
      let e3 : B ≡ (pre ++ (bytes4 3 ++ bytes4 (length value))) ++ (bytes4 a ++ (value ++ m)) = e ∙ simp append_assoc in
      let e4 : B ≡ (pre ++ (bytes4 3 ++ (bytes4 (length value) ++ bytes4 a))) ++ (value ++ m) = e ∙ simp append_assoc in
      let f1 : N ≡ npre ++ (name ++ (0 ∷ nrest)) = f ∙ simp append_assoc in
      let l2 : length (pre ++ bytes4 3) ≡ p + 4 = simp (length-append, bytes4_length) (omega arith) in
      let l3 : length (pre ++ (bytes4 3 ++ bytes4 (length value))) ≡ p + 8 = simp (length-append, bytes4_length) (omega arith) in
      let l4 : length (pre ++ (bytes4 3 ++ (bytes4 (length value) ++ bytes4 a))) ≡ p + 12 = simp (length-append, bytes4_length) (omega arith) in
      let lb : length B ≡ p + 12 + (length value + length m) = ap length e4 ∙ length-append (pre ++ (bytes4 3 ++ (bytes4 (length value) ++ bytes4 a))) _ ∙ omega (arith, length-append value m) in
      let ln : length N ≡ a + (length name + suc (length nrest)) = ap length f1 ∙ length-append npre _ ∙ omega (arith, length-append name (0 ∷ nrest)) in
      let w1 : word B p ≡ 3 = ap (λ (s : List ℕ). word s p) e1 ∙ word_at pre _ 3 p lp (omega arith) in
      let w2 : word B (p + 4) ≡ length value = ap (λ (s : List ℕ). word s (p + 4)) e2 ∙ word_at (pre ++ bytes4 3) _ (length value) (p + 4) l2 (omega arith) in
      let w3 : word B (p + 8) ≡ a = ap (λ (s : List ℕ). word s (p + 8)) e3 ∙ word_at (pre ++ (bytes4 3 ++ bytes4 (length value))) _ a (p + 8) l3 (omega arith) in
      let s : string_end N a ≡ a + length name = ap (λ (s : List ℕ). string_end s a) f1 ∙ string_at_lem npre name nrest a la z in
      let t = prop_is B N p (length value) a (a + length name) (sym w2) (omega arith) (sym w3) (sym s) (omega arith) in
      let u = at_prop B N p 3 (omega arith) (sym w1) _ refl t in
      let q2 : (p + 12 + length value + 3) / 4 * 4 ≡ p + (12 + (length value + 3) / 4 * 4) = omega arith in (
        sym u ∙ rw q2,
        ap (λ (s : List ℕ). bytes s a (a + length name)) f1 ∙ bytes_at npre name _ a (a + length name) la refl,
        ap (λ (s : List ℕ). bytes s (p + 12) (p + 12 + length value)) e4 ∙ bytes_at (pre ++ (bytes4 3 ++ (bytes4 (length value) ++ bytes4 a))) value _ (p + 12) (p + 12 + length value) l4 refl,
      )

  -- so it is read, and then what follows it
  part_lex : (x : Part) → Clean x → B ≡ pre ++ (part_bytes a x ++ rest) → N ≡ npre ++ (name_bytes x ++ nrest) → lex_at B N p ≡ part_tok p x ∷ lex_at B N (p + part_size x)
  unfolding part_tok
  part_lex (begins name) z e f =
      let t = begin_tok name z e in
      lex_of B N p _ t.0 ∙ ap (λ (s : List ℕ). begin p s ∷ lex_at B N (p + part_size (begins name))) t.1
  part_lex (property name value) z e f =
      let t = prop_tok name value z e f in
      lex_of B N p _ t.0 ∙ rw (t.1, t.2)
  part_lex ends z e f = lex_of B N p _ (end_tok e) ∙ ap (λ (m : ℕ). ended ∷ lex_at B N (p + m)) (sym ends_size)

-- ── All of them, and FDT_END ──
module _ (B N : List ℕ) (bs : length B < 4294967296) (ns : length N < 4294967296) where
  fin_lex : (pre : List ℕ) (p : ℕ) → length pre ≡ p → B ≡ pre ++ bytes4 9 → lex_at B N p ≡ fin ∷ []
  fin_lex pre p lp e =
      let e1 : B ≡ pre ++ (bytes4 9 ++ []) = e ∙ simp append-nil in
      let w : word B p ≡ 9 = ap (λ (s : List ℕ). word s p) e1 ∙ word_at pre [] 9 p lp (omega arith) in
      let lb : length B ≡ p + 4 = ap length e ∙ length-append pre _ ∙ omega (arith, bytes4_length 9) in
      lex_of B N p _ (sym (at_fin B N p 9 (omega arith) (sym w) refl (omega arith)))

  -- THE LAW: from p on the parts are read, each at its place
  pub parts_lex : (xs : List Part) (pre npre : List ℕ) (p a : ℕ) → length pre ≡ p → p % 4 ≡ 0 → length npre ≡ a
      → B ≡ pre ++ (parts_bytes a xs ++ bytes4 9) → N ≡ npre ++ names_bytes xs → AllClean xs → lex_at B N p ≡ parts_toks p xs
  unfolding parts_bytes names_bytes parts_toks
  parts_lex [] pre npre p a lp four la e f z = fin_lex pre p lp e
  parts_lex (x ∷ xs) pre npre p a lp four la e f z =
      let rest = parts_bytes (a + name_size x) xs ++ bytes4 9 in
      let e1 : B ≡ pre ++ (part_bytes a x ++ rest) = e ∙ simp append_assoc in
      let e2 : B ≡ (pre ++ part_bytes a x) ++ rest = e ∙ simp append_assoc in
      let f2 : N ≡ (npre ++ name_bytes x) ++ names_bytes xs = f ∙ simp append_assoc in
      let l2 : length (pre ++ part_bytes a x) ≡ p + part_size x = length-append pre _ ∙ omega (arith, part_length a x) in
      let m2 : length (npre ++ name_bytes x) ≡ a + name_size x = length-append npre _ ∙ omega (arith, name_length x) in
      part_lex B N pre rest npre (names_bytes xs) p a lp four la bs ns x z.0 e1 f
      ∙ ap (λ (ts : List Tok). part_tok p x ∷ ts)
      (parts_lex xs (pre ++ part_bytes a x) (npre ++ name_bytes x) (p + part_size x) (a + name_size x) l2 (omega (arith, part_four x)) m2 e2 f2 z.1)
