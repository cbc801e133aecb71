-- Numbers and names put down in a list are read from it. Assumes nothing.
use mathlib.Core.Path.{◌≡◌, sym, ◌∙◌, ap}
use Prim.Native.Nat.{ℕ, ◌+◌, ◌*◌, ◌/◌, ◌%◌, ◌-◌, ◌≤◌, ◌<◌}
use native.Mathlib.Omega.{arith}
use mathlib.Core.List.{List, ◌∷◌, ◌++◌, append_assoc}
use lib.ListN.{length, get_or, length-append, length-replicate, get_or-append}
use lib.Seq.{get_or-append-add, get_or-append_seam, take-append_seam, drop_at}
use Rattle.words.specs.Bytes.{word, double, bytes, string_end, align4}
use Rattle.words.proofs.BytesLaws.{first_only}
use Rattle.pen.proofs.LengthLaws.{bytes4_length}
use Rattle.pen.specs.Numbers.{bytes4, bytes8, padding}
use Rattle.flattened.specs.Parts.{NoZero}

-- four bytes of a number are the number
join : (x : ℕ) → x / 256 * 256 + x % 256 ≡ x
join x = omega arith

pub join32 : (w : ℕ) → w < 4294967296
    → ((w / 256 / 256 / 256 % 256 * 256 + w / 256 / 256 % 256) * 256 + w / 256 % 256) * 256 + w % 256 ≡ w
join32 w h =
    let a = w / 256 in
    let b = w / 256 / 256 in
    let c = w / 256 / 256 / 256 in
    let h1 : w / 256 < 16777216 = omega arith in
    let h2 : w / 256 / 256 < 65536 = omega arith in
    let h3 : w / 256 / 256 / 256 < 256 = omega arith in
    let h4 : w / 256 / 256 / 256 % 256 ≡ w / 256 / 256 / 256 = omega arith in
    rw (h4, join (w / 256 / 256), join (w / 256), join w)

-- a number that stands after pre is read there
pub word_at : (pre rest : List ℕ) (w p : ℕ) → length pre ≡ p → w < 4294967296 → word (pre ++ (bytes4 w ++ rest)) p ≡ w
unfolding word bytes4
word_at pre rest w p e h =
    let l = bytes4 w ++ rest in
    let e0 : p ≡ length pre + 0 = omega arith in
    let e1 : p + 1 ≡ length pre + 1 = omega arith in
    let e2 : p + 2 ≡ length pre + 2 = omega arith in
    let e3 : p + 3 ≡ length pre + 3 = omega arith in
    rw (e1, e2, e3) (rw e0 (rw (get_or-append-add pre l 0 0, get_or-append-add pre l 1 0, get_or-append-add pre l 2 0, get_or-append-add pre l 3 0) (join32 w h)))

-- the same of eight bytes
pub double_at : (pre rest : List ℕ) (w p : ℕ) → length pre ≡ p → w < 18446744073709551616 → double (pre ++ (bytes8 w ++ rest)) p ≡ w
unfolding double bytes8
double_at pre rest w p e h =
    let q : pre ++ ((bytes4 (w / 4294967296) ++ bytes4 (w % 4294967296)) ++ rest) ≡ pre ++ (bytes4 (w / 4294967296) ++ (bytes4 (w % 4294967296) ++ rest)) = simp append_assoc in
    let r : pre ++ (bytes4 (w / 4294967296) ++ (bytes4 (w % 4294967296) ++ rest)) ≡ (pre ++ bytes4 (w / 4294967296)) ++ (bytes4 (w % 4294967296) ++ rest) = simp append_assoc in
    let l : length (pre ++ bytes4 (w / 4294967296)) ≡ p + 4 = length-append pre (bytes4 (w / 4294967296)) ∙ omega (arith, bytes4_length (w / 4294967296)) in
    let u : word (pre ++ ((bytes4 (w / 4294967296) ++ bytes4 (w % 4294967296)) ++ rest)) p ≡ w / 4294967296 =
    ap (λ (s : List ℕ). word s p) q ∙ word_at pre (bytes4 (w % 4294967296) ++ rest) (w / 4294967296) p e (omega arith) in
    let v : word (pre ++ ((bytes4 (w / 4294967296) ++ bytes4 (w % 4294967296)) ++ rest)) (p + 4) ≡ w % 4294967296 =
    ap (λ (s : List ℕ). word s (p + 4)) (q ∙ r) ∙ word_at (pre ++ bytes4 (w / 4294967296)) rest (w % 4294967296) (p + 4) l (omega arith) in
    rw (u, v) (omega arith)

pub padding_length : (n : ℕ) → length (padding n) ≡ align4 n - n
unfolding padding
padding_length n = length-replicate (align4 n - n) 0

-- bytes that stand after pre
pub bytes_at : (pre mid rest : List ℕ) (p q : ℕ) → length pre ≡ p → q ≡ p + length mid → bytes (pre ++ (mid ++ rest)) p q ≡ mid
bytes_at pre mid rest p q e f =
    let g : q - p ≡ length mid = omega arith in
    rw (drop_at pre (mid ++ rest) p e, g, take-append_seam mid rest)

-- a name without a zero byte that stands after pre, with its zero byte, ends there
pub string_at_lem : (pre name rest : List ℕ) (p : ℕ) → length pre ≡ p → NoZero name → string_end (pre ++ (name ++ (0 ∷ rest))) p ≡ p + length name
string_at_lem pre name rest p e z =
    sym (first_only 0 (pre ++ (name ++ (0 ∷ rest))) p (p + length name) (omega arith) (omega (arith, long, length-append name (0 ∷ rest))) before (λ u. here))
  where
    long : length (pre ++ (name ++ (0 ∷ rest))) ≡ p + length (name ++ (0 ∷ rest))
    long = length-append pre (name ++ (0 ∷ rest)) ∙ ap (λ (x : ℕ). x + length (name ++ (0 ∷ rest))) e

    at : (i : ℕ) → get_or (pre ++ (name ++ (0 ∷ rest))) (p + i) 0 ≡ get_or (name ++ (0 ∷ rest)) i 0
    at i = ap (λ (x : ℕ). get_or (pre ++ (name ++ (0 ∷ rest))) (x + i) 0) (sym e) ∙ get_or-append-add pre (name ++ (0 ∷ rest)) i 0

    here : get_or (pre ++ (name ++ (0 ∷ rest))) (p + length name) 0 ≡ 0
    here = at (length name) ∙ get_or-append_seam name 0 rest 0

    before : (k : ℕ) → p ≤ k → k < p + length name → get_or (pre ++ (name ++ (0 ∷ rest))) k 0 ≡ 0 → ⊥
    before k l m is =
        let i = k - p in
        let f : k ≡ p + (k - p) = omega arith in
        let b : k - p < length name = omega arith in
        z (k - p) b (sym (get_or-append name (0 ∷ rest) 0 (k - p) b) ∙ sym (at (k - p)) ∙ ap (λ (x : ℕ). get_or (pre ++ (name ++ (0 ∷ rest))) x 0) (sym f) ∙ is)
