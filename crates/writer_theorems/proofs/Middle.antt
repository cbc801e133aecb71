-- Bytes put into the middle of a list. Assumes nothing.
use mathlib.Core.Path.{◌≡◌, sym, ◌∙◌, ap}
use Prim.Native.Nat.{ℕ, ◌+◌, ◌-◌, ◌≤◌}
use native.Mathlib.Omega.{arith}
use mathlib.Core.List.{List, ◌++◌, append_assoc, reverse, reverse-append, reverse-reverse}
use lib.ListN.{length, take, drop, length-append, length-drop, take-append-drop}
use lib.Seq.{take_at, drop_at, take-length, drop-append-add, length-take-le, length-paste}
use Rattle.writer.specs.Calls.{laid, turned}

-- t put over mid
pub laid_mid : (pre mid rest t : List ℕ) (p : ℕ) → length pre ≡ p → length mid ≡ length t → laid (pre ++ (mid ++ rest)) p t ≡ pre ++ (t ++ rest)
laid_mid pre mid rest t p lp lm =
    ap (λ (s : List ℕ). (s ++ take (length t) t) ++ drop (p + length t) (pre ++ (mid ++ rest))) (take_at pre (mid ++ rest) p lp)
    ∙ ap (λ (s : List ℕ). (pre ++ s) ++ drop (p + length t) (pre ++ (mid ++ rest))) (take-length t)
    ∙ ap (λ (k : ℕ). (pre ++ t) ++ drop (k + length t) (pre ++ (mid ++ rest))) (sym lp)
    ∙ ap (λ (s : List ℕ). (pre ++ t) ++ s) (drop-append-add pre (mid ++ rest) (length t) ∙ drop_at mid rest (length t) lm)
    ∙ append_assoc pre t rest

-- a list cut in three
pub three : (g : List ℕ) (a b : ℕ) → a + b ≤ length g
    → (x : List ℕ) × (y : List ℕ) × (z : List ℕ) × (g ≡ x ++ (y ++ z)) × (length x ≡ a) × (length z ≡ b)
three g a b h =
    let d = drop a g in
    let ld = length-drop a g in
    let k = length (drop a g) - b in (
      take a g,
      take k (drop a g),
      drop k (drop a g),
      sym (take-append-drop a g) ∙ ap (λ (s : List ℕ). take a g ++ s) (sym (take-append-drop k (drop a g))),
      length-take-le a g (omega arith),
      length-drop k (drop a g) ∙ omega arith,
    )

-- what is turned round behind q
pub turned_at : (q g r : List ℕ) (p : ℕ) → length q ≡ p → turned (q ++ (g ++ reverse r)) p ≡ q ++ (r ++ reverse g)
turned_at q g r p lq =
    ap (λ (s : List ℕ). s ++ reverse (drop p (q ++ (g ++ reverse r)))) (take_at q (g ++ reverse r) p lq)
    ∙ ap (λ (s : List ℕ). q ++ reverse s) (drop_at q (g ++ reverse r) p lq)
    ∙ ap (λ (s : List ℕ). q ++ s) (reverse-append g (reverse r) ∙ ap (λ (s : List ℕ). s ++ reverse g) (reverse-reverse r))

-- t put before the gap and u behind it
pub gap_laid : (P g N t u : List ℕ) (p q : ℕ) → length P ≡ p → q ≡ length (P ++ (g ++ N)) - length N - length u → length t + length u ≤ length g
    → (y : List ℕ) × (laid (laid (P ++ (g ++ N)) p t) q u ≡ P ++ (t ++ (y ++ (u ++ N))))
gap_laid P g N t u p q lp eq h = go (three g (length t) (length u) h)
  where
    go : (x : List ℕ) × (y : List ℕ) × (z : List ℕ) × (g ≡ x ++ (y ++ z)) × (length x ≡ length t) × (length z ≡ length u)
        → (y : List ℕ) × (laid (laid (P ++ (g ++ N)) p t) q u ≡ P ++ (t ++ (y ++ (u ++ N))))
    go (x, y, z, e, lx, lz) =
        let e1 : P ++ (g ++ N) ≡ P ++ (x ++ (y ++ (z ++ N))) = ap (λ (s : List ℕ). P ++ (s ++ N)) e ∙ simp append_assoc in
        let e2 : laid (P ++ (g ++ N)) p t ≡ P ++ (t ++ (y ++ (z ++ N))) = ap (λ (s : List ℕ). laid s p t) e1 ∙ laid_mid P x (y ++ (z ++ N)) t p lp lx in
        let e3 : P ++ (t ++ (y ++ (z ++ N))) ≡ (P ++ (t ++ y)) ++ (z ++ N) = simp append_assoc in
        let l0 : length (P ++ (g ++ N)) ≡ length P + (length g + length N) = simp length-append in
        let lg : length g ≡ length x + (length y + length z) = ap length e ∙ simp length-append in
        let l1 : length (P ++ (t ++ y)) ≡ length P + (length t + length y) = simp length-append in
        let lq : length (P ++ (t ++ y)) ≡ q = omega arith in
        (y, ap (λ (s : List ℕ). laid s q u) (e2 ∙ e3) ∙ laid_mid (P ++ (t ++ y)) z N u q lq lz ∙ simp append_assoc)

pub laid_length : (buf t : List ℕ) (at : ℕ) → at + length t ≤ length buf → length (laid buf at t) ≡ length buf
laid_length buf t at h = length-paste buf at t (length t) h (omega arith)
