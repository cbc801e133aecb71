-- How many numbers below n pass a test: tests that agree count alike, tests that never meet add up, and a stretch of numbers counts its length.
-- Assumes nothing.
use mathlib.Core.Path.{◌≡◌, refl, ◌∙◌}
use mathlib.Core.Bool.{Bool, true, false, cond, not, ◌&&◌, ◌||◌}
use Prim.Native.Nat.{ℕ, zero, suc, ◌+◌, ◌-◌, ◌*◌, ◌/◌, ◌≤◌, ◌<◌, min}
use native.Mathlib.Omega.{arith}
use native.Mathlib.Nat.{mul-div_cancel, le_of_mul-le-mul_right, lt_of_mul-lt-mul_right}
use lib.Dec.{leb, ltb}
use borrow.Author.Tests.{leb-true, leb-false, ltb-true, ltb-false}
use Rattle.page_count.specs.Pages.{count_to}
use Rattle.page_count.proofs.Reading.{false_true}

-- tests that agree
pub count_same : (n : ℕ) (f g : ℕ → Bool) → ((i : ℕ) → f i ≡ g i) → count_to n f ≡ count_to n g
unfolding count_to
count_same zero f g e = refl
count_same (suc n) f g e = rw (e n, count_same n f g e)

-- a test that nothing passes
pub count_none : (n : ℕ) (f : ℕ → Bool) → ((i : ℕ) → f i ≡ true → ⊥) → count_to n f ≡ 0
unfolding count_to
count_none zero f nothing = refl
count_none (suc n) f nothing = go (count_none n f nothing) (f n) refl
  where
    go : count_to n f ≡ 0 → (b : Bool) → f n ≡ b → cond b (suc (count_to n f)) (count_to n f) ≡ 0
    go more true e = absurd (nothing n e)
    go more false e = more

-- tests that never both hold
pub count_or : (n : ℕ) (f g : ℕ → Bool) → ((i : ℕ) → f i ≡ true → g i ≡ true → ⊥) → count_to n f + count_to n g ≡ count_to n (λ i. f i || g i)
unfolding count_to
count_or zero f g off = omega arith
count_or (suc n) f g off = go (count_or n f g off) (f n) (g n) refl refl
  where
    go : count_to n f + count_to n g ≡ count_to n (λ i. f i || g i) → (b c : Bool) → f n ≡ b → g n ≡ c
        → cond b (suc (count_to n f)) (count_to n f) + cond c (suc (count_to n g)) (count_to n g) ≡ cond (b || c) (suc (count_to n (λ i. f i || g i))) (count_to n (λ i. f i || g i))
    go more true true d e = absurd (off n d e)
    go more true false d e = omega arith
    go more false true d e = omega arith
    go more false false d e = omega arith

-- a test cut in two by another
parts : (b c : Bool) → ((b && not c) || (b && c)) ≡ b
parts true true = refl
parts true false = refl
parts false c = refl

never_both : (b c : Bool) → (b && not c) ≡ true → (b && c) ≡ true → ⊥
never_both true true d e = false_true d
never_both true false d e = false_true e
never_both false c d e = false_true d

pub count_parts : (n : ℕ) (f g : ℕ → Bool) → count_to n (λ i. f i && not (g i)) + count_to n (λ i. f i && g i) ≡ count_to n f
count_parts n f g =
    count_or n (λ i. f i && not (g i)) (λ i. f i && g i) (λ i. never_both (f i) (g i))
    ∙ count_same n (λ i. (f i && not (g i)) || (f i && g i)) f (λ i. parts (f i) (g i))

-- ── A stretch of pages ──
module _ (p a k : ℕ) (pos : 0 < p) where
  -- page i lies in the k pages from page a on
  abbrev pub within : ℕ → Bool
  within i = leb (a * p) (i * p) && ltb (i * p) ((a + k) * p)

  step : (n c : ℕ) → c ≡ min n (a + k) - a → cond (within n) (suc c) c ≡ min (suc n) (a + k) - a
  step n c e = go (leb (a * p) (n * p)) (ltb (n * p) ((a + k) * p)) refl refl
    where
      go : (s t : Bool) → leb (a * p) (n * p) ≡ s → ltb (n * p) ((a + k) * p) ≡ t → cond (s && t) (suc c) c ≡ min (suc n) (a + k) - a
      go true true u v =
          let x : a ≤ n = le_of_mul-le-mul_right (leb-true _ _ u) pos in
          let y : n < a + k = lt_of_mul-lt-mul_right p (ltb-true _ _ v) in
          omega arith
      go true false u v =
          let y : a + k ≤ n = le_of_mul-le-mul_right (ltb-false _ _ v) pos in
          omega arith
      go false t u v =
          let x : n < a = lt_of_mul-lt-mul_right p (leb-false _ _ u) in
          omega arith

  below : (n : ℕ) → count_to n within ≡ min n (a + k) - a
  unfolding count_to
  below zero = omega arith
  below (suc n) = step n (count_to n within) (below n)

  pub stretch : (n : ℕ) → (a + k) * p ≤ n * p → ((a + k) * p - a * p) / p ≡ count_to n within
  stretch n h =
      let x : a + k ≤ n = le_of_mul-le-mul_right h pos in
      let e : (a + k) * p - a * p ≡ k * p = omega arith in
      let c : count_to n within ≡ k = omega (arith, below n) in
      rw (e, c) (mul-div_cancel k pos)
