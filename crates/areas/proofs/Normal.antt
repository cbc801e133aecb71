-- One normal form: two ascending lists of intervals with the same addresses are one list. Assumes nothing.
use mathlib.Core.Path.{◌≡◌, refl}
use mathlib.Core.List.{List, [], ◌∷◌}
use mathlib.Core.Logic.{inl, inr, ⊎_elim, ◌↔◌}
use Prim.Native.Nat.{ℕ, suc, ◌≤◌, ◌<◌}
use native.Mathlib.Omega.{arith}
use native.Mathlib.Nat.{le_refl}
use Rattle.areas.specs.declared.Interval.{Interval}
use Rattle.areas.specs.Interval.{Listed, Above, Ascending}
use Rattle.areas.proofs.Lists.{le_or_lt}

-- what lies in a list that ascends from a on is a or above
above_le : (l : List Interval) (a x : ℕ) → Above a l → Listed x l → a ≤ x
above_le [] a x h i = absurd i
above_le (r ∷ l) a x h (inl i) = omega arith
above_le (r ∷ l) a x h (inr i) = omega (arith, above_le l (suc r.hi) x h.2 i)

-- and not below the first interval
head_le : (r : Interval) (l : List Interval) (a x : ℕ) → Above a (r ∷ l) → Listed x (r ∷ l) → r.lo ≤ x
head_le r l a x h (inl i) = i.0
head_le r l a x h (inr i) = omega (arith, above_le l (suc r.hi) x h.2 i)

-- where the first intervals end alike, what lies after the one lies after the other
tail_listed : (r s : Interval) (l m : List Interval) → r.hi ≡ s.hi → Above (suc r.hi) l → (x : ℕ) → (Listed x l → Listed x (s ∷ m)) → Listed x l → Listed x m
tail_listed r s l m e h x f i = go (f i)
  where
    go : Listed x (s ∷ m) → Listed x m
    go (inl k) = absurd (omega (arith, above_le l (suc r.hi) x h i))
    go (inr k) = k

-- the first interval does not end past the other's
end_le : (r s : Interval) (l m : List Interval) (a b : ℕ) → Above a (r ∷ l) → Above b (s ∷ m) → r.lo ≡ s.lo → (Listed s.hi (r ∷ l) → Listed s.hi (s ∷ m)) → r.hi ≤ s.hi
end_le r s l m a b h k e f = ⊎_elim (λ (p : r.hi ≤ s.hi). p) (λ (p : s.hi < r.hi). absurd (go (f (inl (omega arith, p))))) (le_or_lt r.hi s.hi)
  where
    go : Listed s.hi (s ∷ m) → ⊥
    go (inl i) = omega arith
    go (inr i) = omega (arith, above_le m (suc s.hi) s.hi k.2 i)

one_above : (l m : List Interval) (a b : ℕ) → Above a l → Above b m → ((x : ℕ) → Listed x l ↔ Listed x m) → l ≡ m
one_above [] [] a b h k f = refl
one_above [] (s ∷ m) a b h k f = absurd ((f s.lo).1 (inl (le_refl s.lo, k.1)))
one_above (r ∷ l) [] a b h k f = absurd ((f r.lo).0 (inl (le_refl r.lo, h.1)))
one_above (r ∷ l) (s ∷ m) a b h k f =
    let lo≤ : r.lo ≤ s.lo = head_le r l a s.lo h ((f s.lo).1 (inl (le_refl s.lo, k.1))) in
    let lo≥ : s.lo ≤ r.lo = head_le s m b r.lo k ((f r.lo).0 (inl (le_refl r.lo, h.1))) in
    let lo= : r.lo ≡ s.lo = omega arith in
    let ol= : s.lo ≡ r.lo = omega arith in
    let hi≤ : r.hi ≤ s.hi = end_le r s l m a b h k lo= (f s.hi).0 in
    let hi≥ : s.hi ≤ r.hi = end_le s r m l b a k h ol= (f r.hi).1 in
    let hi= : r.hi ≡ s.hi = omega arith in
    let ih= : s.hi ≡ r.hi = omega arith in
    let tails : l ≡ m = one_above l m (suc r.hi) (suc s.hi) h.2 k.2
    (λ x. (tail_listed r s l m hi= h.2 x (λ i. (f x).0 (inr i)), tail_listed s r m l ih= k.2 x (λ i. (f x).1 (inr i)))) in
    λ i. record { lo = lo= i; hi = hi= i } ∷ tails i

pub one_list : (l m : List Interval) → Ascending l → Ascending m → ((x : ℕ) → Listed x l ↔ Listed x m) → l ≡ m
one_list l m h k f = one_above l m 0 0 h k f
