-- How many reservations start inside an area: no more in a part of it, and fewer where the part ends at the start of one. Assumes nothing.
use mathlib.Core.Path.{◌≡◌, ap}
use mathlib.Core.List.Memᴰ
use mathlib.Core.List.{List, [], ◌∷◌, Memᴰ}
use mathlib.Core.Bool.{cond}
use mathlib.Core.Logic.{⊎_elim}
use Prim.Native.Nat.{ℕ, ◌+◌, ◌≤◌, ◌<◌}
use native.Mathlib.Omega.{arith}
use native.Mathlib.Nat.{le_refl}
use lib.Dec.{ltb}
use lib.ListN.{length}
use borrow.Author.Tests.{le-ltb, lt-ltb}
use Rattle.areas.specs.declared.Interval.{Interval}
use Rattle.areas.proofs.Lists.{le_or_lt}

-- 1 where x lies strictly between s and e
abbrev between : ℕ → ℕ → ℕ → ℕ
between s e x = cond (ltb s x) (cond (ltb x e) 1 0) 0

between_is : (s e x : ℕ) → s < x → x < e → between s e x ≡ 1
between_is s e x p q = simp (lt-ltb s x p, lt-ltb x e q)

between_edge : (s x : ℕ) → between s x x ≡ 0
between_edge s x =
    ⊎_elim (λ (p : x ≤ s). simp (le-ltb s x p)) (λ (p : s < x). simp (lt-ltb s x p, le-ltb x x (le_refl x))) (le_or_lt x s)

between_most : (s e x : ℕ) → between s e x ≤ 1
between_most s e x =
    ⊎_elim (λ (p : x ≤ s). rw (le-ltb s x p) (omega arith))
    (λ (p : s < x). ⊎_elim (λ (q : e ≤ x). rw (lt-ltb s x p, le-ltb x e q) (omega arith)) (λ (q : x < e). omega (arith, between_is s e x p q)) (le_or_lt e x))
    (le_or_lt x s)

between_le : (s e a b x : ℕ) → s ≤ a → b ≤ e → between a b x ≤ between s e x
between_le s e a b x sa be =
    ⊎_elim (λ (p : x ≤ a). rw (le-ltb a x p) (omega arith))
    (λ (p : a < x). ⊎_elim
    (λ (q : b ≤ x). rw (lt-ltb a x p, le-ltb x b q) (omega arith))
    (λ (q : x < b). omega (arith, between_most a b x, between_is s e x (omega arith) (omega arith)))
    (le_or_lt b x))
    (le_or_lt x a)

-- how many of the list start strictly inside [s, e)
unfoldable pub starting : List Interval → ℕ → ℕ → ℕ
starting [] s e = 0
starting (r ∷ l) s e = between s e r.lo + starting l s e

starting_le : (l : List Interval) (s e a b : ℕ) → s ≤ a → b ≤ e → starting l a b ≤ starting l s e
unfolding starting
starting_le [] s e a b sa be = omega arith
starting_le (r ∷ l) s e a b sa be = omega (arith, between_le s e a b r.lo sa be, starting_le l s e a b sa be)

pub starting_most : (l : List Interval) (s e : ℕ) → starting l s e ≤ length l
unfolding starting
starting_most [] s e = omega arith
starting_most (r ∷ l) s e = omega (arith, between_most s e r.lo, starting_most l s e)

-- the one at whose start a part ends starts in the area, and not in the part
pub starting_less : (l : List Interval) (s e a : ℕ) (r : Interval) → Memᴰ r l → s ≤ a → a < r.lo → r.lo < e → starting l a r.lo < starting l s e
unfolding starting
starting_less [] s e a r m sa ab be = absurd (Memᴰ.not-nil m)
starting_less (q ∷ l) s e a r (Memᴰ.head p) sa ab be =
    let same : r.lo ≡ q.lo = ap (λ (i : Interval). i.lo) p in
    rw (← same) (omega (arith, between_edge a r.lo, between_is s e r.lo (omega arith) be, starting_le l s e a r.lo sa (omega arith)))
starting_less (q ∷ l) s e a r (Memᴰ.tail m) sa ab be =
    omega (arith, between_le s e a r.lo q.lo sa (omega arith), starting_less l s e a r m sa ab be)
