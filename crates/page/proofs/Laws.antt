-- The laws of rounding, once for every page size p that divides 2^64: what callers use instead of the text of the definitions.
-- Assumes nothing.
use mathlib.Core.Path.{◌≡◌, refl, sym, ◌∙◌}
use Prim.Native.Nat.{ℕ, suc, ◌+◌, ◌-◌, ◌*◌, ◌/◌, ◌^◌, ◌≤◌, ◌<◌, min, max}
use native.Mathlib.Nat.{div-add-mod', le-div_iff_mul-le, div-mul-le_self, lt-div-mul-add, mul-le-mul_right, mul-mod_left, mod-eq-sub-mod, suc-mul, lt_of_mul-lt-mul_right}
use native.Mathlib.Omega.{arith}
use mathlib.Core.Bool.{Bool, true, false}
use lib.Dec.{leb, lit<, lit≤}
use borrow.Author.Tests.{le-leb, lt-leb, leb-true, leb-false}
use Rattle.page.specs.Round.{top, down, Aligned, IsUp, up, ending, Page}

pub down_le : (p x : ℕ) → down p x ≤ x
unfolding down
down_le p x = div-mul-le_self x p

pub down_near : (p x : ℕ) → 0 < p → x < down p x + p
unfolding down
down_near p x h = lt-div-mul-add h

pub down_aligned : (p x : ℕ) → Aligned p (down p x)
unfolding down
down_aligned p x = mul-mod_left (x / p) p

pub down_fixed : (p x : ℕ) → Aligned p x → down p x ≡ x
unfolding down
down_fixed p x a = omega (arith, div-add-mod' x p)

-- rounding down keeps the order
pub down_mono : (p x y : ℕ) → 0 < p → x ≤ y → down p x ≤ down p y
unfolding down
down_mono p x y h le =
    mul-le-mul_right p ((le-div_iff_mul-le h).1 (omega (arith, div-mul-le_self x p)))

-- the greatest page start not above x
pub down_greatest : (p x y : ℕ) → 0 < p → Aligned p y → y ≤ x → y ≤ down p x
down_greatest p x y h a le = omega (arith, down_mono p y x h le, down_fixed p y a)

-- page starts less than a page apart do not pass one another
pub page_gap : (p a b : ℕ) → Aligned p a → Aligned p b → a < b + p → a ≤ b
page_gap p a b u v h =
    let e : a / p * p ≡ a = omega (arith, div-add-mod' a p) in
    let f : b / p * p ≡ b = omega (arith, div-add-mod' b p) in
    let k : a / p < suc (b / p) = lt_of_mul-lt-mul_right p (rw (suc-mul (b / p) p) (omega arith)) in
    let l : a / p ≤ b / p = omega arith in
    omega (arith, mul-le-mul_right p l)

-- what stands a page below a page start is a page start
pub aligned_below : (p x : ℕ) → 0 < p → Aligned p x → p ≤ x → Aligned p (x - p)
aligned_below p x h a le = sym (mod-eq-sub-mod le) ∙ a

pub top_aligned : (p : ℕ) → Page p → Aligned p (top p)
unfolding top
top_aligned p g = aligned_below p (2 ^ 64) g.pos g.whole g.small

pub up_below : (p x : ℕ) → x ≤ top p → up p x ≡ down p (x + (p - 1))
unfolding up
up_below p x h = rw (le-leb x (top p) h)

pub up_above : (p x : ℕ) → top p < x → up p x ≡ top p
unfolding up
up_above p x h = rw (lt-leb x (top p) h)

-- a fact of up p x, from the two cases
by_top : (p x : ℕ) (P : ℕ → Type 0) → (x ≤ top p → P (down p (x + (p - 1)))) → (top p < x → P (top p)) → P (up p x)
by_top p x P a b = go (leb x (top p)) refl
  where
    go : (t : Bool) → leb x (top p) ≡ t → P (up p x)
    go true e = let h : x ≤ top p = leb-true x (top p) e in rw (up_below p x h) (a h)
    go false e = let h : top p < x = leb-false x (top p) e in rw (up_above p x h) (b h)

pub up_aligned : (p x : ℕ) → Page p → Aligned p (up p x)
up_aligned p x g = by_top p x (λ u. Aligned p u) (λ h. down_aligned p (x + (p - 1))) (λ h. top_aligned p g)

pub up_le_top : (p x : ℕ) → Page p → up p x ≤ top p
up_le_top p x g =
    by_top p x (λ u. u ≤ top p)
    (λ h. page_gap p _ _ (down_aligned p _) (top_aligned p g)
    (omega (arith, down_le p (x + (p - 1)), g.pos)))
    (λ h. omega arith)

-- up p x is not below x, where a page start not below x is there
pub up_ge : (p x : ℕ) → Page p → x ≤ top p → x ≤ up p x
up_ge p x g h = rw (up_below p x h) (omega (arith, down_near p (x + (p - 1)) g.pos, g.pos))

-- and the least such page start
pub up_least : (p x y : ℕ) → Page p → x ≤ top p → Aligned p y → x ≤ y → up p x ≤ y
up_least p x y g h a le =
    rw (up_below p x h) (page_gap p _ _ (down_aligned p _) a (omega (arith, down_le p (x + (p - 1)), g.pos)))

-- up p x is what document 01 says
pub up_is : (p x : ℕ) → Page p → IsUp p x (up p x)
up_is p x g =
    record {
      multiple = up_aligned p x g;
      above = up_above p x;
      enough = up_ge p x g;
      least = λ h y a le. up_least p x y g h a le;
    }

-- and nothing else is
pub is_up : (p x u : ℕ) → Page p → IsUp p x u → u ≡ up p x
is_up p x u g i = go (leb x (top p)) refl
  where
    go : (t : Bool) → leb x (top p) ≡ t → u ≡ up p x
    go true e =
        let h : x ≤ top p = leb-true x (top p) e in
        let a : u ≤ up p x = i.least h (up p x) (up_aligned p x g) (up_ge p x g h) in
        let b : up p x ≤ u = up_least p x u g h i.multiple (i.enough h) in
        omega arith
    go false e =
        let h : top p < x = leb-false x (top p) e in
        i.above h ∙ sym (up_above p x h)

-- the code's way: the sum is capped, and the cap rounds down to the last page's start
pub up_code : (p x : ℕ) → Page p → x < 2 ^ 64 → down p (ending x (p - 1)) ≡ up p x
unfolding ending top
up_code p x g fits = by_top p x (λ u. down p (ending x (p - 1)) ≡ u) low high
  where
    low : x ≤ top p → down p (ending x (p - 1)) ≡ down p (x + (p - 1))
    low h =
        let e : min (x + (p - 1)) (2 ^ 64 - 1) ≡ x + (p - 1) = omega (arith, g.pos, g.small) in
        rw e

    high : top p < x → down p (ending x (p - 1)) ≡ top p
    high h =
        let e : min (x + (p - 1)) (2 ^ 64 - 1) ≡ 2 ^ 64 - 1 = omega (arith, g.pos, g.small) in
        let u : top p ≤ down p (2 ^ 64 - 1) = down_greatest p _ _ g.pos (top_aligned p g) (omega (arith, g.pos)) in
        let v : down p (2 ^ 64 - 1) ≤ top p = page_gap p _ _ (down_aligned p _) (top_aligned p g) (omega (arith, g.pos, down_le p (2 ^ 64 - 1))) in
        rw e (omega arith)

pub up_mono : (p x y : ℕ) → Page p → x ≤ y → up p x ≤ up p y
up_mono p x y g le =
    by_top p y (λ u. up p x ≤ u)
    (λ h. rw (up_below p x (omega arith)) (down_mono p _ _ g.pos (omega arith)))
    (λ h. up_le_top p x g)

-- the page size of the base
pub page : Page 4096
page = record { pos = lit< tt; small = lit≤ tt; whole = refl }

-- where a range ends rounds down to the last page's start at most
pub ending_low : (p base size : ℕ) → Page p → down p (ending base size) ≤ top p
unfolding ending top
ending_low p base size g =
    page_gap p _ _ (down_aligned p _) (top_aligned p g) (omega (arith, g.pos, g.small, down_le p (ending base size)))

-- ── The lesser and the greater of two are one of the two ──
one_of : (P : ℕ → Type 0) (a b c u v : ℕ) → P u → P v → (a ≤ b → c ≡ u) → (b < a → c ≡ v) → P c
one_of P a b c u v x y f g = go (leb a b) refl
  where
    go : (t : Bool) → leb a b ≡ t → P c
    go true e = rw (f (leb-true a b e)) x
    go false e = rw (g (leb-false a b e)) y

pub min_of : (P : ℕ → Type 0) (a b : ℕ) → P a → P b → P (min a b)
min_of P a b x y = one_of P a b (min a b) a b x y (λ h. omega arith) (λ h. omega arith)

pub max_of : (P : ℕ → Type 0) (a b : ℕ) → P a → P b → P (max a b)
max_of P a b x y = one_of P a b (max a b) b a y x (λ h. omega arith) (λ h. omega arith)
