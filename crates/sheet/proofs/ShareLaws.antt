-- The share, for a caller: none, zero, and the nearest value otherwise; and that it is never a NaN, whatever the counts. From NearestLaws.
-- Assumes nothing.
use Rattle.std.specs.Prelude.{Some, None}
use mathlib.Core.Path.{◌≡◌, refl, sym, ap, ap₂, ◌∙◌, subst}
use mathlib.Core.Logic.{inl, inr}
use mathlib.Core.Bool.{false, not}
use Prim.Native.Nat.{ℕ, zero, suc, ◌^◌, ◌<◌}
use native.Mathlib.Nat.{eq-zero-or-pos}
use native.Mathlib.Omega.{arith}
use lib.IntN.{pos}
use lib.Dec.{T, le→leb}
use lib.Ieee.{Float, nan, inf, fin, binary64, in_float, is_nan}
use lib.Ieee.Exact.{HasValue}
use Rattle.sheet.specs.Share.{quotient, counted, share_of}
use Rattle.sheet.specs.Nearest.{plus_zero, Nearest}
use Rattle.sheet.proofs.NearestLaws.{quotient_near, quotient_zero}

-- ── A count ──

pub counted_few : (n : ℕ) → counted n < 2 ^ 52
unfolding counted
counted_few n = omega arith

pub counted_pos : (n : ℕ) → 0 < n → 0 < counted n
unfolding counted
counted_pos n h = omega arith

pub counted_same : (n : ℕ) → n < 2 ^ 52 → counted n ≡ n
unfolding counted
counted_same n h = omega arith

-- a number that is a count becomes a float with nothing lost
pub exact : (n m : ℕ) → m ≡ counted n → T (in_float binary64 (pos m))
unfolding in_float
exact n m e = le→leb m (2 ^ 53) (omega (arith, counted_few n))

-- ── The share by cases ──

pub share_some : (free usable : ℕ) → 0 < free → share_of free usable ≡ Some (quotient binary64 (counted usable) (counted free))
share_some zero usable h = absurd (omega arith)
share_some (suc free) usable h = refl

-- of counts, both below 2 ^ 52
share_whole : (free usable : ℕ) → 0 < free → free < 2 ^ 52 → usable < 2 ^ 52 → share_of free usable ≡ Some (quotient binary64 usable free)
share_whole free usable h f u = share_some free usable h ∙ ap₂ (λ (a c : ℕ). Some (quotient binary64 a c)) (counted_same usable u) (counted_same free f)

pub share_none : (usable : ℕ) → share_of 0 usable ≡ None
share_none usable = refl

pub share_zero : (free : ℕ) → 0 < free → free < 2 ^ 52 → share_of free 0 ≡ Some plus_zero
share_zero free h f = share_whole free 0 h f (omega arith) ∙ ap Some (quotient_zero binary64 0 free h (omega arith) f refl)

pub share_near : (free usable : ℕ) → 0 < free → free < 2 ^ 52 → 0 < usable → usable < 2 ^ 52
    → (x : Float) × (share_of free usable ≡ Some x) × Nearest binary64 usable free x
share_near free usable h f k u = (
  quotient binary64 usable free,
  share_whole free usable h f u,
  quotient_near binary64 usable free h u f k,
)

-- ── The share has bits ──

value_number : (x : Float) (a c : ℕ) → HasValue x false a c → T (not (is_nan x))
unfolding is_nan
value_number nan a c v = v
value_number (inf s) a c v = absurd v
value_number (fin s m e) a c v = tt

zero_number : T (not (is_nan plus_zero))
unfolding is_nan
zero_number = tt

quotient_number : (a c : ℕ) → 0 < c → a < 2 ^ 52 → c < 2 ^ 52 → T (not (is_nan (quotient binary64 a c)))
quotient_number a c C h l = elim (eq-zero-or-pos a) [
  | inl z ↦ subst (λ (x : Float). T (not (is_nan x))) (sym (quotient_zero binary64 a c C h l z)) zero_number
  | inr p ↦ let r = quotient_near binary64 a c C h l p in value_number (quotient binary64 a c) r.m (2 ^ r.k) r.value
]

-- no share of two numbers is a NaN
pub share_number : (free usable : ℕ) (x : Float) → Some x ≡ share_of free usable → T (not (is_nan x))
share_number zero usable x e = absurd (let z : ◌≡◌ {A = ℕ} 0 1 = cc in omega arith)
share_number (suc free) usable x e =
    let is : x ≡ quotient binary64 (counted usable) (counted (suc free)) = cc in
    subst (λ (y : Float). T (not (is_nan y))) (sym is)
    (quotient_number (counted usable) (counted (suc free)) (counted_pos (suc free) (omega arith)) (counted_few usable) (counted_few (suc free)))
