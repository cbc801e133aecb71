-- The quotient of two whole numbers below 2 ^ (prec - 1), as a float of either format, is the nearest value, said on whole numbers (Nearest).
-- quotient_is: both conversions are exact, so the division rounds a / c, once. Assumes nothing.
use mathlib.Core.Path.{◌≡◌, refl, sym, ap, ◌∙◌, subst}
use mathlib.Core.Logic.{inl, inr}
use mathlib.Core.Bool.{true, false, not, true≢false}
use Prim.Native.Nat.{ℕ, suc, ◌+◌, ◌-◌, ◌*◌, ◌/◌, ◌%◌, ◌^◌, ◌≤◌, ◌<◌, compare, Ordering}
use native.Mathlib.Nat.{le_trans, le_of_eq, lt_of_le_of_lt, eq-or-lt_of_le, zero-lt-suc, mul-one, one-mul, mul_comm, mul_assoc, mul_left_comm, mul_right_comm, add-mul, suc-mul, mul-pos, mul-le-mul_left, mul-le-mul_right, le_of_mul-le-mul_right, eq_of_mul-eq-mul_right, le-div_iff_mul-le, div-div-eq-div-mul, div-le_self, div-add-mod', mod-lt, sub-le, le_of_lt, lt_irrefl, le_refl, zero-mul}
use native.Mathlib.Omega.{arith}
use lib.Dec.{T, is_le, compare_is_eq, eqb, leb→le, nleb→lt, eqb→eq, eqb_refl, not_T, lit≤}
use lib.Arith.{lt_of_le-ne}
use lib.Pow.{pow-add, pow_pos, pow_mono, pow-lt, shl_lt}
use lib.Ieee.{Float, nan, inf, fin, Format, binary32, binary64, prec, emax, low, up, down, size, nearest, round, div, of_int}
use lib.Ieee.Digits.{size-le, size_reaches}
use lib.Ieee.Fits.{two, reach, nearest-le, kept-lt, down_pos}
use lib.Ieee.Exact.{HasValue}
use lib.Ieee.Back.{round_whole}
use lib.Ieee.Bits.{cond_no}
use lib.Ieee.Nearest.{closest, nearest-ge}
use lib.Ieee.Order.{drop, kept}
use lib.Ieee.Positive.{first_pos}
use lib.Ieee.Scale.{round_same, round_val, normal_of_fraction, overflow}
use Rattle.sheet.specs.Share.{quotient}
use Rattle.sheet.specs.Nearest.{distance, plus_zero, Nearest}

-- ── A fraction rounded to the nearest whole number is within a half of it ──

-- twice the distance of a from b is at most c
abbrev Within : ℕ → ℕ → ℕ → Type 0
Within a b c = (2 * a ≤ 2 * b + c) × (2 * b ≤ 2 * a + c)

abbrev Cmp : Ordering → ℕ → ℕ → Type 0
Cmp Ordering.lt a b = a < b
Cmp Ordering.eq a b = a ≡ b
Cmp Ordering.gt a b = b < a

cmp : (a b : ℕ) → Cmp (compare a b) a b
cmp a b = go (compare a b) (leb→le a b) (nleb→lt a b) (eqb→eq a b) (λ (e : a ≡ b). subst (λ (x : ℕ). T (eqb a x)) e (eqb_refl a))
  where
    go : (o : Ordering) → (T (is_le o) → a ≤ b) → (T (not (is_le o)) → b < a) → (T (compare_is_eq o) → a ≡ b) → (a ≡ b → T (compare_is_eq o)) → Cmp o a b
    go Ordering.lt h k e n = lt_of_le-ne (h tt) n
    go Ordering.eq h k e n = e tt
    go Ordering.gt h k e n = k tt

rem_two : (w : ℕ) → w % 2 ≤ 1
rem_two w = omega arith

near_by : (w r b a : ℕ) (o : Ordering) → Cmp o (r * 2) b → w * b + r ≡ a → r < b → Within (nearest w o * b) a b
near_by w r b a Ordering.lt x e l = (omega arith, omega arith)
near_by w r b a Ordering.eq x e l =
    let s : (w + w % 2) * b ≡ w * b + w % 2 * b = add-mul w (w % 2) b in
    let t : w % 2 * b ≤ b = le_trans (mul-le-mul_right b (rem_two w)) (le_of_eq (one-mul b)) in
    (omega arith, omega arith)
near_by w r b a Ordering.gt x e l =
    let s : suc w * b ≡ w * b + b = suc-mul w b in
    (omega arith, omega arith)

closest_near : (a b : ℕ) → 0 < b → Within (closest a b * b) a b
closest_near a b B = near_by (a / b) (a % b) b a (compare (a % b * 2) b) (cmp (a % b * 2) b) (div-add-mod' a b) (mod-lt a B)

-- a factor u above 0 that all three have goes out
within_cancel : (x y c u : ℕ) → 0 < u → Within (x * u) (y * u) (c * u) → Within x y c
within_cancel x y c u U w = (side x y w.0, side y x w.1)
  where
    side : (x y : ℕ) → 2 * (x * u) ≤ 2 * (y * u) + c * u → 2 * x ≤ 2 * y + c
    side x y h =
        le_of_mul-le-mul_right
        (le_trans (le_of_eq (mul_assoc 2 x u)) (le_trans h (le_of_eq (ap (λ (z : ℕ). z + c * u) (sym (mul_assoc 2 y u)) ∙ sym (add-mul (2 * y) c u)))))
        U

within_distance : (a b c : ℕ) → Within a b c → 2 * distance a b ≤ c
within_distance a b c w = omega arith

-- ── What the law uses of a format, besides `two` and `reach`: the least quotient, 1 / 2 ^ prec, is in the normal range ──
deep : (f : Format) → prec f - 1 + prec f ≤ low f
deep binary32 = lit≤ tt
deep binary64 = lit≤ tt

-- ── From one fraction to another of the same size ──
rescale : (x : Float) (a b c d : ℕ) → 0 < b → c * b ≡ a * d → HasValue x false a b → HasValue x false c d
rescale nan a b c d B h v = v
rescale (inf t) a b c d B h v = v
rescale (fin t m e) a b c d B h v = (
  v.0,
  eq_of_mul-eq-mul_right b B (m * up e * d) (c * down e)
      (mul_right_comm (m * up e) d b ∙ ap (λ (x : ℕ). x * d) v.1 ∙ mul_right_comm a (down e) d ∙ ap (λ (x : ℕ). x * down e) (sym h) ∙ mul_right_comm c b (down e)),
)

-- ── `round` at a / c, for 0 < a < 2 ^ (prec - 1) and 0 < c ≤ 2 ^ prec ──

room : (z p l : ℕ) → 2 ≤ p → p ≤ z → z ≤ p - 1 + l → suc (z - p) ≤ l
room z p l P a b = omega arith

last : (z p : ℕ) → 2 ≤ p → p ≤ z → p - 1 + (z - p) < z
last z p P a = omega arith

both : (d l : ℕ) → suc d ≤ l → d + (l - d) ≡ l
both d l h = omega arith

left : (d l : ℕ) → suc d ≤ l → 0 < l - d
left d l h = omega arith

shift : (p j : ℕ) → 2 ≤ p → 0 < j → p - 1 + j ≡ p + (j - 1)
shift p j P J = omega arith

less : (p : ℕ) → 2 ≤ p → p - 1 < p
less p P = omega arith

pos_of_two : (p : ℕ) → 2 ≤ p → 0 < p
pos_of_two p P = omega arith

pred_suc : (p : ℕ) → 0 < p → p ≡ 1 + (p - 1)
pred_suc p P = omega arith

twice : (p : ℕ) → 0 < p → 2 ^ p ≡ 2 * 2 ^ (p - 1)
twice p P = ap (λ (x : ℕ). 2 ^ x) (pred_suc p P) ∙ pow-add 2 1 (p - 1)

half_within : (x y c : ℕ) → Within (2 * x) (2 * y) c → Within x y c
half_within x y c w = (omega arith, omega arith)

module _ (f : Format) (a c : ℕ) (A : 0 < a) (h : a < 2 ^ (prec f - 1)) (some : 0 < c) (C : c ≤ 2 ^ prec f) where
  -- a / c is in the normal range, and below 2 ^ (prec - 1)
  normal : prec f ≤ size (a * 2 ^ low f / c)
  normal =
      normal_of_fraction f a c some
      (le_trans (mul-le-mul_left (2 ^ (prec f - 1)) C)
      (le_trans (le_of_eq (sym (pow-add 2 (prec f - 1) (prec f))))
      (le_trans (pow_mono (deep f)) (le_trans (le_of_eq (sym (one-mul (2 ^ low f)))) (mul-le-mul_right (2 ^ low f) A)))))

  at_most : size (a * 2 ^ low f / c) ≤ prec f - 1 + low f
  at_most = size-le (a * 2 ^ low f / c) (prec f - 1 + low f) (lt_of_le_of_lt (div-le_self (a * 2 ^ low f) c) (shl_lt (prec f - 1) (low f) h))

  -- `round` drops d digits, and the units that it keeps are 2 ^ (low - d) to 1
  spare : suc (drop (prec f) (a * 2 ^ low f) c) ≤ low f
  spare = room (size (a * 2 ^ low f / c)) (prec f) (low f) (two f) normal at_most

  kept_le : kept (prec f) (a * 2 ^ low f) c ≤ 2 ^ prec f
  kept_le =
      let n = a * 2 ^ low f in
      let d = drop (prec f) n c in
      let u = c * 2 ^ d in
      le_trans (nearest-le (n / u) (compare (n % u * 2) u)) (subst (λ (x : ℕ). x < 2 ^ prec f) (div-div-eq-div-mul n c (2 ^ d)) (kept-lt (prec f) (n / c)))

  kept_ge : 2 ^ (prec f - 1) ≤ kept (prec f) (a * 2 ^ low f) c
  kept_ge =
      let n = a * 2 ^ low f in
      let p = prec f in
      let d = drop p n c in
      let u = c * 2 ^ d in
      let r : 2 ^ (p - 1) * 2 ^ d ≤ n / c = le_trans (le_of_eq (sym (pow-add 2 (p - 1) d))) (size_reaches (n / c) (p - 1 + d) (last (size (n / c)) p (two f) normal)) in
      le_trans (subst (λ (x : ℕ). 2 ^ (p - 1) ≤ x) (div-div-eq-div-mul n c (2 ^ d)) ((le-div_iff_mul-le (pow_pos d)).1 r)) (nearest-ge (n / u) (compare (n % u * 2) u))

  -- nothing overflows
  fine : kept (prec f) (a * 2 ^ low f) c * 2 ^ drop (prec f) (a * 2 ^ low f) c < overflow f
  fine =
      let d = drop (prec f) (a * 2 ^ low f) c in
      lt_of_le_of_lt (le_trans (mul-le-mul_right (2 ^ d) kept_le) (le_of_eq (sym (pow-add 2 (prec f) d))))
      (pow-lt (under (prec f) (size (a * 2 ^ low f / c)) (low f) (emax f) (two f) (reach f) normal at_most))
    where
      under : (p z l e : ℕ) → 2 ≤ p → p ≤ suc e → p ≤ z → z ≤ p - 1 + l → p + (z - p) < l + suc e
      under p z l e P r n t = omega arith

  -- the value, and how near it is, with j for low - d
  at : (q d j : ℕ) → d + j ≡ low f → HasValue (round f false a c) false (q * 2 ^ d) (2 ^ low f) → HasValue (round f false a c) false q (2 ^ j)
  at q d j e v =
      rescale (round f false a c) (q * 2 ^ d) (2 ^ low f) q (2 ^ j) (pow_pos (low f))
      (ap (λ (x : ℕ). q * x) (ap (λ (x : ℕ). 2 ^ x) (sym e) ∙ pow-add 2 d j) ∙ sym (mul_assoc q (2 ^ d) (2 ^ j))) v

  close : (q d j : ℕ) → d + j ≡ low f → Within (q * (c * 2 ^ d)) (a * 2 ^ low f) (c * 2 ^ d) → Within (q * c) (a * 2 ^ j) c
  close q d j e w =
      within_cancel (q * c) (a * 2 ^ j) c (2 ^ d) (pow_pos d)
      (subst (λ (x : ℕ). Within x (a * 2 ^ j * 2 ^ d) (c * 2 ^ d)) (sym (mul_assoc q c (2 ^ d)))
      (subst (λ (x : ℕ). Within (q * (c * 2 ^ d)) x (c * 2 ^ d))
      (ap (λ (x : ℕ). a * x) (ap (λ (x : ℕ). 2 ^ x) (sym e) ∙ pow-add 2 d j ∙ mul_comm (2 ^ d) (2 ^ j)) ∙ sym (mul_assoc a (2 ^ j) (2 ^ d))) w))

  -- the number kept is 2 ^ prec where the rounding carries: that is 2 ^ (prec - 1), with one digit more dropped
  whole : (q j : ℕ) → 0 < j → j ≤ low f → 2 ^ (prec f - 1) ≤ q → q ≤ 2 ^ prec f → HasValue (round f false a c) false q (2 ^ j) → Within (q * c) (a * 2 ^ j) c → Nearest f a c (round f false a c)
  whole q j J J' g l v w = elim (eq-or-lt_of_le l) [
    | inl e ↦
        let p = prec f in
        let v' : HasValue (round f false a c) false (2 ^ p) (2 ^ j) = subst (λ (x : ℕ). HasValue (round f false a c) false x (2 ^ j)) e v in
        let w' : Within (2 ^ p * c) (a * 2 ^ j) c = subst (λ (x : ℕ). Within (x * c) (a * 2 ^ j) c) e w in
        record {
          m = 2 ^ (p - 1);
          k = j - 1;
          value =
              rescale (round f false a c) (2 ^ p) (2 ^ j) (2 ^ (p - 1)) (2 ^ (j - 1)) (pow_pos j)
              (sym (pow-add 2 (p - 1) j) ∙ ap (λ (x : ℕ). 2 ^ x) (shift p j (two f) J) ∙ pow-add 2 p (j - 1)) v';
          full = le_refl (2 ^ (p - 1));
          kept = pow-lt (less p (two f));
          near =
              within_distance (2 ^ (p - 1) * c) (a * 2 ^ (j - 1)) c
              (half_within (2 ^ (p - 1) * c) (a * 2 ^ (j - 1)) c
              (subst (λ (x : ℕ). Within x (2 * (a * 2 ^ (j - 1))) c) (ap (λ (x : ℕ). x * c) (twice p (pos_of_two p (two f))) ∙ mul_assoc 2 (2 ^ (p - 1)) c)
              (subst (λ (x : ℕ). Within (2 ^ p * c) x c) (ap (λ (x : ℕ). a * x) (twice j J) ∙ mul_left_comm a 2 (2 ^ (j - 1))) w')));
          normal = le_trans (sub-le j 1) J';
        }
    | inr s ↦ record { m = q; k = j; value = v; full = g; kept = s; near = within_distance (q * c) (a * 2 ^ j) c w; normal = J' }
  ]

  pub round_near : Nearest f a c (round f false a c)
  round_near =
      let n = a * 2 ^ low f in
      let d = drop (prec f) n c in
      let j = low f - d in
      let q = kept (prec f) n c in
      let e : d + j ≡ low f = both d (low f) spare in
      whole q j (left d (low f) spare) (sub-le (low f) d) kept_ge kept_le (at q d j e (round_val f a c fine)) (close q d j e (closest_near n (c * 2 ^ d) (mul-pos some (pow_pos d))))

-- ── The division of two whole numbers rounds their fraction ──

no_zero : (n : ℕ) → 0 < n → T (not (eqb n 0))
no_zero n h = not_T (eqb n 0) (λ (t : T (eqb n 0)). lt_irrefl 0 (subst (λ (x : ℕ). 0 < x) (eqb→eq n 0 t) h))

pub div_at : (f : Format) (x y : Float) (a b c d : ℕ) → 0 < b → 0 < c → 0 < d → HasValue x false a b → HasValue y false c d → div f x y ≡ round f false (a * d) (c * b)
unfolding div
div_at f nan y a b c d B C D v w = absurd v
div_at f (inf s) y a b c d B C D v w = absurd v
div_at f (fin true m e) y a b c d B C D v w = absurd (true≢false v.0)
div_at f (fin false m e) nan a b c d B C D v w = absurd w
div_at f (fin false m e) (inf t) a b c d B C D v w = absurd w
div_at f (fin false m e) (fin true n g) a b c d B C D v w = absurd (true≢false w.0)
div_at f (fin false m e) (fin false n g) a b c d B C D v w =
    let N : 0 < n * up g = first_pos (n * up g) d (subst (λ (z : ℕ). 0 < z) (sym w.1) (mul-pos C (down_pos g))) in
    let l : m * up e * b * (c * down g) ≡ a * down e * (n * up g * d) = ap (λ (z : ℕ). z * (c * down g)) v.1 ∙ ap (λ (z : ℕ). a * down e * z) (sym w.1) in
    cond_no (eqb n 0) _ (round f false (m * up e * down g) (n * up g * down e)) (no_zero n (first_pos n (up g) N))
    ∙ round_same f false (m * up e * down g) (n * up g * down e) (a * d) (c * b) (mul-pos N (down_pos e)) (mul-pos C B)
    (simp (mul_assoc, mul_comm, mul_left_comm) (simp (mul_assoc, mul_comm, mul_left_comm) at l))

at_zero : (f : Format) → round f false 0 1 ≡ plus_zero
unfolding round
at_zero binary32 = refl
at_zero binary64 = refl

module _ (f : Format) (a c : ℕ) (C : 0 < c) (h : a < 2 ^ (prec f - 1)) (l : c < 2 ^ (prec f - 1)) where
  fit : {n : ℕ} → n < 2 ^ (prec f - 1) → n ≤ 2 ^ prec f
  fit k = le_trans (le_of_lt k) (pow_mono (sub-le (prec f) 1))

  pub quotient_is : quotient f a c ≡ round f false a c
  unfolding quotient of_int
  quotient_is =
      div_at f (round f false a 1) (round f false c 1) a 1 c 1 (zero-lt-suc 0) C (zero-lt-suc 0) (round_whole f false a (fit h)) (round_whole f false c (fit l))
      ∙ ap (λ (x : ℕ). round f false x (c * 1)) (mul-one a)
      ∙ ap (λ (x : ℕ). round f false a x) (mul-one c)

  pub quotient_near : 0 < a → Nearest f a c (quotient f a c)
  quotient_near A = subst (Nearest f a c) (sym quotient_is) (round_near f a c A h C (fit l))

  pub quotient_zero : a ≡ 0 → quotient f a c ≡ plus_zero
  quotient_zero z = quotient_is ∙ ap (λ (x : ℕ). round f false x c) z ∙ round_same f false 0 c 0 1 C (zero-lt-suc 0) (zero-mul 1 ∙ sym (zero-mul c)) ∙ at_zero f
