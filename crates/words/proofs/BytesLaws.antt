-- Laws on numbers, bytes and parts in a list: a number past the end is 0; the first byte x from a place on lies from there up to the end,
-- has no x before it and is x where it is below the end, and no other place is so; a part has its length, and its bytes, numbers and
-- parts are those of the whole at the place moved along. Assumes nothing.
use mathlib.Core.Path.{◌≡◌, refl, sym, ◌∙◌, ap}
use Prim.Native.Nat.{ℕ, zero, suc, ◌+◌, ◌-◌, ◌≤◌, ◌<◌, max}
use native.Mathlib.Omega.{arith}
use mathlib.Core.List.{List, []}
use mathlib.Core.Bool.{Bool, true, false, cond}
use lib.ListN.{length, get_or, take, drop, length-take, length-drop, get_or-eq_default}
use lib.Seq.{get_or-take, get_or-drop, ext_get_or}
use lib.Dec.{eqb, ltb}
use borrow.Author.Tests.{eq-eqb, ne_eqb, eqb-true, eqb-false, ltb-true, ltb-false, le-leb, lt-leb}
use Rattle.words.specs.Bytes.{word, double, byte_from, first_byte, bytes, part_of, Finds}

-- ── Tests ──
-- what holds of both answers, each under its outcome of the test, holds of the choice
pub cond_elim : {A : Type 0} (P : A → Type 0) (b : Bool) (x y : A) → (b ≡ true → P x) → (b ≡ false → P y) → P (cond b x y)
cond_elim P true x y f g = f refl
cond_elim P false x y f g = g refl

-- two constructors are never equal: `cc` shows 0 ≡ 1 from it
pub never : {A : Type 0} → ◌≡◌ {A = ℕ} 0 1 → A
never z = let w : ⊥ = omega arith in absurd w

-- ── Numbers ──
pub word_past : (s : List ℕ) (at : ℕ) → length s ≤ at → word s at ≡ 0
unfolding word
word_past s at h =
    rw
    (get_or-eq_default s 0 {n = at} h, get_or-eq_default s 0 {n = at + 1} (omega arith), get_or-eq_default s 0 {n = at + 2} (omega arith), get_or-eq_default s 0 {n = at + 3} (omega arith))

pub double_past : (s : List ℕ) (at : ℕ) → length s ≤ at → double s at ≡ 0
unfolding double
double_past s at h = rw (word_past s at h, word_past s (at + 4) (omega arith))

-- ── The first byte x among n bytes ──
module _ (x : ℕ) (s : List ℕ) where
  pub from_ge : (n at : ℕ) → at ≤ byte_from x s n at
  unfolding byte_from
  from_ge zero at = omega arith
  from_ge (suc n) at =
      let h = from_ge n (at + 1) in
      cond_elim (λ (r : ℕ). at ≤ r) (eqb (get_or s at 0) x) _ _ (λ e. omega arith) (λ e. omega arith)

  from_le : (n at : ℕ) → byte_from x s n at ≤ at + n
  unfolding byte_from
  from_le zero at = omega arith
  from_le (suc n) at =
      let h = from_le n (at + 1) in
      cond_elim (λ (r : ℕ). r ≤ at + suc n) (eqb (get_or s at 0) x) _ _ (λ e. omega arith) (λ e. omega arith)

  from_before : (n at k : ℕ) → at ≤ k → k < byte_from x s n at → get_or s k 0 ≡ x → ⊥
  unfolding byte_from
  from_before zero at k l h is = omega arith
  from_before (suc n) at k l h is =
      cond_elim (λ (r : ℕ). k < r → ⊥) (eqb (get_or s at 0) x) _ _ (λ e u. omega arith)
      (λ e u. other (eqb at k) refl e (λ m. from_before n (at + 1) k m u is))
      h
    where
      other : (b : Bool) → eqb at k ≡ b → eqb (get_or s at 0) x ≡ false → (at + 1 ≤ k → ⊥) → ⊥
      other true q e more = let a : at ≡ k = eqb-true _ _ q in eqb-false (get_or s at 0) x e (rw a is)
      other false q e more = let a : at ≡ k → ⊥ = eqb-false _ _ q in more (omega arith)

  from_is : (n at : ℕ) → byte_from x s n at < at + n → get_or s (byte_from x s n at) 0 ≡ x
  unfolding byte_from
  from_is zero at h = let b : ⊥ = omega arith in absurd b
  from_is (suc n) at h =
      cond_elim (λ (r : ℕ). r < at + suc n → get_or s r 0 ≡ x) (eqb (get_or s at 0) x) _ _ (λ e u. eqb-true _ _ e)
      (λ e u. from_is n (at + 1) (omega arith))
      h

-- ── The first byte x from a place on ──
module _ (x : ℕ) (s : List ℕ) (at : ℕ) where
  pub first_stop : at < length s → get_or s at 0 ≡ x → first_byte x s at ≡ at
  unfolding byte_from
  first_stop h e = let q : length s - at ≡ suc (length s - (at + 1)) = omega arith in rw (q, eq-eqb _ _ e)

  pub first_step : at < length s → (get_or s at 0 ≡ x → ⊥) → first_byte x s at ≡ first_byte x s (at + 1)
  unfolding byte_from
  first_step h n = let q : length s - at ≡ suc (length s - (at + 1)) = omega arith in rw (q, ne_eqb _ _ n)

  pub first_none : length s ≤ at → first_byte x s at ≡ at
  unfolding byte_from
  first_none h = let q : length s - at ≡ 0 = omega arith in rw q

  pub first_ge : at ≤ first_byte x s at
  first_ge = from_ge x s (length s - at) at

  pub first_le : at ≤ length s → first_byte x s at ≤ length s
  first_le h = omega (arith, from_le x s (length s - at) at)

  pub first_before : (k : ℕ) → at ≤ k → k < first_byte x s at → get_or s k 0 ≡ x → ⊥
  first_before = from_before x s (length s - at) at

  pub first_is : first_byte x s at < length s → get_or s (first_byte x s at) 0 ≡ x
  first_is h = from_is x s (length s - at) at (omega (arith, first_ge))

  -- no other place is so
  pub first_only : (r : ℕ) → at ≤ r → r ≤ length s → ((k : ℕ) → at ≤ k → k < r → get_or s k 0 ≡ x → ⊥) → (r < length s → get_or s r 0 ≡ x) → r ≡ first_byte x s at
  first_only r g l b f = go (ltb r (first_byte x s at)) refl (ltb (first_byte x s at) r) refl
    where
      go : (p : Bool) → ltb r (first_byte x s at) ≡ p → (q : Bool) → ltb (first_byte x s at) r ≡ q → r ≡ first_byte x s at
      go true u q v =
          let h : r < first_byte x s at = ltb-true _ _ u in
          let m = first_le (omega arith) in
          absurd (first_before r g h (f (omega arith)))
      go false u true v =
          let h : first_byte x s at < r = ltb-true _ _ v in
          absurd (b (first_byte x s at) first_ge h (first_is (omega arith)))
      go false u false v =
          let m : first_byte x s at ≤ r = ltb-false _ _ u in
          let w : r ≤ first_byte x s at = ltb-false _ _ v in
          omega arith

  pub finds : {r : ℕ} → r ≡ first_byte x s at → Finds x s at r
  finds e = record { is = e; from = rw e first_ge; upto = λ h. rw e (first_le h) }

-- the search has come to the place i, and looks at the byte at a place p
module _ (x : ℕ) (s : List ℕ) (at i p : ℕ) (e : first_byte x s at ≡ first_byte x s i) (h : i < length s) where
  -- x at a place up to there is the first
  pub found_there : at ≤ p → p ≤ i → get_or s p 0 ≡ x → Finds x s at p
  found_there l u here =
      finds x s at
      (first_only x s at p l (omega arith) (λ k from below. first_before x s at k from (omega (arith, e, first_ge x s i))) (λ inside. here))

  -- it goes on where there is none at i itself
  pub passed_there : p ≡ i → (get_or s p 0 ≡ x → ⊥) → first_byte x s at ≡ first_byte x s (i + 1)
  passed_there same other = e ∙ first_step x s i h (λ m. other (rw same m))

-- where none is found from a place on: a place past the end is its own answer, and else the end is
pub finds_none : (x : ℕ) (s : List ℕ) (at i end : ℕ) → first_byte x s at ≡ first_byte x s i → length s ≤ i → (at ≤ length s → i ≤ length s)
    → end ≡ length s → Finds x s at (max at end)
finds_none x s at i end e l u whole = rw whole (finds x s at (go (ltb (length s) at) refl))
  where
    go : (b : Bool) → ltb (length s) at ≡ b → max at (length s) ≡ first_byte x s at
    go true t =
        let h : length s < at = ltb-true _ _ t in
        let q = first_none x s at (omega arith) in
        omega arith
    go false t =
        let h : at ≤ length s = ltb-false _ _ t in
        let k = u h in
        let q = e ∙ first_none x s i l in
        omega arith

-- ── Parts ──
pub bytes_length : (s : List ℕ) (a b : ℕ) → b ≤ length s → length (bytes s a b) ≡ b - a
bytes_length s a b h = simp (length-take, length-drop) (omega arith)

pub bytes_long : (s : List ℕ) (a l : ℕ) → a + l ≤ length s → length (bytes s a (a + l)) ≡ l
bytes_long s a l h = omega (arith, bytes_length s a (a + l) h)

pub bytes_byte : (s : List ℕ) (a b i : ℕ) → i < b - a → get_or (bytes s a b) i 0 ≡ get_or s (a + i) 0
bytes_byte s a b i h = rw (get_or-take, get_or-drop)

module _ (s : List ℕ) (at n : ℕ) where
  pub part_none : length s < at + n → part_of s at n ≡ []
  unfolding part_of
  part_none h = rw (lt-leb _ _ h)

  module _ (fits : at + n ≤ length s) where
    pub part_is : part_of s at n ≡ take n (drop at s)
    unfolding part_of
    part_is = rw (le-leb _ _ fits)

    pub part_cut : part_of s at n ≡ bytes s at (at + n)
    part_cut = let e : n ≡ at + n - at = omega arith in part_is ∙ ap (λ (m : ℕ). take m (drop at s)) e

    pub part_length : length (part_of s at n) ≡ n
    part_length = rw part_is (simp (length-take, length-drop) (omega arith))

    pub part_byte : (i : ℕ) → i < n → get_or (part_of s at n) i 0 ≡ get_or s (at + i) 0
    part_byte i h = rw (part_is, get_or-take, get_or-drop)

    pub part_word : (i : ℕ) → i + 4 ≤ n → word (part_of s at n) i ≡ word s (at + i)
    unfolding word
    part_word i h = rw (part_byte i (omega arith), b 1 (omega arith), b 2 (omega arith), b 3 (omega arith))
      where
        b : (k : ℕ) → k < 4 → get_or (part_of s at n) (i + k) 0 ≡ get_or s (at + i + k) 0
        b k l =
            let e : at + (i + k) ≡ at + i + k = omega arith in
            part_byte (i + k) (omega arith) ∙ ap (λ (o : ℕ). get_or s o 0) e

    pub part_double : (i : ℕ) → i + 8 ≤ n → double (part_of s at n) i ≡ double s (at + i)
    unfolding double
    part_double i h =
        let e : at + (i + 4) ≡ at + i + 4 = omega arith in
        rw (part_word i (omega arith), part_word (i + 4) (omega arith), e)

    pub part_bytes_lem : (a b : ℕ) → b ≤ n → bytes (part_of s at n) a b ≡ bytes s (at + a) (at + b)
    part_bytes_lem a b h =
        let k = bytes_length (part_of s at n) a b (omega (arith, part_length)) in
        let o = bytes_length s (at + a) (at + b) (omega arith) in
        ext_get_or 0 _ _ (omega arith) (λ i l. each i (omega arith))
      where
        each : (i : ℕ) → i < b - a → get_or (bytes (part_of s at n) a b) i 0 ≡ get_or (bytes s (at + a) (at + b)) i 0
        each i u =
            let e : at + (a + i) ≡ at + a + i = omega arith in
            bytes_byte (part_of s at n) a b i u ∙ part_byte (a + i) (omega arith) ∙ ap (λ (o : ℕ). get_or s o 0) e ∙
            sym (bytes_byte s (at + a) (at + b) i (omega arith))
