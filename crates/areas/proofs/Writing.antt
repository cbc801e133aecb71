-- Areas written one after the other into slots: `puts`, and the same as a part of the list, `flat`. Assumes nothing.
use mathlib.Core.Path.{◌≡◌, refl, ap, subst, ◌∙◌}
use mathlib.Core.List.{List, [], ◌∷◌, ◌++◌, append_assoc}
use Prim.Native.Nat.{ℕ, suc, ◌+◌, ◌-◌, ◌≤◌}
use native.Mathlib.Omega.{arith}
use native.Mathlib.Nat.{zero-add, suc-add, add-zero}
use lib.ListN.{length, get_or, set, drop, length-set, length-append}
use lib.Seq.{get_or-append-add}
use Rattle.areas.specs.declared.Interval.{Interval}
use Rattle.areas.specs.Interval.{interval}
use Rattle.areas.specs.Table.{flat}
use Rattle.areas.specs.Steps.{puts}

-- ── A number at, and a store to, a place past xs ──
set_append_add : (xs ys : List ℕ) (i a : ℕ) → set (xs ++ ys) (length xs + i) a ≡ xs ++ set ys i a
set_append_add [] ys i a = rw (zero-add i)
set_append_add (x ∷ xs) ys i a = rw (suc-add (length xs) i) (ap (λ (l : List ℕ). x ∷ l) (set_append_add xs ys i a))

module _ (xs ys : List ℕ) (m : ℕ) (e : length xs ≡ m) where
  pub get_past : (i : ℕ) → get_or (xs ++ ys) (m + i) 0 ≡ get_or ys i 0
  get_past i = subst (λ (k : ℕ). get_or (xs ++ ys) (k + i) 0 ≡ get_or ys i 0) e (get_or-append-add xs ys i 0)

  pub set_past : (i a : ℕ) → set (xs ++ ys) (m + i) a ≡ xs ++ set ys i a
  set_past i a = subst (λ (k : ℕ). set (xs ++ ys) (k + i) a ≡ xs ++ set ys i a) e (set_append_add xs ys i a)

  pub get_here : get_or (xs ++ ys) m 0 ≡ get_or ys 0 0
  get_here = subst (λ (k : ℕ). get_or (xs ++ ys) k 0 ≡ get_or ys 0 0) (add-zero m) (get_past 0)

  pub set_here : (a : ℕ) → set (xs ++ ys) m a ≡ xs ++ set ys 0 a
  set_here a = subst (λ (k : ℕ). set (xs ++ ys) k a ≡ xs ++ set ys 0 a) (add-zero m) (set_past 0 a)

-- ── puts ──
pub puts_none : (l : List ℕ) (n : ℕ) → puts l n [] ≡ l
unfolding puts
puts_none l n = refl

pub puts_one : (l : List ℕ) (n a b : ℕ) → puts l n (interval a b ∷ []) ≡ set (set l (n + n) a) (n + n + 1) (b - a)
unfolding puts
puts_one l n a b = refl

pub puts_append : (ps qs : List Interval) (l : List ℕ) (n : ℕ) → puts l n (ps ++ qs) ≡ puts (puts l n ps) (n + length ps) qs
unfolding puts
puts_append [] qs l n = ap (λ (k : ℕ). puts l k qs) (omega arith)
puts_append (p ∷ ps) qs l n =
    puts_append ps qs (set (set l (n + n) p.lo) (n + n + 1) (p.hi - p.lo)) (n + 1)
    ∙ ap (λ (k : ℕ). puts (puts (set (set l (n + n) p.lo) (n + n + 1) (p.hi - p.lo)) (n + 1) ps) k qs) (omega arith)

pub length_puts : (ps : List Interval) (l : List ℕ) (n : ℕ) → length (puts l n ps) ≡ length l
unfolding puts
length_puts [] l n = refl
length_puts (p ∷ ps) l n = length_puts ps (set (set l (n + n) p.lo) (n + n + 1) (p.hi - p.lo)) (n + 1) ∙ simp length-set

-- ── flat ──
pub flat_length : (ps : List Interval) → length (flat ps) ≡ length ps + length ps
unfolding flat
flat_length [] = refl
flat_length (p ∷ ps) = omega (arith, flat_length ps)

-- one more area before the seam
pub flat_snoc : (pre : List Interval) (p : Interval) (l : List ℕ) → flat (pre ++ (p ∷ [])) ++ l ≡ flat pre ++ (p.lo ∷ (p.hi - p.lo) ∷ l)
unfolding flat
flat_snoc [] p l = refl
flat_snoc (q ∷ pre) p l = ap (λ (m : List ℕ). q.lo ∷ (q.hi - q.lo) ∷ m) (flat_snoc pre p l)

puts_flat : (ps : List Interval) (xs ys : List ℕ) (n : ℕ) → length xs ≡ n + n → length ps + length ps ≤ length ys → puts (xs ++ ys) n ps ≡ xs ++ (flat ps ++ drop (length ps + length ps) ys)
unfolding puts flat
puts_flat [] xs ys n lx ly = refl
puts_flat (p ∷ ps) xs [] n lx ly = absurd (omega arith)
puts_flat (p ∷ ps) xs (a ∷ []) n lx ly = absurd (omega arith)
puts_flat (p ∷ ps) xs (a ∷ b ∷ zs) n lx ly =
    let two : List ℕ = p.lo ∷ (p.hi - p.lo) ∷ [] in
    let twice : suc (length ps) + suc (length ps) ≡ suc (suc (length ps + length ps)) = omega arith in
    rw (set_here xs (a ∷ b ∷ zs) (n + n) lx p.lo, set_past xs (p.lo ∷ b ∷ zs) (n + n) lx 1 (p.hi - p.lo), twice)
    (rw (← append_assoc xs two zs) (puts_flat ps (xs ++ two) zs (n + 1) (omega (arith, length-append xs two)) (omega arith))
    ∙ append_assoc xs two (flat ps ++ drop (length ps + length ps) zs))

-- written from the first slot on
pub puts_front : (ps : List Interval) (l : List ℕ) → length ps + length ps ≤ length l → puts l 0 ps ≡ flat ps ++ drop (length ps + length ps) l
puts_front ps l h = puts_flat ps [] l 0 (omega arith) h
