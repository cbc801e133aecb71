-- A late claim, whole: judged, and then entered. Assumes nothing.
use Rattle.late_claim.specs.declared.LateRefusal.TheVariants.{UnknownKind, NotLate, BadTable, MapFull, TooManyAreas}
use Rattle.late_claim.specs.declared.LateRefusal.{LateRefusal}
use Rattle.std.specs.Prelude.{Result, Ok, Err}
use mathlib.Core.Path.{◌≡◌, refl, ◌∙◌}
use mathlib.Core.List.{List}
use Prim.Native.Nat.{ℕ}
use native.Mathlib.Omega.{arith}
use Rattle.entry.specs.declared.Claim.{Claim}
use Rattle.memory.specs.declared.MemoryMap.{MemoryMap}
use Rattle.late_claim.specs.Late.{late_refusal_number, late_number, judged, entering, on_done, unchanged, entered, enter_of, late_of}
use Rattle.late_claim.proofs.Entering.{enter_at_lem}

-- no refusal has it
pub never_zero : (r : LateRefusal) → late_refusal_number r ≡ 0 → ⊥
never_zero UnknownKind e = omega arith
never_zero NotLate e = omega arith
never_zero BadTable e = omega arith
never_zero MapFull e = omega arith
never_zero TooManyAreas e = omega arith

-- 0 is the number of Ok and of no other answer
pub zero_done : (a : Result Unit LateRefusal) → late_number a ≡ 0 → a ≡ Ok tt
zero_done (Ok _) e = refl
zero_done (Err r) e = absurd (never_zero r e)

-- what a refusal picks
pub other : {A : Type 0} (a : Result Unit LateRefusal) → (late_number a ≡ 0 → ⊥) → (x y : A) → on_done a x y ≡ y
other (Ok _) f x y = absurd (f refl)
other (Err _) f x y = refl

module _ (p : ℕ) (m : MemoryMap) (c : Claim) (n : ℕ) (l : List ℕ) where
  -- 1, 13 or 14
  pub late_judged : (a : Result Unit LateRefusal) → judged p c.kind n l ≡ a → (late_number a ≡ 0 → ⊥) → late_of p m c n l ≡ unchanged m n l a
  unfolding late_of
  late_judged a e f = rw e (other a f (enter_of p m c n l) (unchanged m n l a))

  pub late_judged_no : (r : LateRefusal) → judged p c.kind n l ≡ Err r → late_of p m c n l ≡ unchanged m n l (Err r)
  unfolding late_of
  late_judged_no r e = rw e

  -- none of these
  pub late_enters : judged p c.kind n l ≡ Ok tt → late_of p m c n l ≡ enter_of p m c n l
  unfolding late_of
  late_enters e = rw e

  -- 2 or 3
  pub late_refused : judged p c.kind n l ≡ Ok tt → (a : Result Unit LateRefusal) → entering p m c n l ≡ a → (late_number a ≡ 0 → ⊥) → late_of p m c n l ≡ unchanged m n l a
  late_refused e a g f = late_enters e ∙ enter_at_lem p m c n l a g ∙ other a f (entered p m c n l) (unchanged m n l a)

  pub late_done : judged p c.kind n l ≡ Ok tt → entering p m c n l ≡ Ok tt → late_of p m c n l ≡ entered p m c n l
  late_done e g = late_enters e ∙ enter_at_lem p m c n l (Ok tt) g

  -- the answer alone
  pub answer_is : (late_of p m c n l).answer ≡ on_done (judged p c.kind n l) (entering p m c n l) (judged p c.kind n l)
  unfolding late_of enter_of
  answer_is = go (judged p c.kind n l) (entering p m c n l)
    where
      go : (a b : Result Unit LateRefusal) → (on_done a (on_done b (entered p m c n l) (unchanged m n l b)) (unchanged m n l a)).answer ≡ on_done a b a
      go (Ok _) (Ok _) = refl
      go (Ok _) (Err _) = refl
      go (Err _) b = refl
