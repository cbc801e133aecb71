-- What `first_of` finds, said of a map's slots: an entry exactly when it is the first held one of the kind, and nothing exactly when none
-- of the kind is held. Assumes nothing.
use Rattle.std.specs.Prelude.{Option, Some, None}
use mathlib.Core.Path.{◌≡◌, refl, ap, sym, ◌∙◌}
use mathlib.Core.Bool.{Bool, true, false, cond}
use mathlib.Core.Logic.{◌↔◌}
use Prim.Native.Nat.{ℕ, zero, suc, ◌+◌, ◌<◌, ◌≤◌}
use native.Mathlib.Omega.{arith}
use lib.Dec.{eqb}
use borrow.Author.Tests.{eqb-true, eqb-false}
use Rattle.entry.specs.declared.MemoryEntry.{MemoryEntry}
use Rattle.memory.specs.declared.MemoryMap.{MemoryMap}
use Rattle.memory.specs.Map.{Slots, slots_of, at}
use Rattle.memory.proofs.SlotLaws.{at_or_not}
use Rattle.listing.specs.Listing.{entries_from, first, first_of, FirstHeld, NoneHeld}

module _ (kind : ℕ) (l : Slots) where
  -- what looking at n slots from i on finds: the first of the kind, or that there is none
  data Finds (n i : ℕ) : Option MemoryEntry → Type 0 where
    one : (s : ℕ) → i ≤ s → s < i + n → (at l s).kind ≡ kind → ((j : ℕ) → i ≤ j → j < s → (at l j).kind ≡ kind → ⊥) → Finds n i (Some (at l s))
    none : ((j : ℕ) → i ≤ j → j < i + n → (at l j).kind ≡ kind → ⊥) → Finds n i None

  -- one slot that is not of the kind, in front
  later : (n i : ℕ) (r : Option MemoryEntry) → ((at l i).kind ≡ kind → ⊥) → Finds n (i + 1) r → Finds (suc n) i r
  later n i r k (one s a b e f) =
      one s (omega arith) (omega arith) e (λ j x y. at_or_not i j ((at l j).kind ≡ kind → ⊥) (λ q. rw q k) (λ q. f j (omega arith) y))
  later n i r k (none f) =
      none (λ j x y. at_or_not i j ((at l j).kind ≡ kind → ⊥) (λ q. rw q k) (λ q. f j (omega arith) (omega arith)))

  finds : (n i : ℕ) → Finds n i (first (λ e. eqb e.kind kind) (entries_from l n i))
  unfolding first entries_from
  finds zero i = none (λ j x y. absurd (omega arith))
  finds (suc n) i = go (eqb (at l i).kind kind) refl (finds n (i + 1))
    where
      rest : Option MemoryEntry
      rest = first (λ e. eqb e.kind kind) (entries_from l n (i + 1))

      go : (b : Bool) → eqb (at l i).kind kind ≡ b → Finds n (i + 1) rest → Finds (suc n) i (cond b (Some (at l i)) rest)
      go true e f = one i (omega arith) (omega arith) (eqb-true _ _ e) (λ j x y. absurd (omega arith))
      go false e f = later n i rest (eqb-false _ _ e) f

module _ (kind : ℕ) (m : MemoryMap) where
  -- the same of a map's held slots
  data Found : Option MemoryEntry → Type 0 where
    some : (e : MemoryEntry) → FirstHeld kind m e → Found (Some e)
    nothing : NoneHeld kind m → Found None

  found : Found (first_of kind m)
  unfolding first_of
  found = go _ (finds kind (slots_of m) m.size 0)
    where
      go : (r : Option MemoryEntry) → Finds kind (slots_of m) m.size 0 r → Found r
      go r (one s a b e f) = some _ (record { slot = s; below = omega arith; there = refl; is = e; none = λ j h. f j (omega arith) h })
      go r (none f) = nothing (λ j h. f j (omega arith) (omega arith))

  -- there are not two that are first
  same_first : {e d : MemoryEntry} → FirstHeld kind m e → FirstHeld kind m d → e ≡ d
  same_first x y =
      let s : x.slot ≡ y.slot = omega (arith, here x y, here y x) in
      sym x.there ∙ ap (at (slots_of m)) s ∙ y.there
    where
      here : {e d : MemoryEntry} → (x : FirstHeld kind m e) → (y : FirstHeld kind m d) → x.slot < y.slot → ⊥
      here x y h = y.none x.slot h (ap (λ (e : MemoryEntry). e.kind) x.there ∙ x.is)

  never : {e : MemoryEntry} → FirstHeld kind m e → NoneHeld kind m → ⊥
  never x n = n x.slot x.below (ap (λ (e : MemoryEntry). e.kind) x.there ∙ x.is)

  -- an entry is found exactly when it is the first held one of the kind
  pub entry_exactly : (e : MemoryEntry) → (first_of kind m ≡ Some e) ↔ FirstHeld kind m e
  entry_exactly e = (λ q. to _ found q, λ x. from _ found x)
    where
      to : (r : Option MemoryEntry) → Found r → r ≡ Some e → FirstHeld kind m e
      to r (some d x) q = let s : d ≡ e = cc in rw (← s) x
      to r (nothing n) q = let z : ◌≡◌ {A = ℕ} 0 1 = cc in absurd (omega arith)

      from : (r : Option MemoryEntry) → Found r → FirstHeld kind m e → r ≡ Some e
      from r (some d x) y = ap Some (same_first x y)
      from r (nothing n) y = absurd (never y n)

  -- nothing is found exactly when no held entry is of the kind
  pub nothing_exactly : (first_of kind m ≡ None) ↔ NoneHeld kind m
  nothing_exactly = (λ q. to _ found q, λ n. from _ found n)
    where
      to : (r : Option MemoryEntry) → Found r → r ≡ None → NoneHeld kind m
      to r (some d x) q = let z : ◌≡◌ {A = ℕ} 0 1 = cc in absurd (omega arith)
      to r (nothing n) q = n

      from : (r : Option MemoryEntry) → Found r → NoneHeld kind m → r ≡ None
      from r (some d x) n = absurd (never x n)
      from r (nothing k) n = refl
