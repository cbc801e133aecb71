-- Two entries that overlap or touch, and their union, as facts on addresses. Assumes nothing.
use Rattle.std.specs.Prelude.{Option, Some, None}
use mathlib.Core.Path.{◌≡◌, refl}
use mathlib.Core.Bool.{Bool, true, false, cond, ◌&&◌}
use mathlib.Core.Logic.{◌⊎◌, inl, inr, ⊎_elim, ◌↔◌}
use Prim.Native.Nat.{ℕ, ◌≤◌, ◌<◌}
use native.Mathlib.Omega.{arith}
use lib.Dec.{leb, ltb}
use borrow.Author.Tests.{le-leb, leb-true, leb-false, ltb-true, ltb-false}
use Rattle.entry.specs.declared.MemoryEntry.{MemoryEntry}
use Rattle.entry.specs.Entry.{Has, overlap, meet, Touch, union, join}

-- the two ways that a cut goes
pub data Meets (a b : MemoryEntry) : Option MemoryEntry → Type 0 where
  some : (overlap a b).start < (overlap a b).end → Meets a b (Some (overlap a b))
  none : (overlap a b).end ≤ (overlap a b).start → Meets a b None

pub meets : (a b : MemoryEntry) → Meets a b (meet a b)
unfolding meet
meets a b = go (ltb (overlap a b).start (overlap a b).end) refl
  where
    go : (t : Bool) → ltb (overlap a b).start (overlap a b).end ≡ t → Meets a b (cond t (Some (overlap a b)) None)
    go true e = some (ltb-true _ _ e)
    go false e = none (ltb-false _ _ e)

-- an address is in the overlap exactly when it is in both
pub overlap_has : (a b : MemoryEntry) (x : ℕ) → Has x (overlap a b) ↔ (Has x a × Has x b)
unfolding overlap
overlap_has a b x = (
  λ h. (record { from = omega (arith, h.from); to = omega (arith, h.to) }, record { from = omega (arith, h.from); to = omega (arith, h.to) }),
  λ h. record { from = omega (arith, h.0.from, h.1.from); to = omega (arith, h.0.to, h.1.to) },
)

-- the two ways that combining goes
pub data Joins (a b : MemoryEntry) : Option MemoryEntry → Type 0 where
  one : Touch a b → Joins a b (Some (union a b))
  two : (Touch a b → ⊥) → Joins a b None

pub joins : (a b : MemoryEntry) → Joins a b (join a b)
unfolding join
joins a b = go (leb a.start b.end) (leb b.start a.end) refl refl
  where
    go : (s t : Bool) → leb a.start b.end ≡ s → leb b.start a.end ≡ t → Joins a b (cond (s && t) (Some (union a b)) None)
    go true true e f = one (record { low = leb-true _ _ e; high = leb-true _ _ f })
    go true false e f = two (λ u. omega (arith, leb-false b.start a.end f, u.high))
    go false t e f = two (λ u. omega (arith, leb-false a.start b.end e, u.low))

pub touch_joins : (a b : MemoryEntry) → Touch a b → Some (union a b) ≡ join a b
unfolding join
touch_joins a b t = rw (le-leb _ _ t.low, le-leb _ _ t.high)

pub gap_joins : (a b : MemoryEntry) → (Touch a b → ⊥) → None ≡ join a b
gap_joins a b n = go (join a b) (joins a b)
  where
    go : (r : Option MemoryEntry) → Joins a b r → None ≡ r
    go r (one t) = absurd (n t)
    go r (two q) = refl

-- two entries that neither overlap nor touch have a gap between them
pub gap : (a b : MemoryEntry) → (Touch a b → ⊥) → (b.end < a.start) ⊎ (a.end < b.start)
gap a b n = go (leb a.start b.end) (leb b.start a.end) refl refl
  where
    go : (s t : Bool) → leb a.start b.end ≡ s → leb b.start a.end ≡ t → (b.end < a.start) ⊎ (a.end < b.start)
    go true true e f = absurd (n (record { low = leb-true _ _ e; high = leb-true _ _ f }))
    go true false e f = inr (leb-false _ _ f)
    go false t e f = inl (leb-false _ _ e)

pub touch_sym : (a b : MemoryEntry) → Touch a b → Touch b a
touch_sym a b t = record { low = t.high; high = t.low }

-- what touches neither of two that touch one another, does not touch their union
pub union_apart : (a b c : MemoryEntry) → Touch a b → c.start ≤ c.end → (Touch a c → ⊥) → (Touch b c → ⊥) → Touch (union a b) c → ⊥
unfolding union
union_apart a b c t h na nb u =
    ⊎_elim
    (λ x. ⊎_elim (λ y. omega (arith, t.low, t.high, u.low, u.high)) (λ y. omega (arith, t.low, t.high, u.low, u.high)) (gap b c nb))
    (λ x. ⊎_elim (λ y. omega (arith, t.low, t.high, u.low, u.high)) (λ y. omega (arith, t.low, t.high, u.low, u.high)) (gap b c nb))
    (gap a c na)

-- the union of two that overlap or touch has the addresses of both, and no others
pub union_has : (a b : MemoryEntry) (x : ℕ) → Touch a b → Has x (union a b) ↔ (Has x a ⊎ Has x b)
unfolding union
union_has a b x t = (
  λ i. into i (leb a.start x) (leb a.end x) refl refl,
  ⊎_elim
      (λ i. record { from = omega (arith, i.from); to = omega (arith, i.to) })
      (λ i. record { from = omega (arith, i.from); to = omega (arith, i.to) }),
)
  where
    into : Has x (union a b) → (s u : Bool) → leb a.start x ≡ s → leb a.end x ≡ u → Has x a ⊎ Has x b
    into i true true e f =
        let g : a.end ≤ x = leb-true _ _ f in
        inr (record { from = omega (arith, t.high); to = omega (arith, i.to) })
    into i true false e f = inl (record { from = leb-true _ _ e; to = leb-false _ _ f })
    into i false u e f =
        let g : x < a.start = leb-false _ _ e in
        inr (record { from = omega (arith, i.from); to = omega (arith, t.low) })
