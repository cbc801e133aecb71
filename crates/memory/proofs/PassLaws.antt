-- A pass over the held entries, look by look. Assumes nothing.
use Rattle.std.specs.Prelude.{Option, Some, None}
use mathlib.Core.Path.{◌≡◌, refl, ap, sym}
use mathlib.Core.Bool.{Bool, true, false, cond}
use Prim.Native.Nat.{ℕ, zero, suc, ◌+◌, ◌-◌, ◌<◌, ◌≤◌}
use native.Mathlib.Omega.{arith}
use lib.Dec.{eqb}
use borrow.Author.Tests.{eqb-true, eqb-false}
use Rattle.entry.specs.declared.MemoryEntry.{MemoryEntry}
use Rattle.entry.specs.Entry.{union, join}
use Rattle.entry.proofs.EntryLaws.{Joins, one, two, joins}
use Rattle.memory.specs.Map.{at, put, Absorbs, absorb, Pass, step, look, pass}

-- the two ways that a new entry meets a held one
pub data Meeting (new held : MemoryEntry) : Option MemoryEntry → Type 0 where
  takes : Absorbs new held → Meeting new held (Some (union new held))
  leaves : (Absorbs new held → ⊥) → Meeting new held None

pub meeting : (new held : MemoryEntry) → Meeting new held (absorb new held)
unfolding absorb
meeting new held = go (eqb new.kind held.kind) refl
  where
    near : new.kind ≡ held.kind → (r : Option MemoryEntry) → Joins new held r → Meeting new held r
    near k r (one t) = takes (record { kinds = k; near = t })
    near k r (two n) = leaves (λ a. n a.near)

    go : (t : Bool) → eqb new.kind held.kind ≡ t → Meeting new held (cond t (join new held) None)
    go true e = near (eqb-true _ _ e) (join new held) (joins new held)
    go false e = leaves (λ a. eqb-false _ _ e a.kinds)

-- the entry in the slot that is looked at
abbrev pub here : Pass → MemoryEntry
here s = at s.slots s.index

-- where a look leads: it absorbs, or it goes on
abbrev pub absorbing : ℕ → Pass → Pass
absorbing k s = step k s (Some (union s.new (here s)))

abbrev pub passing : ℕ → Pass → Pass
passing k s = step k s None

-- a fact of what a look leads to, from the two ways
pub look_ways : (k : ℕ) (s : Pass) (P : Pass → Type 0)
    → (Absorbs s.new (here s) → P (absorbing k s)) → ((Absorbs s.new (here s) → ⊥) → P (passing k s)) → P (look k s)
unfolding look
look_ways k s P f g = go (absorb s.new (here s)) (meeting s.new (here s))
  where
    go : (r : Option MemoryEntry) → Meeting s.new (here s) r → P (step k s r)
    go r (takes a) = f a
    go r (leaves n) = g n

-- what holds of a pass and is kept by each look, holds at its end
pub pass_keeps : (P : ℕ → Pass → Type 0) → ((k : ℕ) (s : Pass) → P (suc k) s → P k (look k s)) → (k : ℕ) (s : Pass) → P k s → P 0 (pass k s)
unfolding pass
pass_keeps P f zero s h = h
pass_keeps P f (suc k) s h = pass_keeps P f k (look k s) (f k s h)

-- ── Counted as the code counts: by the number n of held entries ──
pub pass_done : (n : ℕ) (s : Pass) → n ≤ s.index → pass (n - s.index) s ≡ s
unfolding pass
pass_done n s h =
    let e : n - s.index ≡ 0 = omega arith in
    rw e

look_is : (k : ℕ) (s : Pass) (r : Option MemoryEntry) → r ≡ absorb s.new (here s) → look k s ≡ step k s r
unfolding look
look_is k s r e = ap (step k s) (sym e)

pass_suc : (k : ℕ) (s : Pass) → pass (suc k) s ≡ pass k (look k s)
unfolding pass
pass_suc k s = refl

pub pass_absorbs : (n : ℕ) (s : Pass) (both : MemoryEntry) → s.index < n → Some both ≡ absorb s.new (here s)
    → pass (n - s.index) s
    ≡ pass (n - 1 - s.index) (record { new = both; slots = put s.slots s.index (at s.slots (n - 1)); index = s.index })
pass_absorbs n s both h t =
    let e : n - s.index ≡ suc (n - 1 - s.index) = omega arith in
    let f : s.index + (n - 1 - s.index) ≡ n - 1 = omega arith in
    rw (e, pass_suc, look_is _ s (Some both) t, f)

pub pass_passes : (n : ℕ) (s : Pass) → s.index < n → None ≡ absorb s.new (here s)
    → pass (n - s.index) s ≡ pass (n - (s.index + 1)) (record { new = s.new; slots = s.slots; index = s.index + 1 })
pass_passes n s h t =
    let e : n - s.index ≡ suc (n - (s.index + 1)) = omega arith in
    rw (e, pass_suc, look_is _ s None t)
