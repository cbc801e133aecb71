-- Whatever the union of two entries has exactly when one of them has it, a registration adds to a map as to a set. Assumes nothing.
use Rattle.std.specs.Prelude.{Ok}
use mathlib.Core.Path.{◌≡◌}
use mathlib.Core.Logic.{◌↔◌, ◌⊎◌, inl, inr, ⊎_elim}
use Prim.Native.Nat.{ℕ, suc, ◌+◌, ◌<◌}
use native.Mathlib.Omega.{arith}
use Rattle.page.specs.Round.{Page}
use Rattle.entry.specs.declared.MemoryEntry.{MemoryEntry}
use Rattle.entry.specs.Entry.{union}
use Rattle.entry.specs.declared.Claim.{Claim}
use Rattle.entry.specs.Claim.{rounded}
use Rattle.memory.specs.declared.MemoryMap.{MemoryMap}
use Rattle.memory.specs.declared.Registered.{Registered}
use Rattle.memory.specs.Map.{Slots, at, put, Absorbs, Pass, pass, begin, ended, inserted, Something, registered}
use Rattle.memory.specs.Made.{Full, Good, Made}
use Rattle.memory.proofs.SlotLaws.{from, from_below, from_onto, Came, at_or_not, at_put_same, at_put_other, at_moved}
use Rattle.memory.proofs.PassLaws.{here, absorbing, passing, look_ways, pass_keeps}
use Rattle.memory.proofs.MapLaws.{Going, going_end, going_look, going_begin, placed_ways, Way, no_kind, no_page, new_page, registered_way, rounded_good}
use Rattle.runs.specs.Sets.{Held}

-- what the union of two that absorb one another has, exactly when one of them has it
abbrev pub Shared : (MemoryEntry → Type 0) → Type 0
Shared Q = (a b : MemoryEntry) → Absorbs a b → Q (union a b) ↔ (Q a ⊎ Q b)

-- some entry of the first n slots is Q
record Slotted (Q : MemoryEntry → Type 0) (n : ℕ) (l : Slots) : Type 0 where
  place : ℕ
  below : place < n
  found : Q (at l place)

-- a pass has it, in its new entry or in a slot that counts
abbrev Somewhere : (MemoryEntry → Type 0) → ℕ → Pass → Type 0
Somewhere Q n s = Q s.new ⊎ Slotted Q (s.index + n) s.slots

module _ (Q : MemoryEntry → Type 0) (n : ℕ) (s : Pass) where
  moved : Full s.slots → s.index < 512 → (j : ℕ)
      → at (put s.slots s.index (at s.slots (s.index + n))) j ≡ at s.slots (from s.index (s.index + n) j)
  moved full fits j = at_moved s.slots s.index (s.index + n) j full fits

  absorbing_has : Full s.slots → s.index < 512 → Absorbs s.new (here s) → Shared Q → Somewhere Q (suc n) s ↔ Somewhere Q n (absorbing n s)
  absorbing_has full fits t g = (
    ⊎_elim (λ i. inl ((g _ _ t).1 (inl i)))
        (λ w. at_or_not s.index w.place (Somewhere Q n (absorbing n s))
        (λ e. inl ((g _ _ t).1 (inr (rw e at w.found))))
        (λ d.
        let c : Came s.index (s.index + n) w.place = from_onto s.index (s.index + n) w.place (omega arith) (omega (arith, w.below)) d in
        inr (record { place = c.slot; below = c.below; found = rw (moved full fits c.slot, c.there) w.found }))),
    ⊎_elim (λ i. ⊎_elim (λ a. inl a) (λ b. inr (record { place = s.index; below = omega arith; found = b })) ((g _ _ t).0 i))
        (λ w. inr (record {
          place = from s.index (s.index + n) w.place;
          below = omega (arith, from_below s.index (s.index + n) w.place w.below);
          found = rw (moved full fits w.place) at w.found;
        })),
  )

  passing_has : Somewhere Q (suc n) s ↔ Somewhere Q n (passing n s)
  passing_has = (
    ⊎_elim (λ i. inl i) (λ w. inr (record { place = w.place; below = omega (arith, w.below); found = w.found })),
    ⊎_elim (λ i. inl i) (λ w. inr (record { place = w.place; below = omega (arith, w.below); found = w.found })),
  )

-- a pass keeps it and gains nothing
pass_has : (Q : MemoryEntry → Type 0) → Shared Q → (p : ℕ) (m : MemoryMap) (e : MemoryEntry) → Made p m → Good p e
    → (Held Q m ⊎ Q e) ↔ Somewhere Q 0 (pass m.size (begin m e))
pass_has Q g p m e made new =
    (pass_keeps (λ n s. Going p n s × ((Held Q m ⊎ Q e) ↔ Somewhere Q n s))
    (λ n s w. (
      going_look p n s w.0,
      look_ways n s (λ r. (Held Q m ⊎ Q e) ↔ Somewhere Q n r)
          (λ t.
          let h = absorbing_has Q n s w.0.full (omega (arith, w.0.fits)) t g in
          (λ y. h.0 (w.1.0 y), λ y. w.1.1 (h.1 y)))
          (λ d.
          let h = passing_has Q n s in
          (λ y. h.0 (w.1.0 y), λ y. w.1.1 (h.1 y))),
    ))
    m.size (begin m e) (
      going_begin p m e made new,
      unfold begin in (
        ⊎_elim (λ w. inr (record { place = w.slot; below = omega (arith, w.held); found = w.found })) (λ i. inl i),
        ⊎_elim (λ i. inr i) (λ w. inl (record { slot = w.place; held = omega (arith, w.below); found = w.found })),
      ),
    )
    ).1

-- and so does putting the new entry last
ended_has : (Q : MemoryEntry → Type 0) (m : MemoryMap) (s : Pass) → Full s.slots → s.index < 512 → Somewhere Q 0 s ↔ Held Q (ended m s)
unfolding ended
ended_has Q m s full fits = (there, back)
  where
    new : at (put s.slots s.index s.new) s.index ≡ s.new
    new = at_put_same s.slots s.index s.new full fits

    old : (j : ℕ) → (j ≡ s.index → ⊥) → at (put s.slots s.index s.new) j ≡ at s.slots j
    old j n = at_put_other s.slots s.index j s.new n

    there : Somewhere Q 0 s → Held Q (ended m s)
    there =
        ⊎_elim (λ i. record { slot = s.index; held = omega arith; found = rw new i })
        (λ w. record { slot = w.place; held = omega (arith, w.below); found = rw (old w.place (omega (arith, w.below))) w.found })

    back : Held Q (ended m s) → Somewhere Q 0 s
    back w =
        at_or_not s.index w.slot (Somewhere Q 0 s)
        (λ e. inl (rw (e, new) at w.found))
        (λ d. inr (record { place = w.slot; below = omega (arith, w.held); found = rw (old w.slot d) at w.found }))

-- the claim registers something, and its pages have it
pub record Adds (Q : MemoryEntry → Type 0) (p : ℕ) (c : Claim) : Type 0 where
  pub something : Something p c
  pub inside : Q (rounded p c)

-- an accepted registration: what was held, and what the claim adds
pub registered_has : (Q : MemoryEntry → Type 0) → Shared Q → (p : ℕ) (m : MemoryMap) (c : Claim) → Page p → Made p m
    → (registered p m c).answer ≡ Ok tt → Held Q (registered p m c).map ↔ (Held Q m ⊎ Adds Q p c)
registered_has Q g p m c pg made done = go (registered p m c) (registered_way p m c) done
  where
    new : (s : Something p c) → (inserted m (rounded p c)).answer ≡ Ok tt → Held Q (inserted m (rounded p c)).map ↔ (Held Q m ⊎ Adds Q p c)
    new s =
        let h = pass_has Q g p m (rounded p c) made (rounded_good p c pg s) in
        unfold inserted in
        placed_ways m (pass m.size (begin m (rounded p c))) (λ q. q.answer ≡ Ok tt → Held Q q.map ↔ (Held Q m ⊎ Adds Q p c))
        (λ l z. absurd (let z : ◌≡◌ {A = ℕ} 0 1 = cc in omega arith))
        (λ l z.
        let t = ended_has Q m _ (going_end p m (rounded p c) made (rounded_good p c pg s)).full l in (
          λ w. ⊎_elim (λ v. inl v) (λ i. inr (record { something = s; inside = i })) (h.1 (t.1 w)),
          λ w. t.0 (h.0 (⊎_elim (λ v. inl v) (λ a. inr a.inside) w)),
        ))

    go : (r : Registered) → Way p m c r → r.answer ≡ Ok tt → Held Q r.map ↔ (Held Q m ⊎ Adds Q p c)
    go r (no_kind n) e = absurd (let z : ◌≡◌ {A = ℕ} 0 1 = cc in omega arith)
    go r (no_page i n) e = (λ w. inl w, ⊎_elim (λ w. w) (λ a. absurd (n a.something)))
    go r (new_page s) e = new s e
