-- A listing as a map: it holds just the wanted entries, in their order, and it is Made where the map is, so that every call that takes a
-- map takes it. For every page size p. Assumes nothing.
use mathlib.Core.Path.{◌≡◌, refl, ◌∙◌}
use mathlib.Core.Bool.{Bool}
use mathlib.Core.List.{List, [], ◌∷◌}
use Prim.Native.Nat.{ℕ, zero, suc, ◌+◌, ◌<◌, ◌≤◌}
use native.Mathlib.Omega.{arith}
use lib.ListN.{length}
use Rattle.entry.specs.declared.MemoryEntry.{MemoryEntry}
use Rattle.memory.specs.declared.MemoryMap.{MemoryMap}
use Rattle.memory.specs.Map.{Slots, slots_of, at, put, blank, Absorbs}
use Rattle.memory.specs.Made.{Full, Good, Made}
use Rattle.memory.proofs.SlotLaws.{at_or_not, full_put, at_put_same, at_put_other}
use Rattle.memory.proofs.MapLaws.{blank_made}
use Rattle.listing.specs.Listing.{entries_from, held, wants, those, laid, holding, picked}
use Rattle.listing.proofs.ListingLaws.{those_ways}

-- ── Entries laid into slots are found there again ──
laid_below : (l : Slots) (i : ℕ) (es : List MemoryEntry) (j : ℕ) → j < i → at (laid l i es) j ≡ at l j
unfolding laid
laid_below l i [] j h = refl
laid_below l i (e ∷ es) j h = laid_below (put l i e) (i + 1) es j (omega arith) ∙ at_put_other l i j e (omega arith)

laid_found : (l : Slots) (i : ℕ) (es : List MemoryEntry) → Full l → i + length es ≤ 512 → entries_from (laid l i es) (length es) i ≡ es
unfolding laid entries_from
laid_found l i [] f h = refl
laid_found l i (e ∷ es) f h =
    rw (
      laid_below (put l i e) (i + 1) es i (omega arith),
      at_put_same l i e f (omega arith),
      laid_found (put l i e) (i + 1) es (full_put l i e f) (omega arith),
    )

-- no more pass a test than there are
those_few : (t : MemoryEntry → Bool) (l : Slots) (n i : ℕ) → length (those t (entries_from l n i)) ≤ n
unfolding those entries_from
those_few t l zero i = omega arith
those_few t l (suc n) i =
    let h = those_few t l n (i + 1) in
    those_ways t (at l i) (entries_from l n (i + 1)) (λ es. length es ≤ suc n) (λ e. omega arith) (λ e. omega arith)

-- ── Laying keeps what makes a map ──
-- under way: c entries are laid in o, each good, apart from one another and from every slot of l that is left to go over, from i on
record Laying (p : ℕ) (l : Slots) (n : ℕ) (o : Slots) (c i : ℕ) : Type 0 where
  full : Full o
  each : (j : ℕ) → j < c → Good p (at o j)
  apart : (a b : ℕ) → a < c → b < c → (a ≡ b → ⊥) → Absorbs (at o a) (at o b) → ⊥
  ahead : (a b : ℕ) → a < c → i ≤ b → b < n → Absorbs (at o a) (at l b) → ⊥
  behind : (a b : ℕ) → a < c → i ≤ b → b < n → Absorbs (at l b) (at o a) → ⊥

next : (c n : ℕ) → c + suc n ≡ c + 1 + n
next c n = omega arith

module _ (p : ℕ) (m : MemoryMap) (made : Made p m) where
  laying_takes : (o : Slots) (c i : ℕ) → c ≤ i → i < m.size → Laying p (slots_of m) m.size o c i
      → Laying p (slots_of m) m.size (put o c (at (slots_of m) i)) (c + 1) (i + 1)
  laying_takes o c i few h g =
      record {
        full = full_put o c e g.full;
        each = λ j hj. at_or_not c j (Good p (at q j))
            (λ s. rw (s, new) (made.each i h))
            (λ n. rw (old j n) (g.each j (omega arith)));
        apart = λ a b ha hb n. at_or_not c a (Absorbs (at q a) (at q b) → ⊥)
            (λ s. rw (s, new, old b (omega arith)) (g.behind b i (omega arith) (omega arith) h))
            (λ na. at_or_not c b (Absorbs (at q a) (at q b) → ⊥)
            (λ s. rw (s, new, old a na) (g.ahead a i (omega arith) (omega arith) h))
            (λ nb. rw (old a na, old b nb) (g.apart a b (omega arith) (omega arith) n)));
        ahead = λ a b ha hi hb. at_or_not c a (Absorbs (at q a) (at (slots_of m) b) → ⊥)
            (λ s. rw (s, new) (made.apart i b h hb (omega arith)))
            (λ n. rw (old a n) (g.ahead a b (omega arith) (omega arith) hb));
        behind = λ a b ha hi hb. at_or_not c a (Absorbs (at (slots_of m) b) (at q a) → ⊥)
            (λ s. rw (s, new) (made.apart b i hb h (omega arith)))
            (λ n. rw (old a n) (g.behind a b (omega arith) (omega arith) hb));
      }
    where
      e : MemoryEntry
      e = at (slots_of m) i

      q : Slots
      q = put o c e

      new : at q c ≡ e
      new = at_put_same o c e g.full (omega (arith, made.room))

      old : (j : ℕ) → (j ≡ c → ⊥) → at q j ≡ at o j
      old j n = at_put_other o c j e n

  laying_leaves : (o : Slots) (c i : ℕ) → Laying p (slots_of m) m.size o c i → Laying p (slots_of m) m.size o c (i + 1)
  laying_leaves o c i g =
      record {
        full = g.full;
        each = g.each;
        apart = g.apart;
        ahead = λ a b ha hi. g.ahead a b ha (omega arith);
        behind = λ a b ha hi. g.behind a b ha (omega arith);
      }

  laying_ends : (t : MemoryEntry → Bool) (k i : ℕ) (o : Slots) (c : ℕ) → i + k ≡ m.size → c ≤ i → Laying p (slots_of m) m.size o c i
      → Laying p (slots_of m) m.size (laid o c (those t (entries_from (slots_of m) k i))) (c + length (those t (entries_from (slots_of m) k i))) m.size
  unfolding those entries_from laid
  laying_ends t zero i o c s few g =
      let x : i ≡ m.size = omega arith in
      let y : c + 0 ≡ c = omega arith in
      rw y (rw x at g)
  laying_ends t (suc k) i o c s few g =
      let takes = laying_ends t k (i + 1) (put o c (at (slots_of m) i)) (c + 1) (omega arith) (omega arith) (laying_takes o c i few (omega arith) g) in
      let leaves = laying_ends t k (i + 1) o c (omega arith) (omega arith) (laying_leaves o c i g) in
      those_ways t (at (slots_of m) i) (entries_from (slots_of m) k (i + 1)) (λ es. Laying p (slots_of m) m.size (laid o c es) (c + length es) m.size)
      (λ h. rw (next c (length (those t (entries_from (slots_of m) k (i + 1))))) takes)
      (λ h. leaves)

module _ (kind : ℕ) (wanted : Bool) (m : MemoryMap) where
  -- a listing's map holds just the wanted entries of the map, in their order
  pub picked_held : m.size ≤ 512 → held (picked kind wanted m) ≡ those (wants kind wanted) (held m)
  unfolding picked holding
  picked_held h =
      laid_found (slots_of blank) 0 (those (wants kind wanted) (held m)) (blank_made 4096).slots
      (omega (arith, those_few (wants kind wanted) (slots_of m) m.size 0))

  -- a listing's map is one that our calls make, and so any call may take it
  pub picked_made : (p : ℕ) → Made p m → Made p (picked kind wanted m)
  unfolding picked holding
  picked_made p made =
      record {
        slots = end.full;
        room = omega (arith, made.room, those_few (wants kind wanted) (slots_of m) m.size 0);
        each = λ j h. end.each j (omega arith);
        apart = λ a b ha hb. end.apart a b (omega arith) (omega arith);
      }
    where
      none : Laying p (slots_of m) m.size (slots_of blank) 0 0
      none =
          record {
            full = (blank_made p).slots;
            each = λ j h. absurd (omega arith);
            apart = λ a b h. absurd (omega arith);
            ahead = λ a b h. absurd (omega arith);
            behind = λ a b h. absurd (omega arith);
          }

      end : Laying p (slots_of m) m.size (laid (slots_of blank) 0 (those (wants kind wanted) (held m))) (0 + length (those (wants kind wanted) (held m))) m.size
      end = laying_ends p m made (wants kind wanted) m.size 0 (slots_of blank) 0 (omega arith) (omega arith) none
