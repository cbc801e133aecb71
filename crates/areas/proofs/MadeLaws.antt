-- The areas of a map that our calls made: they ascend, have the addresses of document 01's rule, are whole pages,
-- and are no more than the entries held. Assumes nothing.
use Rattle.std.specs.Prelude.{Option, ℕ}
use mathlib.Core.Path.{◌≡◌, ap}
use mathlib.Core.List.{List, [], ◌∷◌, map}
use mathlib.Core.Bool.{Bool, true, false, not}
use mathlib.Core.Logic.{◌⊎◌, inl, inr, ⊎_elim, ◌↔◌}
use Prim.Native.Nat.{ℕ, ◌+◌, ◌≤◌, ◌<◌}
use native.Mathlib.Omega.{arith}
use lib.Dec.{eqb}
use lib.ListN.{length}
use borrow.Author.Tests.{eq-eqb, ne_eqb, eqb-true, eqb-false, not-true}
use Rattle.page.specs.Round.{top, Aligned, Page}
use Rattle.page.proofs.Laws.{page_gap, up_aligned, down_aligned, min_of, max_of}
use Rattle.entry.specs.declared.MemoryEntry.{MemoryEntry}
use Rattle.entry.specs.declared.BootloaderMemoryKind.TheVariants.{Free}
use Rattle.entry.specs.Kind.{number_of}
use Rattle.entry.specs.Entry.{Has, overlap}
use Rattle.entry.proofs.EntryLaws.{gap}
use Rattle.memory.specs.declared.MemoryMap.{MemoryMap}
use Rattle.memory.specs.Map.{slots_of, at}
use Rattle.memory.specs.Made.{Made}
use Rattle.listing.specs.Listing.{held, wants, those}
use Rattle.areas.specs.declared.Interval.{Interval}
use Rattle.areas.specs.Interval.{Listed, Ascending}
use Rattle.areas.specs.Shape.{WholePages, Shape}
use Rattle.areas.specs.Areas.{limit_of, span, free_of, busy_of, areas_in, areas_of}
use Rattle.areas.specs.Steps.{All, Solid, Long}
use Rattle.areas.proofs.Lists.{le_or_lt, Every, every_member, every_map, every_weaker}
use Rattle.areas.proofs.SortLaws.{Off, Apart}
use Rattle.areas.proofs.AreasLaws.{Sound, areas_ascend, areas_listed}
use Rattle.areas.proofs.Edges.{Edged, CutTo, areas_edges}
use Rattle.areas.proofs.Count.{areas_few}
use Rattle.areas.proofs.Those.{entries_length, every_those, those_apart, those_listed}

every_all : (P : Interval → Type 0) (l : List Interval) → Every P l → All P l
every_all P [] h = tt
every_all P (r ∷ l) h = (h.0, every_all P l h.1)

-- the address x lies in a held entry whose kind has K
pub record Lies (K : ℕ → Type 0) (x : ℕ) (m : MemoryMap) : Type 0 where
  pub slot : ℕ
  pub held : slot < m.size
  pub kind : K (at (slots_of m) slot).kind
  pub has : Has x (at (slots_of m) slot)

-- in a Free entry, and in an entry of any other kind
abbrev pub LiesFree : ℕ → MemoryMap → Type 0
LiesFree x m = Lies (λ k. k ≡ number_of Free) x m

abbrev pub LiesBusy : ℕ → MemoryMap → Type 0
LiesBusy x m = Lies (λ k. k ≡ number_of Free → ⊥) x m

-- the entries that pass a test, as those whose kind has K
listed_lies : (K : ℕ → Type 0) (t : MemoryEntry → Bool) (m : MemoryMap) → ((e : MemoryEntry) → t e ≡ true → K e.kind) → ((e : MemoryEntry) → K e.kind → t e ≡ true)
    → (x : ℕ) → Listed x (map span (those t (held m))) ↔ Lies K x m
listed_lies K t m f g x =
    let r = those_listed t (slots_of m) x m.size 0 in (
      λ i. let s = r.0 i in record { slot = s.slot; held = omega (arith, s.to); kind = f _ s.test; has = s.has },
      λ s. r.1 (record { slot = s.slot; from = omega arith; to = omega (arith, s.held); test = g _ s.kind; has = s.has }),
    )

pub free_lies : (m : MemoryMap) (x : ℕ) → Listed x (map span (free_of (held m))) ↔ LiesFree x m
free_lies m x = listed_lies (λ k. k ≡ number_of Free) (wants (number_of Free) true) m (λ e h. eqb-true e.kind 1 h) (λ e h. eq-eqb e.kind 1 h) x

pub busy_lies : (m : MemoryMap) (x : ℕ) → Listed x (busy_of (held m)) ↔ LiesBusy x m
busy_lies m x =
    listed_lies (λ k. k ≡ number_of Free → ⊥) (wants (number_of Free) false) m
    (λ e h. eqb-false e.kind 1 (not-true (eqb e.kind 1) h)) (λ e h. ap not (ne_eqb e.kind 1 h)) x

pub held_length : (m : MemoryMap) → length (held m) ≡ m.size
held_length m = entries_length (slots_of m) m.size 0

-- what may be the end of such an area
abbrev Low : ℕ → ℕ → Type 0
Low p b = Aligned p b × (b ≤ top p)

module _ {p : ℕ} {m : MemoryMap} (made : Made p m) where
  -- what every held entry has that passes a test
  each_held : (t : MemoryEntry → Bool) (P : MemoryEntry → Type 0) → ((j : ℕ) → j < m.size → P (at (slots_of m) j)) → Every P (those t (held m))
  each_held t P f = every_those t (slots_of m) P m.size 0 (λ j a b h. f j (omega arith))

  -- what every held entry has that is not Free
  each_busy : (P : Interval → Type 0) → ((j : ℕ) → j < m.size → P (span (at (slots_of m) j))) → All P (busy_of (held m))
  each_busy P f =
      every_all P (busy_of (held m)) (every_map P span (those (wants (number_of Free) false) (held m)) (each_held (wants (number_of Free) false) (λ e. P (span e)) f))

  held_solid : Solid (busy_of (held m))
  held_solid = each_busy (λ r. r.lo < r.hi) (λ j h. (made.each j h).some)

  pub held_long : Long p (busy_of (held m))
  held_long =
      each_busy (λ r. r.lo + p ≤ r.hi)
      (λ j h.
      let e = at (slots_of m) j in
      let some : e.start < e.end = (made.each j h).some in
      ⊎_elim (λ (u : e.start + p ≤ e.end). u)
      (λ (u : e.end < e.start + p). absurd (omega (arith, page_gap p e.end e.start (made.each j h).to (made.each j h).from u)))
      (le_or_lt (e.start + p) e.end))

  held_apart : Apart (map span (free_of (held m)))
  held_apart =
      those_apart (wants (number_of Free) true) (slots_of m) m.size 0 (λ j h. (made.each j (omega arith)).some)
      (λ a b u v ne s t. swap a b (gap (at (slots_of m) a) (at (slots_of m) b)
      (λ near. made.apart a b (omega arith) (omega arith) ne (record { kinds = same a b s t; near = near }))))
    where
      same : (a b : ℕ) → eqb (at (slots_of m) a).kind 1 ≡ true → eqb (at (slots_of m) b).kind 1 ≡ true → (at (slots_of m) a).kind ≡ (at (slots_of m) b).kind
      same a b s t = omega (arith, eqb-true (at (slots_of m) a).kind 1 s, eqb-true (at (slots_of m) b).kind 1 t)

      swap : (a b : ℕ) → ((at (slots_of m) b).end < (at (slots_of m) a).start) ⊎ ((at (slots_of m) a).end < (at (slots_of m) b).start) → Off (span (at (slots_of m) a)) (span (at (slots_of m) b))
      swap a b (inl h) = inr h
      swap a b (inr h) = inl h

  pub held_sound : Sound (held m)
  held_sound = record { solid = held_solid; apart = held_apart }

  module _ (low high : Option ℕ) where
    pub areas_of_ascends : Ascending (areas_of p low high m)
    unfolding areas_of
    areas_of_ascends = areas_ascend (limit_of p low high) (held m) held_sound

    -- an address is in an area exactly when it is in a Free entry, between the limits, and in no other entry
    pub areas_of_listed : (x : ℕ)
        → Listed x (areas_of p low high m) ↔ (LiesFree x m × ((limit_of p low high).start ≤ x) × (x < (limit_of p low high).end) × (LiesBusy x m → ⊥))
    unfolding areas_of
    areas_of_listed x =
        let r = areas_listed (limit_of p low high) (held m) held_solid x in
        let f = free_lies m x in
        let b = busy_lies m x in (
          λ i. let t = r.0 i in (f.0 t.0, t.1, t.2, λ j. t.3 (b.1 j)),
          λ h. r.1 (f.1 h.0, h.1, h.2, λ j. h.3 (b.0 j)),
        )

    pub areas_of_few : length (areas_of p low high m) ≤ m.size
    unfolding areas_of
    areas_of_few = omega (arith, areas_few (limit_of p low high) (held m) held_sound, held_length m)

    -- every area is whole pages
    pub areas_of_pages : Page p → Every (WholePages p) (areas_of p low high m)
    unfolding areas_of limit_of overlap
    areas_of_pages g =
        every_weaker (Edged (Aligned p) (Low p)) (WholePages p) (λ r h. record { from = h.0; to = h.1.0; low = h.1.1 }) (areas_in (limit_of p low high) (held m))
        (areas_edges (Aligned p) (Low p) (limit_of p low high) (held m) held_solid
        (every_map (Edged (Low p) (Aligned p)) span (those (wants (number_of Free) false) (held m))
        (each_held (wants (number_of Free) false) (λ e. Low p e.start × Aligned p e.end)
        (λ j h. (((made.each j h).from, omega (arith, (made.each j h).some, (made.each j h).low)), (made.each j h).to))))
        (each_held (wants (number_of Free) true) (CutTo (Aligned p) (Low p) (limit_of p low high))
        (λ j h. (max_of (Aligned p) _ _ (made.each j h).from (up_aligned p _ g), (min_of (Aligned p) _ _ (made.each j h).to (down_aligned p _), omega (arith, (made.each j h).low))))))

    -- what demand 3 asks of a table
    pub areas_of_shape : Page p → Shape p (areas_of p low high m)
    areas_of_shape g = record { ascend = areas_of_ascends; pages = every_member (WholePages p) (areas_of p low high m) (areas_of_pages g) }
