-- The entries of some slots that pass a test: what each has, that they are apart, and which addresses they have. Assumes nothing.
use mathlib.Core.Path.{◌≡◌, refl, ap}
use mathlib.Core.List.{List, ◌∷◌, map}
use mathlib.Core.Bool.{Bool, true, false, true≢false}
use mathlib.Core.Logic.{inl, inr, ⊎_elim, ◌↔◌}
use Prim.Native.Nat.{ℕ, zero, suc, ◌+◌, ◌≤◌, ◌<◌}
use native.Mathlib.Omega.{arith}
use lib.ListN.{length}
use Rattle.entry.specs.declared.MemoryEntry.{MemoryEntry}
use Rattle.entry.specs.Entry.{Has}
use Rattle.memory.specs.Map.{Slots, at}
use Rattle.listing.specs.Listing.{entries_from, those}
use Rattle.listing.proofs.ListingLaws.{those_ways}
use Rattle.areas.specs.Interval.{Inside, Listed}
use Rattle.areas.specs.Areas.{span}
use Rattle.areas.proofs.Lists.{Every, every_map, le_or_lt}
use Rattle.areas.proofs.SortLaws.{Off, Apart}

module _ (t : MemoryEntry → Bool) (e : MemoryEntry) (es : List MemoryEntry) where
  pub those_takes : t e ≡ true → those t (e ∷ es) ≡ e ∷ those t es
  unfolding those
  those_takes h = rw h

  pub those_skips : t e ≡ false → those t (e ∷ es) ≡ those t es
  unfolding those
  those_skips h = rw h

pub entries_length : (l : Slots) (n i : ℕ) → length (entries_from l n i) ≡ n
unfolding entries_from
entries_length l zero i = refl
entries_length l (suc n) i = ap suc (entries_length l n (i + 1))

module _ (t : MemoryEntry → Bool) (l : Slots) where
  -- what every slot has whose entry passes
  pub every_those : (P : MemoryEntry → Type 0) (n i : ℕ) → ((j : ℕ) → i ≤ j → j < i + n → t (at l j) ≡ true → P (at l j))
      → Every P (those t (entries_from l n i))
  unfolding those entries_from
  every_those P zero i f = tt
  every_those P (suc n) i f =
      let more : Every P (those t (entries_from l n (i + 1))) = every_those P n (i + 1) (λ j a b h. f j (omega arith) (omega arith) h) in
      those_ways t (at l i) (entries_from l n (i + 1)) (Every P) (λ h. (f i (omega arith) (omega arith) h, more)) (λ h. more)

  -- no two that pass touch
  pub those_apart : (n i : ℕ) → ((j : ℕ) → j < i + n → (at l j).start < (at l j).end)
      → ((a b : ℕ) → a < i + n → b < i + n → (a ≡ b → ⊥) → t (at l a) ≡ true → t (at l b) ≡ true → Off (span (at l a)) (span (at l b)))
      → Apart (map span (those t (entries_from l n i)))
  unfolding those entries_from
  those_apart zero i some off = tt
  those_apart (suc n) i some off =
      let more : Apart (map span (those t (entries_from l n (i + 1)))) =
      those_apart n (i + 1) (λ j h. some j (omega arith)) (λ a b p q ne s u. off a b (omega arith) (omega arith) ne s u) in
      those_ways t (at l i) (entries_from l n (i + 1)) (λ m. Apart (map span m))
      (λ h. (
        some i (omega arith),
        every_map (Off (span (at l i))) span (those t (entries_from l n (i + 1))) (every_those (λ e. Off (span (at l i)) (span e)) n (i + 1)
            (λ j p q u. off i j (omega arith) (omega arith) (λ e. omega arith) h u)),
        more,
      ))
      (λ h. more)

  -- the address x lies in the entry of a slot that passes
  pub record Passes (x n i : ℕ) : Type 0 where
    pub slot : ℕ
    pub from : i ≤ slot
    pub to : slot < i + n
    pub test : t (at l slot) ≡ true
    pub has : Has x (at l slot)

  later : (x n i : ℕ) → Passes x n (i + 1) → Passes x (suc n) i
  later x n i s = record { slot = s.slot; from = omega arith; to = omega arith; test = s.test; has = s.has }

  pub those_listed : (x n i : ℕ) → Listed x (map span (those t (entries_from l n i))) ↔ Passes x n i
  unfolding those entries_from
  those_listed x zero i = (λ h. absurd h, λ s. absurd (omega arith))
  those_listed x (suc n) i =
      let more = those_listed x n (i + 1) in
      those_ways t (at l i) (entries_from l n (i + 1)) (λ m. Listed x (map span m) ↔ Passes x (suc n) i)
      (λ h. (
        ⊎_elim
            (λ (k : Inside x (span (at l i))). record { slot = i; from = omega arith; to = omega arith; test = h; has = record { from = k.0; to = k.1 } })
            (λ k. later x n i (more.0 k)),
        λ s. ⊎_elim
            (λ (g : s.slot ≤ i). inl (here s g)) (λ (g : i < s.slot). inr (more.1 (after s g))) (le_or_lt s.slot i),
      ))
      (λ h. (
        λ k. later x n i (more.0 k),
        λ s. ⊎_elim
            (λ (g : s.slot ≤ i). absurd (misses s g h)) (λ (g : i < s.slot). more.1 (after s g)) (le_or_lt s.slot i),
      ))
    where
      here : (s : Passes x (suc n) i) → s.slot ≤ i → Inside x (span (at l i))
      here s g =
          let e : s.slot ≡ i = omega arith in
          let h : Has x (at l i) = rw e at s.has in
          (h.from, h.to)

      misses : (s : Passes x (suc n) i) → s.slot ≤ i → t (at l i) ≡ false → ⊥
      misses s g h = let e : s.slot ≡ i = omega arith in let f : t (at l i) ≡ true = rw e at s.test in let z : true ≡ false = cc in true≢false z

      after : (s : Passes x (suc n) i) → i < s.slot → Passes x n (i + 1)
      after s g = record { slot = s.slot; from = omega arith; to = omega arith; test = s.test; has = s.has }
