-- The listings, counted as a loop over the held entries counts: what is left from index i on. Assumes nothing.
use Rattle.std.specs.Prelude.{Some, None}
use mathlib.Core.Path.{◌≡◌, refl, ap, sym, ◌∙◌}
use mathlib.Core.Bool.{Bool, true, false, cond}
use mathlib.Core.List.{List, [], ◌∷◌}
use Prim.Native.Nat.{ℕ, zero, suc, ◌+◌, ◌<◌, ◌≤◌}
use native.Mathlib.Omega.{arith}
use native.Mathlib.Numerals.{add-one}
use lib.ListN.{length, get_or, take, drop, drop_of_length-le}
use Rattle.std.proofs.lemmas.List.{length-take-le}
use lib.Seq.{drop-cons}
use Rattle.entry.specs.declared.MemoryEntry.{MemoryEntry}
use Rattle.memory.specs.declared.MemoryMap.{MemoryMap}
use Rattle.memory.specs.Map.{Slots, vacant, at, put}
use Rattle.memory.specs.Made.{Made}
use Rattle.listing.specs.Listing.{entries_from, held, those, laid, first}

-- the entries of slots, as a part of the list that they are
pub entries_part : (l : Slots) (n i : ℕ) → i + n ≤ length l → entries_from l n i ≡ take n (drop i l)
unfolding entries_from at
entries_part l zero i h = refl
entries_part l (suc n) i h =
    rw (drop-cons l i vacant (omega arith), ← add-one i)
    (ap (λ (es : List MemoryEntry). get_or l i vacant ∷ es) (entries_part l n (i + 1) (omega arith)))

pub held_take : {p : ℕ} {m : MemoryMap} → Made p m → held m ≡ take m.size m.entries
held_take {m = m} made = entries_part m.entries m.size 0 (omega (arith, made.room, made.slots))

pub held_few : {p : ℕ} {m : MemoryMap} → Made p m → length (take m.size m.entries) ≤ 512
held_few {m = m} made = omega (arith, made.room, length-take-le m.size m.entries (omega (arith, made.room, made.slots)))

-- a fact of those that pass of e ∷ es, from the test's two ways
pub those_ways : (t : MemoryEntry → Bool) (e : MemoryEntry) (es : List MemoryEntry) (P : List MemoryEntry → Type 0)
    → (t e ≡ true → P (e ∷ those t es)) → (t e ≡ false → P (those t es)) → P (those t (e ∷ es))
unfolding those
those_ways t e es P f g = go (t e) refl
  where
    go : (b : Bool) → t e ≡ b → P (cond b (e ∷ those t es) (those t es))
    go true h = f h
    go false h = g h

module _ (t : MemoryEntry → Bool) (es : List MemoryEntry) (i : ℕ) where
  pub those_done : length es ≤ i → those t (drop i es) ≡ []
  unfolding those
  those_done h = rw (drop_of_length-le es h)

  pub those_takes : i < length es → t (get_or es i vacant) ≡ true → those t (drop i es) ≡ get_or es i vacant ∷ those t (drop (i + 1) es)
  unfolding those
  those_takes h e = rw (drop-cons es i vacant h, e, add-one i)

  pub those_leaves : i < length es → t (get_or es i vacant) ≡ false → those t (drop i es) ≡ those t (drop (i + 1) es)
  unfolding those
  those_leaves h e = rw (drop-cons es i vacant h, e, add-one i)

  pub first_done : length es ≤ i → first t (drop i es) ≡ None
  unfolding first
  first_done h = rw (drop_of_length-le es h)

  pub first_takes : i < length es → t (get_or es i vacant) ≡ true → first t (drop i es) ≡ Some (get_or es i vacant)
  unfolding first
  first_takes h e = rw (drop-cons es i vacant h, e)

  pub first_leaves : i < length es → t (get_or es i vacant) ≡ false → first t (drop i es) ≡ first t (drop (i + 1) es)
  unfolding first
  first_leaves h e = rw (drop-cons es i vacant h, e, add-one i)

laid_cons : (l : Slots) (i : ℕ) (e : MemoryEntry) (es : List MemoryEntry) → laid l i (e ∷ es) ≡ laid (put l i e) (i + 1) es
unfolding laid
laid_cons l i e es = refl

laid_nil : (l : Slots) (i : ℕ) → laid l i [] ≡ l
unfolding laid
laid_nil l i = refl

-- picking under way: the slots o hold c entries, and what is left to go over, laid there, ends as the whole does
pub record Picking (t : MemoryEntry → Bool) (es : List MemoryEntry) (end : Slots) (total : ℕ) (o : Slots) (c i : ℕ) : Type 0 where
  pub few : c ≤ i
  pub within : i ≤ length es
  pub slots : laid o c (those t (drop i es)) ≡ end
  pub count : c + length (those t (drop i es)) ≡ total

module _ (t : MemoryEntry → Bool) (es : List MemoryEntry) where
  pub picking_begins : (o : Slots) → Picking t es (laid o 0 (those t es)) (length (those t es)) o 0 0
  picking_begins o = record { few = omega arith; within = omega arith; slots = refl; count = omega arith }

  module _ {end : Slots} {total : ℕ} {o : Slots} {c i : ℕ} (g : Picking t es end total o c i) where
    pub picking_takes : i < length es → t (get_or es i vacant) ≡ true → Picking t es end total (put o c (get_or es i vacant)) (c + 1) (i + 1)
    picking_takes h e =
        let q = those_takes t es i h e in
        record {
          few = omega (arith, g.few);
          within = omega arith;
          slots = sym (laid_cons o c (get_or es i vacant) _) ∙ rw (← q) g.slots;
          count = omega (arith, ap length q, g.count);
        }

    pub picking_leaves : i < length es → t (get_or es i vacant) ≡ false → Picking t es end total o c (i + 1)
    picking_leaves h e =
        let q = those_leaves t es i h e in
        record { few = omega (arith, g.few); within = omega arith; slots = rw (← q) g.slots; count = rw (← q) g.count }

    pub picking_ends : length es ≤ i → (end ≡ o) × (total ≡ c)
    picking_ends h =
        let q = those_done t es i h in
        (sym g.slots ∙ rw (q, laid_nil), omega (arith, ap length q, g.count))
