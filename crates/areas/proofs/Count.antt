-- There are at most as many areas as entries: each area starts where a Free entry, cut to the limits, starts, or where another entry ends,
-- and no two start alike. Assumes nothing.
use mathlib.Core.Path.{◌≡◌, refl}
use mathlib.Core.List.Memᴰ
use mathlib.Core.List.{List, [], ◌∷◌, ◌++◌, map, Memᴰ}
use mathlib.Core.Bool.{Bool, true, false, cond, not}
use mathlib.Core.Logic.{⊎_elim}
use Prim.Native.Nat.{ℕ, suc, ◌+◌, ◌≤◌, ◌<◌}
use native.Mathlib.Omega.{arith}
use native.Mathlib.Nat.{le_refl}
use lib.Dec.{leb, eqb}
use lib.ListN.{length, length-append, length-map}
use borrow.Author.Tests.{le-leb, lt-leb, leb-true, leb-false}
use Rattle.entry.specs.declared.MemoryEntry.{MemoryEntry}
use Rattle.entry.specs.Entry.{overlap}
use Rattle.listing.specs.Listing.{those, wants}
use Rattle.areas.specs.declared.Interval.{Interval}
use Rattle.areas.specs.Interval.{Above}
use Rattle.areas.specs.Areas.{span, free_of, busy_of, pieces, sort, areas_in}
use Rattle.areas.specs.Steps.{Solid}
use Rattle.areas.proofs.Lists.{Every, every_weaker}
use Rattle.areas.proofs.SortLaws.{Apart, sort_length, sort_every, sort_ascends}
use Rattle.areas.proofs.AreasLaws.{Sound, pieces_apart}
use Rattle.areas.proofs.Edges.{Edged, CutTo, pieces_edges}

-- how many numbers of the list are a or more
count : ℕ → List ℕ → ℕ
count a [] = 0
count a (b ∷ l) = cond (leb a b) 1 0 + count a l

count_length : (a : ℕ) (l : List ℕ) → count a l ≤ length l
unfolding count
count_length a [] = le_refl 0
count_length a (b ∷ l) = go (leb a b) (count_length a l)
  where
    go : (t : Bool) → count a l ≤ length l → cond t 1 0 + count a l ≤ suc (length l)
    go true h = omega arith
    go false h = omega arith

-- past c there are no more than past a
count_fewer : (a c : ℕ) (l : List ℕ) → a ≤ c → count c l ≤ count a l
unfolding count
count_fewer a c [] h = le_refl 0
count_fewer a c (b ∷ l) h = go (leb a b) (leb c b) refl refl (count_fewer a c l h)
  where
    go : (t u : Bool) → leb a b ≡ t → leb c b ≡ u → count c l ≤ count a l → cond u 1 0 + count c l ≤ cond t 1 0 + count a l
    go true true e f k = omega arith
    go true false e f k = omega arith
    go false true e f k = absurd (omega (arith, leb-false a b e, leb-true c b f))
    go false false e f k = omega arith

-- and at least one fewer, where a number of the list lies between
count_step : (a b c : ℕ) (l : List ℕ) → a ≤ b → b < c → Memᴰ b l → suc (count c l) ≤ count a l
unfolding count
count_step a b c [] h k m = absurd (Memᴰ.not-nil m)
count_step a b c (d ∷ l) h k m = ⊎_elim here (λ i. there (leb a d) (leb c d) refl refl (count_step a b c l h k i)) (Memᴰ.cases_cons m)
  where
    here : b ≡ d → suc (cond (leb c d) 1 0 + count c l) ≤ cond (leb a d) 1 0 + count a l
    here e = simp (le-leb a d (omega arith), lt-leb c d (omega arith)) (omega (arith, count_fewer a c l (omega arith)))

    there : (t u : Bool) → leb a d ≡ t → leb c d ≡ u → suc (count c l) ≤ count a l → suc (cond u 1 0 + count c l) ≤ cond t 1 0 + count a l
    there true true e f ih = omega arith
    there true false e f ih = omega arith
    there false true e f ih = absurd (omega (arith, leb-false a d e, leb-true c d f))
    there false false e f ih = omega arith

-- a number that stands in the list B
abbrev Of : List ℕ → ℕ → Type 0
Of B a = Memᴰ a B

abbrev Any : ℕ → Type 0
Any a = Unit {0}

-- an ascending list has no more intervals than there are numbers at which they start
above_count : (B : List ℕ) (l : List Interval) (a : ℕ) → Above a l → Every (Edged (Of B) Any) l → length l ≤ count a B
above_count B [] a h s = omega arith
above_count B (r ∷ l) a h s = omega (arith, count_step a r.lo (suc r.hi) B h.0 (omega arith) s.0.0, above_count B l (suc r.hi) h.2 s.1)

-- what holds of the numbers that a list gives, holds of what gives them
every_given : {A : Type 0} (P : ℕ → Type 0) (g : A → ℕ) (l : List A) → ((b : ℕ) → Of (map g l) b → P b) → Every (λ a. P (g a)) l
every_given P g [] f = tt
every_given P g (a ∷ l) f = (f (g a) (Memᴰ.head refl), every_given P g l (λ b m. f b (Memᴰ.tail m)))

-- where areas may start
starts : MemoryEntry → List Interval → List MemoryEntry → List ℕ
starts limits busy fs = map (λ f. (overlap f limits).start) fs ++ map (λ r. r.hi) busy

pub pieces_count : (limits : MemoryEntry) (busy : List Interval) (fs : List MemoryEntry) → Solid busy → Apart (map span fs)
    → length (pieces limits busy fs) ≤ length fs + length busy
unfolding starts
pieces_count limits busy fs solid apart =
    let l = pieces limits busy fs in
    let P = Of (starts limits busy fs) in
    let cuts : Every (CutTo P Any limits) fs =
    every_weaker (λ f. P (overlap f limits).start) (CutTo P Any limits) (λ f h. (h, tt)) fs
    (every_given P (λ f. (overlap f limits).start) fs (λ b m. Memᴰ.append_left (map (λ r. r.hi) busy) m)) in
    let ends : Every (Edged Any P) busy =
    every_weaker (λ r. P r.hi) (Edged Any P) (λ r h. (tt, h)) busy
    (every_given P (λ r. r.hi) busy (λ b m. Memᴰ.append_right (map (λ f. (overlap f limits).start) fs) m)) in
    omega (
      arith,
      sort_length l,
      above_count (starts limits busy fs) (sort l) 0 (sort_ascends l (pieces_apart limits busy solid fs apart)) (sort_every (Edged P Any) l (pieces_edges P Any busy solid ends limits fs cuts)),
      count_length 0 (starts limits busy fs),
      length-append (map (λ f. (overlap f limits).start) fs) (map (λ r. r.hi) busy),
      length-map fs (λ f. (overlap f limits).start),
      length-map busy (λ r. r.hi),
    )

-- an entry is Free or not
both_count : (es : List MemoryEntry) → length (free_of es) + length (busy_of es) ≡ length es
unfolding those
both_count [] = refl
both_count (e ∷ es) = go (eqb e.kind 1) (both_count es)
  where
    others : List MemoryEntry
    others = those (wants 1 false) es

    go : (t : Bool) → length (free_of es) + length (busy_of es) ≡ length es
        → length (cond t (e ∷ free_of es) (free_of es)) + length (map span (cond (not t) (e ∷ others) others)) ≡ suc (length es)
    go true h = omega arith
    go false h = omega arith

-- there are no more pieces than entries
pub pieces_few : (limits : MemoryEntry) (es : List MemoryEntry) → Sound es → length (pieces limits (busy_of es) (free_of es)) ≤ length es
pieces_few limits es g = omega (arith, pieces_count limits (busy_of es) (free_of es) g.solid g.apart, both_count es)

pub areas_few : (limits : MemoryEntry) (es : List MemoryEntry) → Sound es → length (areas_in limits es) ≤ length es
unfolding areas_in
areas_few limits es g = omega (arith, sort_length (pieces limits (busy_of es) (free_of es)), pieces_few limits es g)
