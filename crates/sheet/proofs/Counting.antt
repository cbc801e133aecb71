-- The loop of `free_pages`: the pages counted so far, with those of the entries still to come, are the Free pages of them all.
-- Each entry has 2 ^ 52 pages at most, so that the count of 512 fits. Assumes nothing.
use Rattle.std.specs.Prelude.{Option, Some, None, ℕ}
use mathlib.Core.Path.{◌≡◌}
use mathlib.Core.List.{List}
use mathlib.Core.Bool.{true}
use Prim.Native.Nat.{ℕ, suc, ◌+◌, ◌-◌, ◌*◌, ◌/◌, ◌^◌, ◌≤◌, ◌<◌}
use native.Mathlib.Nat.{suc-mul, mul-le-mul_left, div-lt_iff_lt-mul}
use native.Mathlib.Omega.{arith}
use lib.ListN.{length, get_or, drop}
use borrow.Author.Tests.{eq-eqb, ne_eqb}
use Rattle.entry.specs.declared.MemoryEntry.{MemoryEntry}
use Rattle.entry.specs.Entry.{overlap, meet}
use Rattle.entry.proofs.EntryLaws.{Meets, some, none, meets}
use Rattle.memory.specs.declared.MemoryMap.{MemoryMap}
use Rattle.memory.specs.Map.{vacant}
use Rattle.listing.specs.Listing.{held, wants}
use Rattle.listing.proofs.ListingLaws.{those_done, those_takes, those_leaves}
use Rattle.areas.specs.Areas.{limit_of, free_of}
use Rattle.sheet.specs.Sheet.{pages_of, free_in, free_pages}

-- what an entry and the limits share is nonempty
pub meet_some : (a b c : MemoryEntry) → Some c ≡ meet a b → c.start < c.end
meet_some a b c e = go (meet a b) (meets a b) e
  where
    go : (r : Option MemoryEntry) → Meets a b r → Some c ≡ r → c.start < c.end
    go r (some h) f = let same : c ≡ overlap a b = cc in rw same h
    go r (none h) f = absurd (let z : ◌≡◌ {A = ℕ} 0 1 = cc in omega arith)

-- no range has more pages, where a page has 4,096 bytes or more
pub pages_few : (p : ℕ) → 4096 ≤ p → (from to : ℕ) → to < 2 ^ 64 → (to - from) / p ≤ 2 ^ 52
pages_few p large from to h =
    let all : 2 ^ 52 * 4096 ≤ 2 ^ 52 * p = mul-le-mul_left (2 ^ 52) large in
    let few : (to - from) / p < suc (2 ^ 52) = (div-lt_iff_lt-mul {k = p} (omega arith)).1 (rw suc-mul (omega arith)) in
    omega arith

-- the Free pages of the entries from index i on
pub togo : ℕ → MemoryEntry → List MemoryEntry → ℕ → ℕ
togo p limits es i = free_in p limits (free_of (drop i es))

pub record Counting (p : ℕ) (limits : MemoryEntry) (es : List MemoryEntry) (pages i : ℕ) : Type 0 where
  pub slot : i ≤ length es
  pub few : pages ≤ i * 2 ^ 52
  pub sum : pages + togo p limits es i ≡ free_in p limits (free_of es)

pub begins : (p : ℕ) (limits : MemoryEntry) (es : List MemoryEntry) → Counting p limits es 0 0
unfolding togo
begins p limits es = record { slot = omega arith; few = omega arith; sum = omega arith }

module _ {p : ℕ} {limits : MemoryEntry} {es : List MemoryEntry} {pages i : ℕ} (inv : Counting p limits es pages i) where
  none_left : length es ≤ i → togo p limits es i ≡ 0
  unfolding togo free_in
  none_left h = rw (those_done (wants 1 true) es i h)

  -- after the last entry
  pub ends : length es ≤ i → pages ≡ free_in p limits (free_of es)
  ends h = omega (arith, none_left h, inv.sum)

  module _ (lt : i < length es) where
    -- where the entry at i has so many pages to count
    step : {pages' : ℕ} (more : ℕ) → togo p limits es i ≡ more + togo p limits es (i + 1) → more ≤ 2 ^ 52 → pages' ≡ pages + more
        → Counting p limits es pages' (i + 1)
    step more eq h e = record { slot = omega arith; few = omega (arith, inv.few); sum = omega (arith, inv.sum) }

    -- an entry that is not Free
    pub passes : {pages' : ℕ} → ((get_or es i vacant).kind ≡ 1 → ⊥) → pages' ≡ pages → Counting p limits es pages' (i + 1)
    unfolding togo
    passes f e = step 0 (rw (those_leaves (wants 1 true) es i lt (ne_eqb (get_or es i vacant).kind 1 f)) (omega arith)) (omega arith) (omega arith)

    module _ (f : (get_or es i vacant).kind ≡ 1) where
      takes : (r : Option MemoryEntry) → r ≡ meet (get_or es i vacant) limits → togo p limits es i ≡ pages_of p r + togo p limits es (i + 1)
      unfolding togo free_in
      takes r is = rw (those_takes (wants 1 true) es i lt (eq-eqb (get_or es i vacant).kind 1 f), ← is)

      -- a Free entry outside the limits
      pub misses : {pages' : ℕ} → None ≡ meet (get_or es i vacant) limits → pages' ≡ pages → Counting p limits es pages' (i + 1)
      misses is e = step 0 (takes None is) (omega arith) (omega arith)

      -- a Free entry, cut to the limits
      pub adds : {pages' : ℕ} (part : MemoryEntry) → Some part ≡ meet (get_or es i vacant) limits → (part.end - part.start) / p ≤ 2 ^ 52
          → pages' ≡ pages + (part.end - part.start) / p → Counting p limits es pages' (i + 1)
      adds part is h e = step ((part.end - part.start) / p) (takes (Some part) is) h e

-- the map's own
pub counted_all : {p : ℕ} (m : MemoryMap) (low high : Option ℕ) {limits : MemoryEntry} → limits ≡ limit_of p low high → {pages i : ℕ}
    → Counting p limits (held m) pages i → length (held m) ≤ i → pages ≡ free_pages p low high m
unfolding free_pages
counted_all m low high is inv h = rw (← is) (ends inv h)
