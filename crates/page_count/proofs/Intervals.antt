-- The pages of intervals, counted: of one interval of whole pages, of a list of them that never overlap, and of entries cut to limits.
-- Assumes nothing.
use Rattle.std.specs.Prelude.{Option}
use mathlib.Core.Path.{◌≡◌, refl, sym, ◌∙◌}
use mathlib.Core.List.{List, [], ◌∷◌, map}
use mathlib.Core.Bool.{Bool, true, false, ◌&&◌, ◌||◌}
use mathlib.Core.Logic.{inl, inr, ⊎_elim}
use Prim.Native.Nat.{ℕ, suc, ◌+◌, ◌-◌, ◌*◌, ◌/◌, ◌^◌, ◌≤◌, ◌<◌}
use native.Mathlib.Omega.{arith}
use native.Mathlib.Nat.{div-add-mod', le_of_mul-le-mul_right}
use lib.Dec.{leb, ltb}
use Rattle.page.specs.Round.{top, Aligned, Page}
use Rattle.page.proofs.Laws.{min_of, max_of}
use Rattle.entry.specs.declared.MemoryEntry.{MemoryEntry}
use Rattle.entry.specs.Entry.{overlap, meet}
use Rattle.entry.proofs.EntryLaws.{Meets, some, none, meets}
use Rattle.memory.specs.Made.{Good}
use Rattle.areas.specs.declared.Interval.{Interval}
use Rattle.areas.specs.Interval.{Inside, Listed, Above}
use Rattle.areas.specs.Areas.{span}
use Rattle.areas.proofs.Lists.{Every}
use Rattle.areas.proofs.SortLaws.{Off, Apart}
use Rattle.areas.specs.Shape.{WholePages}
use Rattle.sheet.specs.Sheet.{pages_in, pages_of, free_in, usable_in}
use Rattle.page_count.specs.Pages.{count_to}
use Rattle.page_count.proofs.Reading.{Reads, same, false_true, and_reads, or_reads, leb_reads, ltb_reads}
use Rattle.page_count.proofs.Counting.{count_same, count_none, count_or, stretch}

-- the address x lies in the interval, and in one of the list, as tests
abbrev pub inside : ℕ → Interval → Bool
inside x r = leb r.lo x && ltb x r.hi

unfoldable pub listed : ℕ → List Interval → Bool
listed x [] = false
listed x (r ∷ l) = inside x r || listed x l

pub inside_reads : (x : ℕ) (r : Interval) → Reads (inside x r) (Inside x r)
inside_reads x r = and_reads (leb r.lo x) (ltb x r.hi) (leb_reads r.lo x) (ltb_reads x r.hi)

pub listed_reads : (x : ℕ) (l : List Interval) → Reads (listed x l) (Listed x l)
unfolding listed
listed_reads x [] = (λ e. false_true e, λ i. absurd i)
listed_reads x (r ∷ l) = or_reads (inside x r) (listed x l) (inside_reads x r) (listed_reads x l)

-- ── Cut to limits ──
module _ (p : ℕ) (limits : MemoryEntry) where
  -- page i lies in the limits and in the interval, or in one of the list
  abbrev pub cut_inside : Interval → ℕ → Bool
  cut_inside r i = inside (i * p) (span limits) && inside (i * p) r

  abbrev pub cut_listed : List Interval → ℕ → Bool
  cut_listed l i = inside (i * p) (span limits) && listed (i * p) l

  cut_reads : (r : Interval) (i : ℕ) → Reads (cut_inside r i) (Inside (i * p) (span limits) × Inside (i * p) r)
  cut_reads r i = and_reads (inside (i * p) (span limits)) (inside (i * p) r) (inside_reads (i * p) (span limits)) (inside_reads (i * p) r)

  pub cuts_reads : (l : List Interval) (i : ℕ) → Reads (cut_listed l i) (Inside (i * p) (span limits) × Listed (i * p) l)
  cuts_reads l i = and_reads (inside (i * p) (span limits)) (listed (i * p) l) (inside_reads (i * p) (span limits)) (listed_reads (i * p) l)

-- ── Never in two ──
-- what lies in a list that ascends from a on is a or above
above_listed : (l : List Interval) (a x : ℕ) → Above a l → Listed x l → a ≤ x
above_listed [] a x h i = absurd i
above_listed (r ∷ l) a x h (inl i) = omega arith
above_listed (r ∷ l) a x h (inr i) = omega (arith, above_listed l (suc r.hi) x h.2 i)

-- what lies in an interval is in none that is apart from it
off_listed : (r : Interval) (l : List Interval) (x : ℕ) → Every (Off r) l → Inside x r → Listed x l → ⊥
off_listed r [] x h i j = j
off_listed r (q ∷ l) x h i (inl j) = ⊎_elim (λ (o : r.hi < q.lo). omega arith) (λ (o : q.hi < r.lo). omega arith) h.0
off_listed r (q ∷ l) x h i (inr j) = off_listed r l x h.1 i j

-- a test on both sides of `||`, taken out
and_or : (b c d : Bool) → ((b && c) || (b && d)) ≡ (b && (c || d))
and_or true c d = refl
and_or false c d = refl

-- ── One interval ──
module _ (p n : ℕ) (g : Page p) (all : 2 ^ 64 ≤ n * p) where
  -- [lo, hi) of whole pages, by the number of the page at each end
  by_number : (lo hi a b : ℕ) → lo ≡ a * p → hi ≡ b * p → lo ≤ hi → hi ≤ n * p
      → (hi - lo) / p ≡ count_to n (λ i. leb lo (i * p) && ltb (i * p) hi)
  by_number lo hi a b d e le h =
      let u : a * p ≤ b * p = omega arith in
      let v : a ≤ b = le_of_mul-le-mul_right u g.pos in
      let w : b ≡ a + (b - a) = omega arith in
      let z : hi ≡ (a + (b - a)) * p = rw (← w) e in
      rw (z, d) (stretch p a (b - a) g.pos n (omega arith))

  one_counted : (r : Interval) → WholePages p r → r.lo ≤ r.hi → pages_in p r.lo r.hi ≡ count_to n (λ i. inside (i * p) r)
  unfolding top
  one_counted r w le =
      by_number r.lo r.hi (r.lo / p) (r.hi / p)
      (omega (arith, div-add-mod' r.lo p, w.from)) (omega (arith, div-add-mod' r.hi p, w.to)) le (omega (arith, w.low))

  -- ── A list of intervals that ascend ──
  pub list_counted : (l : List Interval) (a : ℕ) → Above a l → Every (WholePages p) l → usable_in p l ≡ count_to n (λ i. listed (i * p) l)
  unfolding usable_in listed
  list_counted [] a h w = sym (count_none n (λ i. false) (λ i e. false_true e))
  list_counted (r ∷ l) a h w =
      let one = one_counted r w.0 (omega arith) in
      let more = list_counted l (suc r.hi) h.2 w.1 in
      rw (one, more) (count_or n (λ i. inside (i * p) r) (λ i. listed (i * p) l) (λ i s t.
      let x = (inside_reads (i * p) r).0 s in
      let y = above_listed l (suc r.hi) (i * p) h.2 ((listed_reads (i * p) l).0 t) in
      omega arith))

  -- ── Entries cut to limits ──
  module _ (limits : MemoryEntry) (from : Aligned p limits.start) (to : Aligned p limits.end) where
    cut_counted : (f : MemoryEntry) → Good p f → pages_of p (meet f limits) ≡ count_to n (cut_inside p limits (span f))
    unfolding overlap
    cut_counted f w = go (meet f limits) (meets f limits)
      where
        go : (m : Option MemoryEntry) → Meets f limits m → pages_of p m ≡ count_to n (cut_inside p limits (span f))
        go m (some h) =
            let c : Interval = span (overlap f limits) in
            one_counted c
            (record { from = max_of (Aligned p) _ _ w.from from; to = min_of (Aligned p) _ _ w.to to; low = omega (arith, w.low) })
            (omega arith)
            ∙ count_same n (λ i. inside (i * p) c) (cut_inside p limits (span f)) (λ i.
            same (inside (i * p) c) (cut_inside p limits (span f) i) (inside_reads (i * p) c) (cut_reads p limits (span f) i) (
              λ x. ((omega arith, omega arith), (omega arith, omega arith)),
              λ x. (omega arith, omega arith),
            ))
        go m (none h) = sym (count_none n (cut_inside p limits (span f)) (λ i e. let x = (cut_reads p limits (span f) i).0 e in omega arith))

    pub cuts_counted : (fs : List MemoryEntry) → Every (Good p) fs → Apart (map span fs) → free_in p limits fs ≡ count_to n (cut_listed p limits (map span fs))
    unfolding free_in listed
    cuts_counted [] w h = sym (count_none n (cut_listed p limits []) (λ i e. ((cuts_reads p limits [] i).0 e).1))
    cuts_counted (f ∷ fs) w h =
        let one = cut_counted f w.0 in
        let more = cuts_counted fs w.1 h.2 in
        let both = count_or n (cut_inside p limits (span f)) (cut_listed p limits (map span fs)) (λ i s t.
        off_listed (span f) (map span fs) (i * p) h.1 ((cut_reads p limits (span f) i).0 s).1
        ((cuts_reads p limits (map span fs) i).0 t).1) in
        rw (one, more) (both ∙ count_same n (λ i. cut_inside p limits (span f) i || cut_listed p limits (map span fs) i) (cut_listed p limits (span f ∷ map span fs))
        (λ i. and_or (inside (i * p) (span limits)) (inside (i * p) (span f)) (listed (i * p) (map span fs))))
