-- The page sheet of an order file: its counts from the registrations page by page, both below 2^52, and its share. Assumes nothing.
use Rattle.std.specs.Prelude.{Option, Some, None, ℕ}
use mathlib.Core.Path.{◌≡◌, refl, ◌∙◌}
use mathlib.Core.Bool.{Bool, true, false, cond, ◌&&◌}
use mathlib.Core.List.{List, map}
use Prim.Native.Nat.{ℕ, zero, suc, ◌+◌, ◌-◌, ◌*◌, ◌^◌, ◌≤◌, ◌<◌, min}
use native.Mathlib.Nat.{zero-mul, suc-mul, lt_of_mul-lt-mul_right, mul-le-mul_left, le_trans}
use native.Mathlib.Omega.{arith}
use lib.Dec.{lit≤}
use lib.Ieee.{Float, binary64}
use Rattle.page.specs.Round.{top, Page}
use Rattle.page.proofs.Laws.{up_aligned, down_aligned}
use Rattle.entry.specs.declared.MemoryEntry.{MemoryEntry}
use Rattle.entry.specs.declared.BootloaderMemoryKind.TheVariants.{Free}
use Rattle.entry.specs.Kind.{number_of}
use Rattle.memory.specs.declared.MemoryMap.{MemoryMap}
use Rattle.memory.specs.Map.{slots_of}
use Rattle.memory.specs.Made.{Made, Good}
use Rattle.listing.specs.Listing.{held, wants}
use Rattle.areas.specs.declared.Interval.{Interval}
use Rattle.areas.specs.Areas.{limit_of, span, free_of, areas_of}
use Rattle.areas.proofs.Lists.{Every}
use Rattle.areas.proofs.Those.{every_those}
use Rattle.areas.proofs.MadeLaws.{held_sound, free_lies, areas_of_ascends, areas_of_listed, areas_of_pages}
use Rattle.demand3.specs.Rule.{map_after}
use Rattle.demand3.proofs.Demand.{after_made}
use Rattle.sheet.specs.declared.PageSheet.{PageSheet}
use Rattle.sheet.specs.Share.{share_of}
use Rattle.sheet.specs.Sheet.{free_pages, usable_in, sheet_of, map_sheet}
use Rattle.sheet.specs.Nearest.{plus_zero, Nearest}
use Rattle.sheet.proofs.ShareLaws.{share_none, share_zero, share_near}
use Rattle.page_count.specs.Pages.{count_to, free_at, taken_at}
use Rattle.page_count.proofs.Intervals.{listed, listed_reads, cut_listed, cuts_reads, list_counted, cuts_counted}
use Rattle.page_count.proofs.PageCount.{free_counted, usable_and_taken}
use Rattle.order.specs.Layout.{order_in}
use Rattle.startup.specs.Report.{report_of, reported}
use Rattle.order_theorems.specs.Rows.{file_claims, file_areas}
use Rattle.order_theorems.proofs.Rows.{done_exactly, done_accepted}

-- ── Counting ──
-- what only numbers below k pass, at most k pass
count_few : (n k : ℕ) (f : ℕ → Bool) → ((i : ℕ) → f i ≡ true → i < k) → count_to n f ≤ min n k
unfolding count_to
count_few zero k f h = omega arith
count_few (suc n) k f h = go (count_few n k f h) (f n) refl
  where
    go : count_to n f ≤ min n k → (b : Bool) → f n ≡ b → cond b (suc (count_to n f)) (count_to n f) ≤ min (suc n) k
    go more true e = let lt : n < k = h n e in omega arith
    go more false e = omega arith

-- what passes the one test passes the other
count_more : (n : ℕ) (f t : ℕ → Bool) → ((i : ℕ) → f i ≡ true → t i ≡ true) → count_to n f ≤ count_to n t
unfolding count_to
count_more zero f t h = omega arith
count_more (suc n) f t h = go (count_more n f t h) (f n) (t n) refl refl
  where
    go : count_to n f ≤ count_to n t → (b c : Bool) → f n ≡ b → t n ≡ c → cond b (suc (count_to n f)) (count_to n f) ≤ cond c (suc (count_to n t)) (count_to n t)
    go more true true d e = omega arith
    go more true false d e = let z : ◌≡◌ {A = ℕ} 0 1 = cc (h n d) in omega arith
    go more false true d e = omega arith
    go more false false d e = omega arith

-- ── A map ──
some_page : (n p : ℕ) → 2 ^ 64 ≤ n * p → 0 < n
some_page zero p h = absurd (omega (arith, zero-mul p))
some_page (suc n) p h = omega arith

-- n pages reach past every address
module _ {p : ℕ} {m : MemoryMap} (made : Made p m) (g : Page p) (low high : Option ℕ) (n : ℕ) (all : 2 ^ 64 ≤ n * p) where
  abbrev limits : MemoryEntry
  limits = limit_of p low high

  abbrev spans : List Interval
  spans = map span (free_of (held m))

  free_good : Every (Good p) (free_of (held m))
  free_good = every_those (wants (number_of Free) true) (slots_of m) (Good p) m.size 0 (λ j u v h. made.each j (omega arith))

  free_pages_lem : free_pages p low high m ≡ count_to n (cut_listed p limits spans)
  unfolding free_pages limit_of
  free_pages_lem = cuts_counted p n g all limits (up_aligned p _ g) (down_aligned p _) (free_of (held m)) free_good (held_sound made).apart

  usable_pages : usable_in p (areas_of p low high m) ≡ count_to n (λ i. listed (i * p) (areas_of p low high m))
  usable_pages = list_counted p n g all (areas_of p low high m) 0 (areas_of_ascends made low high) (areas_of_pages made low high g)

  -- "So the page at T is never registered.": a page of an entry is none of the last
  page_low : (i : ℕ) → cut_listed p limits spans i ≡ true → i < n - 1
  unfolding top
  page_low i e =
      let x = (free_lies m (i * p)).0 ((cuts_reads p limits spans i).0 e).1 in
      let w : suc i * p < n * p = rw (suc-mul i p) (omega (arith, x.has.to, (made.each x.slot x.held).low, g.small)) in
      let k : suc i < n = lt_of_mul-lt-mul_right p w in
      omega arith

  few_free : free_pages p low high m < n
  few_free = omega (arith, some_page n p all, free_pages_lem, count_few n (n - 1) (cut_listed p limits spans) page_low)

  usable_free : usable_in p (areas_of p low high m) ≤ free_pages p low high m
  usable_free =
      rw (usable_pages, free_pages_lem)
      (count_more n (λ i. listed (i * p) (areas_of p low high m)) (cut_listed p limits spans) (λ i e.
      let x = (areas_of_listed made low high (i * p)).0 ((listed_reads (i * p) (areas_of p low high m)).0 e) in
      (cuts_reads p limits spans i).1 ((x.1, x.2), (free_lies m (i * p)).1 x.0)))

-- pages of 4,096 bytes or more: 2^52 of them reach past every address
module _ {p : ℕ} (g : Page p) (large : 4096 ≤ p) where
  all_pages : 2 ^ 64 ≤ 2 ^ 52 * p
  all_pages = let h : 2 ^ 52 * 4096 ≤ 2 ^ 52 * p = mul-le-mul_left (2 ^ 52) large in le_trans (lit≤ tt) h

  -- "two counts below 2^52": the Free pages of a map inside the limits
  pub free_few : {m : MemoryMap} → Made p m → (low high : Option ℕ) → free_pages p low high m < 2 ^ 52
  free_few made low high = few_free made g low high (2 ^ 52) all_pages

  -- and its usable pages, which are no more
  pub usable_few : {m : MemoryMap} → Made p m → (low high : Option ℕ) → usable_in p (areas_of p low high m) < 2 ^ 52
  usable_few made low high = omega (arith, free_few made low high, usable_free made g low high (2 ^ 52) all_pages)

-- ── An order file ──
module _ (p : ℕ) (g : Page p) (s l : List ℕ) (n : ℕ) (sheet : PageSheet) (done : report_of p s l ≡ reported n sheet) where
  file_sheet_lem : sheet ≡ sheet_of (free_pages p (order_in s).low (order_in s).high (map_after p (file_claims s))) (usable_in p (file_areas p s))
  unfolding map_sheet
  file_sheet_lem = ((done_exactly p s l g n sheet).0 done).2

  -- "Usable plus the Free pages .. covers, counted from the registrations page by page, equals Free.": over N pages, past every address
  pub file_pages : (N : ℕ) → 2 ^ 64 ≤ N * p
      → (sheet.free ≡ count_to N (free_at p (order_in s).low (order_in s).high (file_claims s)))
      × (sheet.usable + count_to N (λ i. free_at p (order_in s).low (order_in s).high (file_claims s) i && taken_at p (file_claims s) i) ≡ sheet.free)
  file_pages N all =
      let a = done_accepted p s l n sheet done in
      rw file_sheet_lem (
        free_counted p (order_in s).low (order_in s).high (file_claims s) g a N all,
        usable_and_taken p (order_in s).low (order_in s).high (file_claims s) g a N all,
      )

module _ (p : ℕ) (g : Page p) (large : 4096 ≤ p) (s l : List ℕ) (n : ℕ) (sheet : PageSheet) (done : report_of p s l ≡ reported n sheet) where
  share_is : sheet.share ≡ share_of sheet.free sheet.usable
  share_is = rw (file_sheet_lem p g s l n sheet done)

  -- "two counts below 2^52"
  pub file_few : (sheet.free < 2 ^ 52) × (sheet.usable < 2 ^ 52)
  file_few =
      let made = after_made p (file_claims s) g in
      rw (file_sheet_lem p g s l n sheet done)
      (free_few g large made (order_in s).low (order_in s).high, usable_few g large made (order_in s).low (order_in s).high)

  -- "none when no page is Free, positive zero when pages are Free and none is usable", and else "one division, rounded once"
  pub file_share : (sheet.free ≡ 0 → sheet.share ≡ None)
      × (0 < sheet.free → sheet.usable ≡ 0 → sheet.share ≡ Some plus_zero)
      × (0 < sheet.usable → (x : Float) × (sheet.share ≡ Some x) × Nearest binary64 sheet.usable sheet.free x)
  file_share = (
    λ f. share_is ∙ rw f (share_none sheet.usable),
    λ f u. share_is ∙ rw u (share_zero sheet.free f file_few.0),
    λ u.
        let c = (file_pages p g s l n sheet done (2 ^ 52) (all_pages g large)).1 in
        let r = share_near sheet.free sheet.usable (omega arith) file_few.0 u file_few.1 in
        (r.0, share_is ∙ r.1, r.2),
  )
