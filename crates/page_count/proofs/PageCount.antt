-- The page sheet's counts, page by page: from the entries and areas of a map that are apart (Intervals), and from the rule of demand 3 (Claims).
-- Assumes nothing.
use Rattle.std.specs.Prelude.{Option, ℕ}
use mathlib.Core.Path.{◌≡◌, sym, ◌∙◌}
use mathlib.Core.List.{List, map}
use mathlib.Core.Bool.{true, not, ◌&&◌}
use Prim.Native.Nat.{ℕ, ◌+◌, ◌*◌, ◌^◌, ◌≤◌}
use native.Mathlib.Omega.{arith}
use Rattle.page.specs.Round.{Page}
use Rattle.page.proofs.Laws.{up_aligned, down_aligned}
use Rattle.entry.specs.declared.MemoryEntry.{MemoryEntry}
use Rattle.entry.specs.declared.BootloaderMemoryKind.TheVariants.{Free}
use Rattle.entry.specs.Kind.{number_of}
use Rattle.entry.specs.declared.Claim.{Claim}
use Rattle.memory.specs.Map.{slots_of}
use Rattle.memory.specs.Made.{Made, Good}
use Rattle.listing.specs.Listing.{held, wants}
use Rattle.areas.specs.declared.Interval.{Interval}
use Rattle.areas.specs.Areas.{limit_of, span, free_of}
use Rattle.areas.proofs.Lists.{Every}
use Rattle.areas.proofs.Those.{every_those}
use Rattle.areas.proofs.MadeLaws.{held_sound, free_lies, areas_of_ascends, areas_of_pages}
use Rattle.demand3.specs.Rule.{Accepted, map_after, areas_after}
use Rattle.demand3.proofs.Demand.{after_made, free_lies_over, address_rule}
use Rattle.sheet.specs.Sheet.{free_pages, usable_in}
use Rattle.page_count.specs.Pages.{count_to, free_at, taken_at}
use Rattle.page_count.proofs.Reading.{same, and_reads, not_reads}
use Rattle.page_count.proofs.Counting.{count_same, count_parts}
use Rattle.page_count.proofs.Intervals.{listed, listed_reads, cut_listed, cuts_reads, list_counted, cuts_counted}
use Rattle.page_count.proofs.Claims.{free_at_reads, taken_at_reads}

-- n pages reach past every address
module _ (p : ℕ) (low high : Option ℕ) (cs : List Claim) (g : Page p) (a : Accepted p cs) (n : ℕ) (all : 2 ^ 64 ≤ n * p) where
  made : Made p (map_after p cs)
  made = after_made p cs g

  free_good : Every (Good p) (free_of (held (map_after p cs)))
  free_good = every_those (wants (number_of Free) true) (slots_of (map_after p cs)) (Good p) (map_after p cs).size 0 (λ j u v h. made.each j (omega arith))

  -- "Free pages inside the limits"
  pub free_counted : free_pages p low high (map_after p cs) ≡ count_to n (free_at p low high cs)
  unfolding free_pages limit_of
  free_counted =
      cuts_counted p n g all limits (up_aligned p _ g) (down_aligned p _) (free_of (held (map_after p cs))) free_good (held_sound made).apart
      ∙ count_same n (cut_listed p limits spans) (free_at p low high cs) (λ i.
      let lies = free_lies (map_after p cs) (i * p) in
      let over = free_lies_over p cs g a (i * p) in
      same (cut_listed p limits spans i) (free_at p low high cs i) (cuts_reads p limits spans i) (free_at_reads p low high cs i) (
        λ h. record { from = h.0.0; to = h.0.1; free = over.0 (lies.0 h.1) },
        λ h. ((h.from, h.to), lies.1 (over.1 h.free)),
      ))
    where
      limits : MemoryEntry
      limits = limit_of p low high

      spans : List Interval
      spans = map span (free_of (held (map_after p cs)))

  -- a page lies in an area exactly when it is Free and no other registration covers it
  usable_counted : usable_in p (areas_after p low high cs) ≡ count_to n (λ i. free_at p low high cs i && not (taken_at p cs i))
  usable_counted =
      list_counted p n g all (areas_after p low high cs) 0 (areas_of_ascends made low high) (areas_of_pages made low high g)
      ∙ count_same n (λ i. listed (i * p) (areas_after p low high cs)) (λ i. free_at p low high cs i && not (taken_at p cs i)) (λ i.
      let rule = address_rule p low high cs g a (i * p) in
      same (listed (i * p) (areas_after p low high cs)) (free_at p low high cs i && not (taken_at p cs i)) (listed_reads (i * p) (areas_after p low high cs))
      (and_reads (free_at p low high cs i) (not (taken_at p cs i)) (free_at_reads p low high cs i) (not_reads (taken_at p cs i) (taken_at_reads p cs i))) (
        λ l. let r = rule.0 l in (record { from = r.from; to = r.to; free = r.free }, r.others),
        λ h. rule.1 (record { from = h.0.from; to = h.0.to; free = h.0.free; others = h.1 }),
      ))

  -- THE THEOREM: "Usable plus the Free pages inside the limits that a non-Free registration, rounded, covers .. equals Free."
  pub usable_and_taken : usable_in p (areas_after p low high cs) + count_to n (λ i. free_at p low high cs i && taken_at p cs i) ≡ free_pages p low high (map_after p cs)
  usable_and_taken = rw usable_counted (count_parts n (free_at p low high cs) (taken_at p cs) ∙ sym free_counted)
