-- The report and the slots, as the code ends: by what reading the order file said, by the verdict on its sources, and by what the build
-- answered. Assumes nothing.
use Rattle.startup.specs.declared.Summary.{Summary}
use Rattle.areas.specs.declared.AreasRefusal.TheVariants.{TooManyAreas as BuildFull}
use Rattle.areas.specs.declared.AreasRefusal.{AreasRefusal}
use Rattle.std.specs.Prelude.{Option, ℕ, Result, Ok, Err}
use mathlib.Core.Path.{◌≡◌, refl, ap, sym, ◌∙◌}
use mathlib.Core.Bool.{Bool, true, false, cond}
use mathlib.Core.List.{List, ◌++◌}
use Prim.Native.Nat.{ℕ, ◌+◌}
use lib.ListN.{length, drop}
use borrow.Author.Tests.{leb-true}
use Rattle.words.proofs.BytesLaws.{never}
use Rattle.page.specs.Round.{Page}
use Rattle.memory.specs.declared.MemoryMap.{MemoryMap}
use Rattle.memory.specs.Made.{Made}
use Rattle.areas.specs.declared.Interval.{Interval}
use Rattle.areas.specs.Areas.{areas_of}
use Rattle.areas.specs.Table.{flat, fits, answer_of, table_of, Builds}
use Rattle.sheet.specs.declared.PageSheet.{PageSheet}
use Rattle.sheet.specs.Sheet.{free_pages, usable_in, slot_pages, slots_to, sheet_of, map_sheet}
use Rattle.order.specs.declared.Order.{Order}
use Rattle.order.specs.declared.OrderFault.{OrderFault}
use Rattle.order.specs.Layout.{order_of}
use Rattle.startup.specs.declared.Refusal.{Refusal}
use Rattle.startup.specs.declared.Sources.{Sources}
use Rattle.startup.specs.Verdict.{of_order, of_areas, run_of, verdict_of, judged_sources, sources_of}
use Rattle.startup.specs.Report.{finished, report_of, slots_after, Reports, Finishes, reported}
use Rattle.startup.proofs.SourceLaws.{sources_made}
use Rattle.startup.proofs.SheetLaws.{usable_fits, table_usable}

-- ── What a build answers ──
-- so many areas, and there is room for them; or there is not
data BuildWay (areas : List Interval) (l : List ℕ) : Result ℕ AreasRefusal → Type 0 where
  room : fits areas l ≡ true → BuildWay areas l (Ok (length areas))
  none : fits areas l ≡ false → BuildWay areas l (Err BuildFull)

build_way : (areas : List Interval) (l : List ℕ) → BuildWay areas l (answer_of areas l)
unfolding answer_of
build_way areas l = go (fits areas l) refl
  where
    go : (t : Bool) → fits areas l ≡ t → BuildWay areas l (cond t (Ok (length areas)) (Err BuildFull))
    go true e = room e
    go false e = none e

built_full : (areas : List Interval) (l : List ℕ) → answer_of areas l ≡ Err BuildFull → fits areas l ≡ false
built_full areas l e = go (answer_of areas l) (build_way areas l) e
  where
    go : (b : Result ℕ AreasRefusal) → BuildWay areas l b → b ≡ Err BuildFull → fits areas l ≡ false
    go b (room f) i = never (cc)
    go b (none f) i = f

built_done : (areas : List Interval) (l : List ℕ) (n : ℕ) → answer_of areas l ≡ Ok n → (fits areas l ≡ true) × (n ≡ length areas)
built_done areas l n e = go (answer_of areas l) (build_way areas l) e
  where
    go : (b : Result ℕ AreasRefusal) → BuildWay areas l b → b ≡ Ok n → (fits areas l ≡ true) × (n ≡ length areas)
    go b (room f) i = (f, cc)
    go b (none f) i = never (cc)

-- ── The end: r is what the build answered, and l' the slots then ──
module _ (p : ℕ) (m : MemoryMap) (low high : Option ℕ) (l l' : List ℕ) (r : Result ℕ AreasRefusal) (builds : Builds p m low high l l' r) where
  pub finish_full : (f : AreasRefusal) → r ≡ Err f → Finishes p m low high l l' (Err (of_areas f))
  unfolding finished
  finish_full BuildFull e =
      let f = built_full (areas_of p low high m) l (sym builds.answer ∙ e) in
      record { report = rw f; slots = builds.table }

  pub finish_done : Page p → Made p m → (n : ℕ) → r ≡ Ok n → (free usable : ℕ) (sheet : PageSheet)
      → free ≡ free_pages p low high m → usable ≡ slot_pages p l' (slots_to l' n) 0 → sheet ≡ sheet_of free usable
      → Finishes p m low high l l' (reported n sheet)
  unfolding finished map_sheet table_of
  finish_done g made n e free usable sheet ef eu es =
      let b = built_done (areas_of p low high m) l n (sym builds.answer ∙ e) in
      let table : l' ≡ flat (areas_of p low high m) ++ drop (length (areas_of p low high m) + length (areas_of p low high m)) l =
      builds.table ∙ rw b.0 refl in
      let pages : usable ≡ usable_in p (areas_of p low high m) =
      eu ∙ rw b.1 (table_usable p (areas_of p low high m) l l' (usable_fits p m low high g made) (leb-true _ _ b.0) table) in
      record { report = rw (b.0, es, ef, pages, b.1) refl; slots = builds.table }

-- ── The whole: x is what registering the sources of the order o gave ──
module _ (p : ℕ) (s : List ℕ) (o : Order) (x : Sources) (is : x ≡ sources_of p s o) where
  -- the verdict, and the map beside it where that is accepted
  verdict_is : x.verdict ≡ verdict_of p s o
  unfolding sources_of
  verdict_is = ap (λ (y : Sources). y.verdict) is ∙ go (verdict_of p s o)
    where
      go : (v : Result Unit Refusal) → (judged_sources (run_of p s o).map v).verdict ≡ v
      go (Ok tt) = refl
      go (Err f) = refl

  pub map_is : x.verdict ≡ Ok tt → x.map ≡ (run_of p s o).map
  unfolding sources_of
  map_is e =
      ap (λ (y : Sources). y.map) is
      ∙ ap (λ (v : Result Unit Refusal). (judged_sources (run_of p s o).map v).map) (sym verdict_is ∙ e)

  pub map_made : Page p → Made p x.map
  map_made g = rw is (sources_made p g s o)

  module _ (l : List ℕ) (read : Ok o ≡ order_of s) where
    pub reports_refused : (f : Refusal) → x.verdict ≡ Err f → Reports p s l l (Err f)
    unfolding report_of slots_after
    reports_refused f e =
        let v : verdict_of p s o ≡ Err f = sym verdict_is ∙ e in
        record { report = rw (← read, v); slots = rw (← read, v) }

    pub reports_finished : x.verdict ≡ Ok tt → (l' : List ℕ) (r : Result Summary Refusal) → Finishes p x.map o.low o.high l l' r → Reports p s l l' r
    unfolding report_of slots_after
    reports_finished e l' r h =
        let v : verdict_of p s o ≡ (Ok tt) = sym verdict_is ∙ e in
        record { report = rw (← read, v, ← map_is e) h.report; slots = rw (← read, v, ← map_is e) h.slots }

pub reports_no_order : (p : ℕ) (s l : List ℕ) (f : OrderFault) → Err f ≡ order_of s → Reports p s l l (Err (of_order f))
unfolding report_of slots_after
reports_no_order p s l f e = record { report = rw (← e); slots = rw (← e) }
