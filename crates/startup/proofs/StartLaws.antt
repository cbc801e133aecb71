-- The map beside the report, as the code ends; and it is one that every call takes. Assumes nothing.
use Rattle.startup.specs.declared.Summary.{Summary}
use Rattle.order.specs.declared.OrderFault.{OrderFault}
use Rattle.std.specs.Prelude.{Option, ℕ, Result, Ok, Err}
use mathlib.Core.Path.{◌≡◌, refl}
use mathlib.Core.List.{List}
use Prim.Native.Nat.{ℕ}
use Rattle.page.specs.Round.{Page}
use Rattle.memory.specs.declared.MemoryMap.{MemoryMap}
use Rattle.memory.specs.Made.{Made}
use Rattle.memory.proofs.MapLaws.{blank_made}
use Rattle.sheet.specs.declared.PageSheet.{PageSheet}
use Rattle.order.specs.declared.Order.{Order}
use Rattle.order.specs.Layout.{order_of}
use Rattle.startup.specs.declared.Refusal.{Refusal}
use Rattle.startup.specs.declared.Sources.{Sources}
use Rattle.startup.specs.declared.Start.{Start}
use Rattle.startup.specs.Verdict.{sources_of}
use Rattle.startup.specs.Report.{report_of, Reports, Finishes, reported}
use Rattle.startup.specs.Start.{kept_map, file_map, map_left, Starts, start, not_started, StartFinishes}
use Rattle.startup.proofs.SourceLaws.{run_made}
use Rattle.startup.proofs.ReportLaws.{map_is, reports_finished}

-- ── The end: r is what finishing the map m answered ──
module _ (p : ℕ) (m : MemoryMap) (low high : Option ℕ) (l l' : List ℕ) (r : Result Summary Refusal) (h : Finishes p m low high l l' r) where
  pub start_refused : (f : Refusal) → r ≡ Err f → (x : Start) → x ≡ not_started f → StartFinishes p m low high l l' x
  start_refused f e x i = rw i (record { finishes = rw e at h; map = refl })

  pub start_done : (n : ℕ) (sheet : PageSheet) → r ≡ reported n sheet → StartFinishes p m low high l l' (start m r)
  start_done n sheet e = record { finishes = h; map = rw e }

-- ── The whole ──
module _ (p : ℕ) (s l : List ℕ) where
  pub starts_refused : (f : Refusal) → Reports p s l l (Err f) → (x : Start) → x ≡ not_started f → Starts p s l l x
  unfolding map_left
  starts_refused f h x i = rw i (record { reports = h; map = rw (← h.report) })

  -- x is what registering the sources of the order o gave
  pub starts_finished : (o : Order) (x : Sources) → x ≡ sources_of p s o → Ok o ≡ order_of s → x.verdict ≡ Ok tt
      → (l' : List ℕ) (r : Start) → StartFinishes p x.map o.low o.high l l' r → Starts p s l l' r
  unfolding map_left
  starts_finished o x is read e l' r h =
      let reports = reports_finished p s o x is l read e l' r.report h.finishes in
      record { reports = reports; map = rw (← reports.report, ← read, ← map_is p s o x is e) h.map }

  -- the map that a build leaves is one that every call takes
  pub left_made : Page p → Made p (map_left p s l)
  unfolding map_left
  left_made g = go (report_of p s l)
    where
      file : (o : Result Order OrderFault) → Made p (file_map p s o)
      file (Err f) = blank_made p
      file (Ok o) = run_made p g s o

      go : (r : Result Summary Refusal) → Made p (kept_map r (file_map p s (order_of s)))
      go (Ok x) = file (order_of s)
      go (Err f) = blank_made p
