-- The whole build with the map of its registrations, from which late claims go on: document 02, request L3, "Let a late claim .. enter the
-- map and edit the table where it stands."
use Rattle.startup.specs.declared.Summary.{Summary}
use Rattle.order.specs.declared.OrderFault.{OrderFault}
use Rattle.order.specs.declared.Order.{Order}
use Rattle.std.specs.Prelude.{◌≡◌, ℕ, List, Option, Result, Ok, Err}
use Rattle.memory.specs.declared.MemoryMap.{MemoryMap}
use Rattle.memory.specs.Map.{blank}
use Rattle.order.specs.Layout.{order_of}
use Rattle.startup.specs.declared.Refusal.{Refusal}
use Rattle.startup.specs.declared.Start.{Start}
use Rattle.startup.specs.Verdict.{run_of}
use Rattle.startup.specs.Report.{report_of, Reports, Finishes}

-- "A refused list, tree or build gives back the map as at its call": the empty one, also beside 3
abbrev pub kept_map : Result Summary Refusal → MemoryMap → MemoryMap
kept_map (Ok x) m = m
kept_map (Err r) m = blank

-- the map of all registrations
abbrev pub file_map : ℕ → List ℕ → Result Order OrderFault → MemoryMap
file_map p s (Err f) = blank
file_map p s (Ok o) = (run_of p s o).map

-- THE MAP that the build of an order file s with lent slots l leaves
unfoldable pub map_left : ℕ → List ℕ → List ℕ → MemoryMap
map_left p s l = kept_map (report_of p s l) (file_map p s (order_of s))

pub record Starts (p : ℕ) (s l l' : List ℕ) (r : Start) : Type 0 where
  pub reports : Reports p s l l' r.report
  pub map : r.map ≡ map_left p s l

-- ── The steps of the code ──
abbrev pub start : MemoryMap → Result Summary Refusal → Start
start m r = record { map = m; report = r }

abbrev pub not_started : Refusal → Start
not_started r = start blank (Err r)

pub record StartFinishes (p : ℕ) (m : MemoryMap) (low high : Option ℕ) (l l' : List ℕ) (r : Start) : Type 0 where
  pub finishes : Finishes p m low high l l' r.report
  pub map : r.map ≡ kept_map r.report m
