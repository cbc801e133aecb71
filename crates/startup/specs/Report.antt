-- The whole build, as one definition over the order file's bytes and the lent slots: document 01, "Order file and report" and
-- "Numbers a caller gets back".
use Rattle.numbers.specs.Number.{number_by}
use Rattle.startup.specs.declared.Summary.{Summary}
use Rattle.order.specs.declared.OrderFault.{OrderFault}
use Rattle.order.specs.declared.Order.{Order}
use Rattle.startup.specs.declared.Refusal.{Refusal}
use Rattle.std.specs.Prelude.{◌≡◌, ℕ, cond, List, length, Option, Result, Ok, Err}
use Rattle.memory.specs.declared.MemoryMap.{MemoryMap}
use Rattle.areas.specs.declared.Interval.{Interval}
use Rattle.areas.specs.Areas.{areas_of}
use Rattle.areas.specs.Table.{fits, table_of}
use Rattle.sheet.specs.declared.PageSheet.{PageSheet}
use Rattle.sheet.specs.Sheet.{map_sheet}
use Rattle.order.specs.Layout.{order_of}
use Rattle.startup.specs.declared.Refusal.TheVariants.{TooManyAreas}
use Rattle.startup.specs.Verdict.{refusal_number, of_order, run_of, verdict_of}

-- "0 is done."
abbrev pub report_number : Result Summary Refusal → ℕ
report_number = number_by refusal_number

-- so many areas are written, and this is their page sheet
abbrev pub reported : ℕ → PageSheet → Result Summary Refusal
reported n sheet = Ok (record { count = n; sheet = sheet })

-- 3: "more areas than slots"; else the count of the areas and the page sheet
unfoldable pub finished : List Interval → PageSheet → List ℕ → Result Summary Refusal
finished areas sheet l = cond (fits areas l) (reported (length areas) sheet) (Err TooManyAreas)

-- of a map under some limits
abbrev pub map_report : ℕ → MemoryMap → Option ℕ → Option ℕ → List ℕ → Result Summary Refusal
map_report p m low high l = finished (areas_of p low high m) (map_sheet p low high m) l

abbrev pub map_slots : ℕ → MemoryMap → Option ℕ → Option ℕ → List ℕ → List ℕ
map_slots p m low high l = table_of (areas_of p low high m) l

-- what the sources were refused for comes first, and "writes nothing"
abbrev pub verdict_report : Result Unit Refusal → Result Summary Refusal → Result Summary Refusal
verdict_report (Err r) done = Err r
verdict_report (Ok _) done = done

abbrev pub verdict_slots : Result Unit Refusal → List ℕ → List ℕ → List ℕ
verdict_slots (Err r) l after = l
verdict_slots (Ok _) l after = after

-- 9 comes before all
abbrev pub read_report : ℕ → List ℕ → List ℕ → Result Order OrderFault → Result Summary Refusal
read_report p s l (Err f) = Err (of_order f)
read_report p s l (Ok o) = verdict_report (verdict_of p s o) (map_report p (run_of p s o).map o.low o.high l)

abbrev pub read_slots : ℕ → List ℕ → List ℕ → Result Order OrderFault → List ℕ
read_slots p s l (Err f) = l
read_slots p s l (Ok o) = verdict_slots (verdict_of p s o) l (map_slots p (run_of p s o).map o.low o.high l)

-- THE REPORT of an order file s with lent slots l, and the slots afterwards
unfoldable pub report_of : ℕ → List ℕ → List ℕ → Result Summary Refusal
report_of p s l = read_report p s l (order_of s)

unfoldable pub slots_after : ℕ → List ℕ → List ℕ → List ℕ
slots_after p s l = read_slots p s l (order_of s)

pub record Reports (p : ℕ) (s l l' : List ℕ) (r : Result Summary Refusal) : Type 0 where
  pub report : r ≡ report_of p s l
  pub slots : l' ≡ slots_after p s l

-- the step that ends it
pub record Finishes (p : ℕ) (m : MemoryMap) (low high : Option ℕ) (l l' : List ℕ) (r : Result Summary Refusal) : Type 0 where
  pub report : r ≡ map_report p m low high l
  pub slots : l' ≡ map_slots p m low high l
