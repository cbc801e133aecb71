-- What is refused of an order file's sources, and with which number: document 01, "Numbers a caller gets back".
use Rattle.numbers.specs.Number.{number_by}
use Rattle.dtb.specs.declared.TreeRefusal.TheVariants as tree
use Rattle.dtb.specs.declared.TreeRefusal.{TreeRefusal}
use Rattle.std.specs.Prelude.{ℕ, Bool, cond, List, Option, Some, None, Result, Ok, Err}
use Rattle.memory.specs.declared.MemoryMap.{MemoryMap}
use Rattle.memory.specs.declared.Registered.{Registered}
use Rattle.memory.specs.Map.{blank}
use Rattle.memory.specs.Run.{is_done, registered_all}
use Rattle.bootloader.specs.List.{all_known}
use Rattle.fdt.specs.declared.Blocks.{Blocks}
use Rattle.fdt.specs.declared.TreeFault.{TreeFault}
use Rattle.fdt.specs.declared.TreeFault.TheVariants as form
use Rattle.fdt.specs.Header.{structure_of, strings_of}
use Rattle.fdt.specs.Tree.{tree_of}
use Rattle.fdt.specs.Opening.{opened_of}
use Rattle.claims.specs.declared.ValueFault.{ValueFault}
use Rattle.claims.specs.declared.ValueFault.TheVariants as value
use Rattle.claims.specs.Judging.{judged_of}
use Rattle.areas.specs.declared.AreasRefusal.{AreasRefusal}
use Rattle.areas.specs.declared.AreasRefusal.TheVariants as build
use Rattle.order.specs.declared.Order.{Order}
use Rattle.order.specs.declared.OrderFault.{OrderFault}
use Rattle.order.specs.declared.OrderFault.TheVariants.{BadOrder as NoOrder}
use Rattle.startup.specs.declared.Refusal.{Refusal}
use Rattle.startup.specs.declared.Refusal.TheVariants.{BadOrder, UnknownKind, BadHeader, OverLimit, BadStructure, UnreadableReg, UnreadableRanges, MapFull, TooManyAreas}
use Rattle.startup.specs.declared.Sources.{Sources}
use Rattle.startup.specs.Sources.{list_in, tree_in, registrations}

abbrev pub refusal_number : Refusal → ℕ
refusal_number BadOrder = 9
refusal_number UnknownKind = 1
refusal_number BadHeader = 4
refusal_number OverLimit = 6
refusal_number BadStructure = 5
refusal_number UnreadableReg = 7
refusal_number UnreadableRanges = 8
refusal_number MapFull = 2
refusal_number TooManyAreas = 3

-- "0 is done."
abbrev pub verdict_number : Result Unit Refusal → ℕ
verdict_number = number_by refusal_number

-- the refusal that each is: a fault of the order file, that of the areas, a fault of a tree's form or of its values, one of the tree's call
abbrev pub of_order : OrderFault → Refusal
of_order NoOrder = BadOrder

abbrev pub of_areas : AreasRefusal → Refusal
of_areas build.TooManyAreas = TooManyAreas

abbrev pub of_form : TreeFault → Refusal
of_form form.BadHeader = BadHeader
of_form form.OverLimit = OverLimit
of_form form.BadStructure = BadStructure

abbrev pub of_value : ValueFault → Refusal
of_value value.UnreadableReg = UnreadableReg
of_value value.UnreadableRanges = UnreadableRanges

abbrev pub of_tree : TreeRefusal → Refusal
of_tree tree.BadHeader = BadHeader
of_tree tree.OverLimit = OverLimit
of_tree tree.BadStructure = BadStructure
of_tree tree.UnreadableReg = UnreadableReg
of_tree tree.UnreadableRanges = UnreadableRanges
of_tree tree.MapFull = MapFull

-- "Checked in this order": what is checked first decides
abbrev pub first_of : Result Unit Refusal → Result Unit Refusal → Result Unit Refusal
first_of (Err r) next = Err r
first_of (Ok _) next = next

-- 1: "a kind is none of the seven, size 0 included"
unfoldable pub list_verdict : List ℕ → Result Unit Refusal
list_verdict l = cond (all_known l) (Ok tt) (Err UnknownKind)

-- 7, then 8
abbrev pub judged_verdict : Result Unit ValueFault → Result Unit Refusal
judged_verdict (Ok _) = Ok tt
judged_verdict (Err f) = Err (of_value f)

-- 4, 6, 5, then 7 and 8. No map is asked: "The tree is judged before its first claim is registered."
abbrev pub opened_verdict : List ℕ → Bool → Result (Option Blocks) TreeFault → Result Unit Refusal
opened_verdict t arm (Ok None) = Ok tt
opened_verdict t arm (Err f) = Err (of_form f)
opened_verdict t arm (Ok (Some k)) = judged_verdict (judged_of arm (tree_of (structure_of t) (strings_of t)))

unfoldable pub tree_verdict : List ℕ → Bool → Result Unit Refusal
tree_verdict t arm = opened_verdict t arm (opened_of t)

-- 2: "map full". Where it is asked no kind is unknown, so nothing else can be refused (Rows.exactly, in order_theorems)
unfoldable pub map_verdict : Registered → Result Unit Refusal
map_verdict r = cond (is_done r.answer) (Ok tt) (Err MapFull)

-- the run of an order file's registrations from the empty map
abbrev pub run_of : ℕ → List ℕ → Order → Registered
run_of p s o = registered_all p blank (registrations s o)

-- 1, 4, 6, 5, 7, 8, 2
unfoldable pub verdict_of : ℕ → List ℕ → Order → Result Unit Refusal
verdict_of p s o =
    first_of (list_verdict (list_in s o)) (first_of (tree_verdict (tree_in s o) o.arm) (map_verdict (run_of p s o)))

-- ── The map that the sources leave ──
abbrev pub sources : MemoryMap → Result Unit Refusal → Sources
sources m v = record { map = m; verdict = v }

abbrev pub rejection : Refusal → Sources
rejection r = sources blank (Err r)

-- "A refused list, tree or build gives back the map as at its call": the empty one
abbrev pub judged_sources : MemoryMap → Result Unit Refusal → Sources
judged_sources m (Ok _) = sources m (Ok tt)
judged_sources m (Err r) = rejection r

unfoldable pub sources_of : ℕ → List ℕ → Order → Sources
sources_of p s o = judged_sources (run_of p s o).map (verdict_of p s o)

-- ── The steps of the code ──
abbrev pub tree_fault : Result Unit TreeRefusal → Result Unit Refusal
tree_fault (Ok _) = Ok tt
tree_fault (Err r) = Err (of_tree r)

unfoldable pub ended_sources : Registered → Sources
ended_sources r = judged_sources r.map (map_verdict r)
