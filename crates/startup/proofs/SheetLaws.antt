-- The usable pages of a map's areas, read from the finished table. Assumes nothing.
use Rattle.std.specs.Prelude.{Option, ℕ}
use mathlib.Core.Path.{◌≡◌}
use mathlib.Core.List.{List, [], ◌∷◌, ◌++◌}
use Prim.Native.Nat.{ℕ, suc, ◌+◌, ◌-◌, ◌/◌, ◌^◌, ◌≤◌, ◌<◌}
use native.Mathlib.Omega.{arith}
use native.Mathlib.Nat.{div-le_self}
use lib.ListN.{length, drop, length-append, length-drop}
use lib.Seq.{drop_at}
use Rattle.page.specs.Round.{top, Page}
use Rattle.memory.specs.declared.MemoryMap.{MemoryMap}
use Rattle.memory.specs.Made.{Made}
use Rattle.areas.specs.declared.Interval.{Interval}
use Rattle.areas.specs.Interval.{Above}
use Rattle.areas.specs.Areas.{areas_of}
use Rattle.areas.specs.Table.{flat}
use Rattle.areas.proofs.Lists.{Every}
use Rattle.areas.specs.Shape.{WholePages}
use Rattle.areas.proofs.MadeLaws.{areas_of_ascends, areas_of_pages}
use Rattle.areas.proofs.Writing.{flat_length}
use Rattle.sheet.specs.Sheet.{usable_in, slot_pages, slots_to}
use Rattle.sheet.proofs.SheetLaws.{slots_usable}

-- areas that ascend from a on have no more pages than there are addresses up to the last page
above_few : (p a : ℕ) (l : List Interval) → Above a l → Every (WholePages p) l → usable_in p l ≤ top p - a
unfolding usable_in
above_few p a [] h w = omega arith
above_few p a (r ∷ l) h w =
    let more : usable_in p l ≤ top p - suc r.hi = above_few p (suc r.hi) l h.2 w.1 in
    let one : (r.hi - r.lo) / p ≤ r.hi - r.lo = div-le_self (r.hi - r.lo) p in
    let from : a ≤ r.lo = h.0 in
    let some : r.lo < r.hi = h.1 in
    let to : r.hi ≤ top p = w.0.low in
    omega arith

-- so the cap of `usable_pages` is never met
pub usable_fits : (p : ℕ) (m : MemoryMap) (low high : Option ℕ) → Page p → Made p m → usable_in p (areas_of p low high m) < 2 ^ 64
unfolding top
usable_fits p m low high g made =
    let few = above_few p 0 (areas_of p low high m) (areas_of_ascends made low high) (areas_of_pages made low high g) in
    omega (arith, few, g.pos, g.small)

-- a finished table t, that was l before
pub table_usable : (p : ℕ) (areas : List Interval) (l t : List ℕ) → usable_in p areas < 2 ^ 64 → length areas ≤ length l / 2
    → t ≡ flat areas ++ drop (length areas + length areas) l → slot_pages p t (slots_to t (length areas)) 0 ≡ usable_in p areas
table_usable p areas l t h room e =
    let n : ℕ = length areas in
    let long : length t ≡ length l = rw e (omega (arith, length-append (flat areas) (drop (n + n) l), flat_length areas, length-drop (n + n) l)) in
    let all : slots_to t n ≡ n = omega arith in
    let rest : drop (n + n) t ≡ drop (n + n) l = rw e (drop_at (flat areas) (drop (n + n) l) (n + n) (flat_length areas)) in
    rw all (slots_usable p areas t h (omega arith) (rw rest e))
