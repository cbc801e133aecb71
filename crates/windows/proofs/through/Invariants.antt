-- `through` goes over the ranges in turn. The invariant: what is still to be said from row i on is what is to be said. Assumes nothing.
use mathlib.Core.Path.{◌≡◌}
use Prim.Native.Nat.{◌≤◌, ◌-◌}
use Rattle.cells.specs.Rows.{ranges_of}
use Rattle.windows.specs.Window.{window}
use Rattle.windows.proofs.WindowLaws.{go_on}
use Rattle.windows.proofs.through.Given as goal

abbrev pub invariant-loop-range : goal.invariant-loop-range
invariant-loop-range l = (l.i ≤ lib.ListN.length l.bus.ranges.now) × (go_on l.soc (ranges_of l.bus.own.address l.bus.parent l.bus.own.size l.bus.ranges.now) l.i l.region.address l.region.size ≡ window l.soc (ranges_of l.bus.own.address l.bus.parent l.bus.own.size l.bus.ranges.now) l.region.address l.region.size)

abbrev pub decreases-loop-range : goal.decreases-loop-range
decreases-loop-range l = lib.ListN.length l.bus.ranges.now - l.i
