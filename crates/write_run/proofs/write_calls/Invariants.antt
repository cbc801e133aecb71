-- `write_run::write_calls` makes one call after the other. The invariant: the run from here, with as many calls left as bytes that no call
-- made so far can have taken, is the run from the start. The measure is what is left of the input.
use mathlib.Core.Path.{◌≡◌}
use Prim.Native.Nat.{◌-◌, ◌≤◌}
use lib.ListN.{length}
use Rattle.write_run.specs.Input.{calls_from}
use Rattle.write_run.specs.Run.{run_of, ran_of}
use Rattle.write_run.proofs.write_calls.Given as goal

abbrev pub invariant-loop-at : goal.invariant-loop-at
invariant-loop-at l =
    (l.index ≤ l.at) × (run_of (calls_from (length l.calls - l.index) l.calls l.at) l.index l.w l.size l.out ≡ ran_of l.calls l.initial.out)

abbrev pub decreases-loop-at : goal.decreases-loop-at
decreases-loop-at l = length l.calls - l.at
