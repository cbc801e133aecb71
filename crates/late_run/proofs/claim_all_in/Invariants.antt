-- `late_run::claim_all_in` meets its contract (Running). Assumes nothing.
use lib.ListN.{length}
use Rattle.bootloader.specs.List.{claims}
use Rattle.late_run.specs.Run.{late_all}
use Rattle.late_run.proofs.Running.{Running}
use Rattle.late_run.proofs.claim_all_in.Given as goal

abbrev pub invariant-loop-i : goal.invariant-loop-i
invariant-loop-i l = Running 4096 l.list l.n (late_all 4096 l.fn.map l.count l.fn.slots 0 (claims l.list)) l.map l.used l.slots (length l.fn.slots) l.i
