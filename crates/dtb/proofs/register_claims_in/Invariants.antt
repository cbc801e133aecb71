-- `register_claims_in` registers the claims in turn. The invariant: what is left to claim, on the map as it is, ends as all the claims of the
-- tree do. The measure is the number of steps that are left.
use mathlib.Core.Path.{◌≡◌}
use lib.ListN.{length}
use Rattle.memory.specs.Made.{Made}
use Rattle.memory.specs.Run.{registered_all}
use Rattle.reservations.specs.Reservations.{entries_of}
use Rattle.subtree.specs.Subtree.{root_at, Stands}
use Rattle.claims.specs.Claims.{claims_of}
use Rattle.visit.specs.Script.{claims_in, script}
use Rattle.dtb.proofs.register_claims_in.Given as goal

abbrev pub invariant-loop-claim : goal.invariant-loop-claim
invariant-loop-claim l = Made 4096 l.map
    × Stands l.tree.structure.now l.tree.strings.now l.cursor.next
    × (registered_all 4096 l.map (claims_in (script l.tree.structure.now l.tree.strings.now l.block l.arm l.cursor))
    ≡ registered_all 4096 l.fn.map (claims_of l.arm (entries_of l.block) (root_at l.tree.structure.now l.tree.strings.now)))

abbrev pub decreases-loop-claim : goal.decreases-loop-claim
decreases-loop-claim l = length (script l.tree.structure.now l.tree.strings.now l.block l.arm l.cursor)
