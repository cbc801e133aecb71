-- `register_all` registers the claims in turn. The invariant: what is left to register, on the map as it is, ends as all of them do.
use mathlib.Core.Path.{◌≡◌}
use lib.ListN.{drop}
use Rattle.memory.specs.Made.{Made}
use Rattle.memory.specs.Run.{registered_all}
use Rattle.memory.proofs.MemoryMap.register_all.Given as goal

abbrev pub invariant-loop-claim : goal.invariant-loop-claim
invariant-loop-claim l = Made 4096 l.self × (registered_all 4096 l.self (drop l.claim-index l.claims) ≡ registered_all 4096 l.fn.self l.claims)
