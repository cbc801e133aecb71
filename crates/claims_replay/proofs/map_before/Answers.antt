-- `map_before` makes its map by our calls only, so it is a made map.
use Rattle.page.proofs.Laws.{page}
use Rattle.memory.proofs.MapLaws.{one_made, blank_made}
use Rattle.claims_replay.proofs.map_before.Goals as goal

pub loop-i-init : goal.loop-i-init
loop-i-init c = rw c.empty-held.ensures (blank_made 4096)

pub loop-i-preserved : goal.loop-i-preserved
loop-i-preserved c = one_made 4096 _ _ _ page c.register_in.ensures c.loop-i.invariant
