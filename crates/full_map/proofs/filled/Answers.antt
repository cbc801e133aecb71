use Rattle.page.proofs.Laws.{page}
use Rattle.memory.proofs.MapLaws.{one_made, blank_made}
use Rattle.full_map.proofs.filled.Goals as goal

pub loop-i-init : goal.loop-i-init
loop-i-init c = rw c.empty-map.ensures (blank_made 4096)

pub loop-i-preserved : goal.loop-i-preserved
loop-i-preserved c = one_made 4096 _ _ _ page c.register.ensures c.loop-i.invariant
