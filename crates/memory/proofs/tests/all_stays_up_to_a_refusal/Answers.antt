use Rattle.memory.proofs.MapLaws.{blank_made}
use Rattle.memory.proofs.tests.all_stays_up_to_a_refusal.Goals as goal

pub register_all-requires : goal.register_all-requires
register_all-requires c = rw c.empty-map.ensures (blank_made 4096)

pub register_all-requires-2 : goal.register_all-requires-2
register_all-requires-2 c = rw c.empty-map-2.ensures (blank_made 4096)
