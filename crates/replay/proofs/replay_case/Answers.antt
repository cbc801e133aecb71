-- `replay_case` begins with an empty map, which is a made one.
use Rattle.memory.proofs.MapLaws.{blank_made}
use Rattle.replay.proofs.replay_case.Goals as goal

pub register_each-requires : goal.register_each-requires
register_each-requires c = rw c.empty-held.ensures (blank_made 4096)
