-- `register_memory_region` registers by the kind's number.
use Rattle.memory.proofs.register_memory_region.Goals as goal

pub returns : goal.returns
returns c = rw (← c.number.ensures) c.register.ensures
