-- `MemoryMap::empty` is the blank map.
use mathlib.Core.Path.{refl}
use Rattle.memory.specs.Map.{blank}
use Rattle.memory.proofs.MemoryMap.empty.Goals as goal

pub returns : goal.returns
unfolding blank
returns c = refl
