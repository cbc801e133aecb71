-- `bench_list` answers the size of the list's map.
use mathlib.Core.Path.{ap}
use Rattle.memory.specs.declared.Registered.{Registered}
use Rattle.memory.proofs.MapLaws.{blank_made}
use Rattle.bench.proofs.bench_list.Goals as goal

pub register_bootloader_areas-r-requires : goal.register_bootloader_areas-r-requires
register_bootloader_areas-r-requires c = rw c.empty.ensures (blank_made 4096)

pub returns : goal.returns
returns c =
    rw (← c.empty.ensures) (ap (λ (r : Registered). r.map.size) c.register_bootloader_areas-r.ensures)
