-- `bench_claims` answers the size of the map with the tree's claims.
use mathlib.Core.Path.{ap}
use Rattle.memory.proofs.MapLaws.{blank_made}
use Rattle.dtb.specs.declared.TreeRegistered.{TreeRegistered}
use Rattle.claims_bench.proofs.bench_claims.Goals as goal

pub register_devicetree-r-requires : goal.register_devicetree-r-requires
register_devicetree-r-requires c = rw c.empty.ensures (blank_made 4096)

pub returns : goal.returns
returns c =
    rw (← c.empty.ensures) (ap (λ (r : TreeRegistered). r.map.size) c.register_devicetree-r.ensures)
