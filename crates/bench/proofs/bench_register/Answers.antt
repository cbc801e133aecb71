-- `bench_register` answers the size of the map after the registration.
use mathlib.Core.Path.{ap}
use Rattle.memory.specs.declared.Registered.{Registered}
use Rattle.bench.proofs.bench_register.Goals as goal

pub returns : goal.returns
returns c = ap (λ (r : Registered). r.map.size) c.register-r.ensures
