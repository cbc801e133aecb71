-- `bench_late` answers the count of a late claim, and leaves its slots. Assumes nothing.
use mathlib.Core.Path.{ap}
use Rattle.late_claim.specs.Late.{After}
use Rattle.bench.proofs.bench_late.Goals as goal

pub returns : goal.returns
returns c =
    let e = c.claim_late-r.ensures in
    record { count = ap (λ (a : After). a.count) e; table = ap (λ (a : After). a.table) e }
