-- `bench_build` answers the count of a build without limits.
use mathlib.Core.Path.{ap, ◌∙◌}
use Rattle.bench.specs.Timed.{count_of}
use Rattle.bench.proofs.bench_build.Goals as goal

pub returns : goal.returns
returns c =
    let b = c.build.ensures in
    record { count = c.unwrap_or.ensures ∙ ap count_of b.answer; table = b.table }
