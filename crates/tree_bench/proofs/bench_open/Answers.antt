-- `bench_open` answers the number of the opened tree.
use mathlib.Core.Path.{ap, ◌∙◌}
use Rattle.fdt.specs.Opening.{opened_number}
use Rattle.tree_bench.proofs.bench_open.Goals as goal

pub returns : goal.returns
returns c = c.number.ensures ∙ ap opened_number c.open_tree.ensures
