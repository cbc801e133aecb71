-- `lent_table::good_table` meets its contract (Judging). Assumes nothing.
use Rattle.lent_table.proofs.Judging.{Judging}
use Rattle.lent_table.proofs.good_table.Given as goal

abbrev pub invariant-loop-k : goal.invariant-loop-k
invariant-loop-k l = Judging 4096 l.n l.slots l.least l.k
