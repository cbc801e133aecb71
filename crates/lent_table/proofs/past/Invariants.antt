-- `lent_table::past` meets its contract (Judging). Assumes nothing.
use Rattle.lent_table.proofs.Judging.{Passing}
use Rattle.lent_table.proofs.past.Given as goal

abbrev pub invariant-loop-k : goal.invariant-loop-k
invariant-loop-k l = Passing l.slots l.from l.n l.x l.k
