-- `lent_table::ends_by` meets its contract (Judging). Assumes nothing.
use Rattle.lent_table.proofs.Judging.{ends_past, ends_at}
use Rattle.lent_table.proofs.ends_by.Goals as goal

pub returns-then-x-base : goal.returns-then-x-base
returns-then-x-base c = ends_past _ _ _ c.if-x-base.true

pub returns : goal.returns
returns c = ends_at _ _ _ c.if-x-base.false
