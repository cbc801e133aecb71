-- `lent_table::insert_area` meets its contract (Moving). Assumes nothing.
use Rattle.lent_table.proofs.Moving.{inserted}
use Rattle.lent_table.proofs.insert_area.Goals as goal

pub returns : goal.returns
returns c = inserted _ _ _ _ c.copy_within.ensures.after _ _
