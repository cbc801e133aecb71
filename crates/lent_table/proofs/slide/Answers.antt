-- `lent_table::slide` meets its contract (Moving). Assumes nothing.
use Rattle.lent_table.proofs.Moving.{slid, slid_none}
use Rattle.lent_table.proofs.slide.Goals as goal

pub returns-then-from-end : goal.returns-then-from-end
returns-then-from-end c = slid _ _ _ _ _ _ c.requires.0 c.if-from-end.true c.requires.1 c.copy_within.ensures.len c.copy_within.ensures.after (c.fill.ensures.after (λ y e. e))

pub returns-else-from-end : goal.returns-else-from-end
returns-else-from-end c = slid_none _ _ _ _ c.if-from-end.false
