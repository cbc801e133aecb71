-- `lent_table::clear` meets its contract (Moving). Assumes nothing.
use Rattle.lent_table.proofs.Moving.{cleared, cleared_none}
use Rattle.lent_table.proofs.clear.Goals as goal

pub returns-then-from-to : goal.returns-then-from-to
returns-then-from-to c = cleared _ _ _ _ c.if-from-to.true c.requires (c.fill.ensures.after (λ y e. e))

pub returns-else-from-to : goal.returns-else-from-to
returns-else-from-to c = cleared_none _ _ _ c.if-from-to.false
