-- `order::pair_at` meets its contract: both numbers are `words::le64`'s. Assumes nothing.
use Rattle.order.proofs.pair_at.Goals as goal

pub returns : goal.returns
returns c = rw (c.le64.ensures.is, c.le64-2.ensures.is)
