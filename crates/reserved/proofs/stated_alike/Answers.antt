-- `stated_alike` meets its contract: the arm of both counts knows which they are. Assumes nothing.
use Rattle.reserved.proofs.stated_alike.Goals as goal

pub returns-in-Stated-Stated : goal.returns-in-Stated-Stated
returns-in-Stated-Stated c = rw (c.in-Stated-Stated.is-0, c.in-Stated-Stated.is-1)
