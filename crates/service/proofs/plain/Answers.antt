-- `plain` answers a report in plain fields, by its cases.
use lib.Ieee
use Rattle.service.proofs.plain.Goals as goal

pub returns-in-Err : goal.returns-in-Err
unfolding Ieee.of_bits
returns-in-Err c = rw (c.in-Err.is, c.number.ensures)

pub returns-in-Ok : goal.returns-in-Ok
returns-in-Ok c =
    rw (c.in-Ok.is, c.has_share.ensures, c.share_or_zero.ensures)
