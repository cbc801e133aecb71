use Rattle.late_claim.proofs.claim_late.Goals as goal

pub returns-in-Ok : goal.returns-in-Ok
returns-in-Ok c = rw c.in-Ok.is at c.claim_late_in.ensures

pub returns-in-Err : goal.returns-in-Err
returns-in-Err c = rw c.in-Err.is at c.claim_late_in.ensures
