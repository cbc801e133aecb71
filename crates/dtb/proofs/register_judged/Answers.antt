-- `register_judged` registers on a copy, and hands back the caller's map where that is refused.
use mathlib.Core.Path.{ap, sym}
use Rattle.memory.specs.Run.{is_done}
use Rattle.dtb.proofs.CallLaws.{settled_done, settled_refused}
use Rattle.dtb.proofs.register_judged.Goals as goal

pub returns-in-Ok : goal.returns-in-Ok
returns-in-Ok c = rw (← c.register_claims_in.ensures) (sym (settled_done _ _ (ap is_done c.in-Ok.is)))

pub returns-in-Err : goal.returns-in-Err
returns-in-Err c = rw (← c.register_claims_in.ensures) (sym (settled_refused _ _ (ap is_done c.in-Err.is)))
