-- `register_all_or_none` registers the claims in a copy, and hands that over where none is refused. Assumes nothing.
use mathlib.Core.Path.{ap, sym}
use Rattle.numbers.proofs.Passed.{passed}
use Rattle.memory.specs.Run.{is_done}
use Rattle.memory.proofs.RunLaws.{settled_done, settled_refused}
use Rattle.memory.proofs.MemoryMap.register_all_or_none.Goals as goal

pub returns-in_err-register_all : goal.returns-in_err-register_all
returns-in_err-register_all c =
    let no = c.in_err-register_all.was in
    rw (passed c.from_residual.result c.from_residual.ensures.1, ← no, ← c.register_all.ensures) (sym (settled_refused _ _ (ap is_done no)))

pub returns : goal.returns
returns c =
    let yes = c.in_ok-register_all.was in
    rw (← yes, ← c.register_all.ensures) (sym (settled_done _ _ (ap is_done yes)))
