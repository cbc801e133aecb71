use mathlib.Core.Path.{ap, sym, ◌∙◌}
use Rattle.numbers.proofs.Passed.{passed}
use Rattle.page.proofs.Laws.{page}
use Rattle.memory.specs.declared.Registered.{Registered}
use Rattle.memory.specs.Map.{answered}
use Rattle.memory.specs.Run.{is_done}
use Rattle.memory.proofs.MapLaws.{one_made}
use Rattle.memory.proofs.RunLaws.{left_none, left_goes, left_stops}
use Rattle.memory.proofs.MemoryMap.register_all.Goals as goal

pub returns-in_err-register_in : goal.returns-in_err-register_in
returns-in_err-register_in c =
    let r : Registered = answered c.register_in.new.self c.register_in.result in
    let no = c.in_err-register_in.was in
    rw (passed c.from_residual.result c.from_residual.ensures.1, ← no)
    (sym (left_stops 4096 _ _ _ r c.loop-claim-test.true c.register_in.ensures (ap is_done no)) ∙ c.loop-claim.invariant.1)

pub loop-claim-preserved : goal.loop-claim-preserved
loop-claim-preserved c =
    let r : Registered = answered c.register_in.new.self c.register_in.result in (
      one_made 4096 _ _ r page c.register_in.ensures c.loop-claim.invariant.0,
      sym (left_goes 4096 _ _ _ r c.loop-claim-test.true c.register_in.ensures (ap is_done c.in_ok-register_in.was)) ∙ c.loop-claim.invariant.1,
    )

pub returns : goal.returns
returns c = sym (left_none 4096 _ _ _ c.loop-claim-test.false) ∙ c.loop-claim.invariant.1
