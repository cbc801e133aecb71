use mathlib.Core.Path.{ap, sym, ◌∙◌}
use Rattle.numbers.proofs.Passed.{passed}
use Rattle.page.proofs.Laws.{page}
use Rattle.memory.specs.declared.Registered.{Registered}
use Rattle.memory.specs.Map.{answered, registered}
use Rattle.memory.specs.Run.{is_done}
use Rattle.bootloader.proofs.ListLaws.{all_done, all_step, all_stop}
use Rattle.memory.proofs.MapLaws.{one_made}
use Rattle.bootloader.proofs.register_list_in.Goals as goal

pub returns-in_err-register_in : goal.returns-in_err-register_in
returns-in_err-register_in c =
    let r : Registered = answered c.register_in.new.self c.register_in.result in
    let e = c.register_in.ensures ∙ ap (registered 4096 c.loop-i.map) c.claim_at.ensures in
    let no = c.in_err-register_in.was in
    rw (passed c.from_residual.result c.from_residual.ensures.1, ← no) (sym (all_stop 4096 _ _ _ _ r c.loop-i-test.true e (ap is_done no)) ∙ c.loop-i.invariant.1)

pub loop-i-preserved : goal.loop-i-preserved
loop-i-preserved c =
    let r : Registered = answered c.register_in.new.self c.register_in.result in
    let e = c.register_in.ensures ∙ ap (registered 4096 c.loop-i.map) c.claim_at.ensures in
    (one_made 4096 _ _ r page e c.loop-i.invariant.0, sym (all_step 4096 _ _ _ _ r c.loop-i-test.true e (ap is_done c.in_ok-register_in.was)) ∙ c.loop-i.invariant.1)

pub returns : goal.returns
returns c = sym (all_done 4096 _ _ _ _ c.loop-i-test.false) ∙ c.loop-i.invariant.1
