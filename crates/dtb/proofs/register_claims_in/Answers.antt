use mathlib.Core.Path.{refl, ap, sym, ◌∙◌}
use Rattle.numbers.proofs.Passed.{passed}
use Rattle.page.proofs.Laws.{page}
use Rattle.memory.specs.declared.Registered.{Registered}
use Rattle.memory.specs.Map.{answered}
use Rattle.memory.specs.Run.{is_done, registered_all}
use Rattle.memory.proofs.MapLaws.{one_made}
use Rattle.visit.proofs.StepLaws.{script_start}
use Rattle.dtb.proofs.TakingLaws.{went, shorter, take_end, take_over, take_done, take_refused}
use Rattle.dtb.proofs.register_claims_in.Goals as goal

pub loop-claim-init : goal.loop-claim-init
loop-claim-init c =
    let e = c.first_claim-cursor.ensures in
    (c.requires, rw e refl, rw e (ap (registered_all 4096 _) (script_start _ _ _ _)))

pub register_in-requires : goal.register_in-requires
register_in-requires c = c.loop-claim.invariant.0

pub returns-in_err-register_in-in-Claims : goal.returns-in_err-register_in-in-Claims
returns-in_err-register_in-in-Claims c =
    let l = c.loop-claim in
    let f = went _ _ _ _ l.cursor _ _ l.invariant.1 c.next_claim.ensures c.in-Claims.is in
    let r : Registered = answered c.register_in.new.self c.register_in.result in
    let no = c.in_err-register_in-in-Claims.was in
    rw (passed c.from_residual.result c.from_residual.ensures.1, ← no)
    (sym (take_refused 4096 _ _ _ _ r f.0 c.register_in.ensures (ap is_done no)) ∙ l.invariant.2)

pub loop-claim-smaller-in-Claims : goal.loop-claim-smaller-in-Claims
loop-claim-smaller-in-Claims c =
    let l = c.loop-claim in
    let f = went _ _ _ _ l.cursor _ _ l.invariant.1 c.next_claim.ensures c.in-Claims.is in
    shorter _ _ _ f.0

pub loop-claim-preserved-in-Claims : goal.loop-claim-preserved-in-Claims
loop-claim-preserved-in-Claims c =
    let l = c.loop-claim in
    let f = went _ _ _ _ l.cursor _ _ l.invariant.1 c.next_claim.ensures c.in-Claims.is in
    let r : Registered = answered c.register_in.new.self c.register_in.result in (
      one_made 4096 _ _ r page c.register_in.ensures l.invariant.0,
      f.1,
      sym (take_done 4096 _ _ _ _ r f.0 c.register_in.ensures (ap is_done c.in_ok-register_in-in-Claims.was)) ∙ l.invariant.2,
    )

pub loop-claim-smaller : goal.loop-claim-smaller
loop-claim-smaller c =
    let l = c.loop-claim in
    let f = went _ _ _ _ l.cursor _ _ l.invariant.1 c.next_claim.ensures c.in-On.is in
    shorter _ _ _ f.0

pub loop-claim-preserved : goal.loop-claim-preserved
loop-claim-preserved c =
    let l = c.loop-claim in
    let f = went _ _ _ _ l.cursor _ _ l.invariant.1 c.next_claim.ensures c.in-On.is in
    (l.invariant.0, f.1, sym (take_over 4096 _ _ _ f.0) ∙ l.invariant.2)

pub returns-in-End : goal.returns-in-End
returns-in-End c =
    let l = c.loop-claim in
    let f = went _ _ _ _ l.cursor _ _ l.invariant.1 c.next_claim.ensures c.in-End.is in
    sym (take_end 4096 _ _ f) ∙ l.invariant.2
