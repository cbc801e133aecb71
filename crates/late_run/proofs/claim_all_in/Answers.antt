use mathlib.Core.Path.{◌≡◌, sym, ◌∙◌}
use native.Mathlib.Omega.{arith}
use Rattle.page.proofs.Laws.{page}
use Rattle.late_run.proofs.Running.{runs, runs_on, runs_stop, runs_end, left_is, number_is}
use Rattle.late_run.proofs.claim_all_in.Goals as goal

pub loop-i-init : goal.loop-i-init
loop-i-init c = runs 4096 _ _ _ _ c.requires

pub claim_late_in-said-requires : goal.claim_late_in-said-requires
claim_late_in-said-requires c = c.loop-i.invariant.made

pub returns-then-refused : goal.returns-then-refused
returns-then-refused c =
    let number = c.number-refused.ensures ∙ number_is _ in
    rw (c.unwrap_or-used.ensures, c.and.ensures)
    (runs_stop c.loop-i.invariant c.loop-i-test.true c.claim_at.ensures (left_is _ _ _ _ ∙ c.claim_late_in-said.ensures) (λ z. omega (arith, number)))

pub loop-i-preserved : goal.loop-i-preserved
loop-i-preserved c =
    let zero : c.number-refused.result ≡ 0 = omega arith in
    rw c.unwrap_or-used.ensures
    (runs_on c.loop-i.invariant c.loop-i-test.true c.claim_at.ensures (left_is _ _ _ _ ∙ c.claim_late_in-said.ensures) page
    (sym (c.number-refused.ensures ∙ number_is _) ∙ zero) (omega (arith, c.claim_late_in-said.auto)))

pub returns : goal.returns
returns c = runs_end c.loop-i.invariant c.loop-i-test.false
