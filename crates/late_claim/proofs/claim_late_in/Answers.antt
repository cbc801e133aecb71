-- `late_claim::claim_late_in` meets its contract: it judges and then enters (Claiming). Assumes nothing.
use mathlib.Core.Path.{sym, ◌∙◌}
use Rattle.numbers.proofs.Passed.{passed}
use Rattle.late_claim.proofs.Claiming.{late_judged_no, late_enters}
use Rattle.late_claim.proofs.claim_late_in.Goals as goal

pub returns-in_err-judge : goal.returns-in_err-judge
returns-in_err-judge c =
    rw (passed c.from_residual.result c.from_residual.ensures.1)
    (sym (late_judged_no 4096 _ _ _ _ _ (sym c.judge.ensures ∙ c.in_err-judge.was)))

pub enter_in-requires : goal.enter_in-requires
enter_in-requires c = record { made = c.requires; checked = sym c.judge.ensures ∙ c.in_ok-judge.was }

pub returns : goal.returns
returns c = c.enter_in.ensures ∙ sym (late_enters 4096 _ _ _ _ (sym c.judge.ensures ∙ c.in_ok-judge.was))
