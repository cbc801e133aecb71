-- `late_claim::judge` meets its contract: one law for each return (Judging). Assumes nothing.
use mathlib.Core.Path.{sym, ◌∙◌}
use Rattle.late_claim.proofs.Judging.{judged_unknown, judged_never, judged_bad, judged_done}
use Rattle.late_claim.proofs.judge.Goals as goal

pub returns-in_default : goal.returns-in_default
returns-in_default c = judged_unknown 4096 _ _ _ (sym c.in_default.is ∙ c.kind_of.ensures)

pub returns-then-kind-number : goal.returns-then-kind-number
returns-then-kind-number c = judged_never 4096 _ _ _ (sym c.in-Some.is ∙ c.kind_of.ensures) (rw c.number.ensures at c.if-kind-number.true)

pub returns-then-not-good_table : goal.returns-then-not-good_table
returns-then-not-good_table c = judged_bad 4096 _ _ _ (sym c.in-Some.is ∙ c.kind_of.ensures) (rw c.number.ensures at c.if-kind-number.false) (sym c.good_table.ensures ∙ c.if-not-good_table.true)

pub returns : goal.returns
returns c = judged_done 4096 _ _ _ (sym c.in-Some.is ∙ c.kind_of.ensures) (rw c.number.ensures at c.if-kind-number.false) (sym c.good_table.ensures ∙ c.if-not-good_table.false)
