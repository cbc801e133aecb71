use mathlib.Core.Path.{sym, ◌∙◌}
use Rattle.lent_table.proofs.Judging.{passes, passes_on, passes_stop, passes_end}
use Rattle.lent_table.proofs.past.Goals as goal

pub loop-k-init : goal.loop-k-init
loop-k-init c = passes _ c.requires

pub returns-then-not-ends_by : goal.returns-then-not-ends_by
returns-then-not-ends_by c = passes_stop c.loop-k.invariant c.loop-k-test.true (sym c.ends_by.ensures ∙ c.if-not-ends_by.true)

pub loop-k-preserved : goal.loop-k-preserved
loop-k-preserved c = passes_on c.loop-k.invariant c.loop-k-test.true (sym c.ends_by.ensures ∙ c.if-not-ends_by.false)

pub returns : goal.returns
returns c = passes_end c.loop-k.invariant c.loop-k-test.false
