use native.Mathlib.Omega.{arith}
use mathlib.Core.Path.{sym, ◌∙◌}
use Rattle.page.specs.Round.{top}
use Rattle.lent_table.proofs.TableLaws.{area_says}
use Rattle.lent_table.proofs.Judging.{table_short, judges, judges_bad, judges_on, judges_end}
use Rattle.lent_table.proofs.good_table.Goals as goal

pub returns-then-slots-n : goal.returns-then-slots-n
returns-then-slots-n c = table_short _ _ _ c.if-slots-n.true

pub loop-k-init : goal.loop-k-init
loop-k-init c = judges _ _ _ c.if-slots-n.false

pub returns-then-not-good_area : goal.returns-then-not-good_area
returns-then-not-good_area c = judges_bad c.loop-k.invariant c.loop-k-test.true (sym c.good_area.ensures ∙ c.if-not-good_area.true)

pub overflow_add-least : goal.overflow_add-least
unfolding top
overflow_add-least c = omega (arith, (area_says _ _ _ (sym c.good_area.ensures ∙ c.if-not-good_area.false)).pages.low)

pub overflow_add-least-in-loop-k : goal.overflow_add-least-in-loop-k
unfolding top
overflow_add-least-in-loop-k c = omega (arith, (area_says _ _ _ (sym c.good_area.ensures ∙ c.if-not-good_area.false)).pages.low)

pub loop-k-preserved : goal.loop-k-preserved
loop-k-preserved c = judges_on c.loop-k.invariant c.loop-k-test.true (sym c.good_area.ensures ∙ c.if-not-good_area.false)

pub returns : goal.returns
returns c = judges_end c.loop-k.invariant c.loop-k-test.false
