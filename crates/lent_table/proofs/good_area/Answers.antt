-- `lent_table::good_area` meets its contract: each return is a fault or the last test (Judging). Assumes nothing.
use native.Mathlib.Omega.{arith}
use Rattle.page.specs.Round.{top}
use Rattle.lent_table.proofs.Judging.{area_fails, area_last}
use Rattle.lent_table.proofs.good_area.Goals as goal

pub returns-then-base-least : goal.returns-then-base-least
returns-then-base-least c = area_fails _ _ _ (λ g. omega (arith, g.from, c.if-base-least.true))

pub returns-then-size-eq0 : goal.returns-then-size-eq0
returns-then-size-eq0 c = area_fails _ _ _ (λ g. omega (arith, g.some, c.if-size-eq0.true))

pub returns-then-base-ne0 : goal.returns-then-base-ne0
returns-then-base-ne0 c = area_fails _ _ _ (λ g. c.if-base-ne0.true g.pages.from)

pub returns-then-base-gt-TOP : goal.returns-then-base-gt-TOP
unfolding top
returns-then-base-gt-TOP c = area_fails _ _ _ (λ g. omega (arith, g.some, g.pages.low, c.if-base-gt-TOP.true))

pub returns-then-base-size : goal.returns-then-base-size
unfolding top
returns-then-base-size c = area_fails _ _ _ (λ g. omega (arith, g.some, g.pages.low, c.if-base-size.true, c.if-base-gt-TOP.false))

pub returns : goal.returns
unfolding top
returns c = area_last _ _ _ (omega arith) (omega arith) c.if-base-ne0.false (omega arith)
