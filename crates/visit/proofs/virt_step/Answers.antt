-- `visit::virt_step` meets its contract: the first range at row 0, and then the second. Assumes nothing.
use borrow.Author.Tests.{ne_eqb}
use Rattle.visit.specs.Steps.{virt_step}
use Rattle.visit.proofs.virt_step.Goals as goal

pub returns-then-cursor-eq0 : goal.returns-then-cursor-eq0
unfolding virt_step
returns-then-cursor-eq0 c = rw (c.if-cursor-eq0.true, c.number.ensures, c.with_row.ensures)

pub returns : goal.returns
unfolding virt_step
returns c = rw (ne_eqb _ _ c.if-cursor-eq0.false, c.number-2.ensures, c.start_at.ensures)
