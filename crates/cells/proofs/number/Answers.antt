-- `cells::number` meets its contract: four bytes, or else eight. Assumes nothing.
use borrow.Author.Tests.{eq-eqb, ne_eqb}
use Rattle.cells.proofs.number.Goals as goal

pub returns-then-w-eq4 : goal.returns-then-w-eq4
returns-then-w-eq4 c = rw (eq-eqb _ _ c.if-w-eq4.true) c.be32.ensures.is

pub returns : goal.returns
returns c = rw (ne_eqb _ _ c.if-w-eq4.false) c.be64.ensures.is
