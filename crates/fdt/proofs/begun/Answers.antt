-- `fdt::begun` meets its contract: each way out is one way through the tests of `begin_step`. Assumes nothing.
use borrow.Author.Tests.{ne_eqb, eq-eqb, le-leb, lt-leb}
use Rattle.fdt.specs.Walk.{begin_step}
use Rattle.fdt.proofs.begun.Goals as goal

pub returns-then-nodes-ne0 : goal.returns-then-nodes-ne0
unfolding begin_step
returns-then-nodes-ne0 c = rw (eq-eqb _ _ c.if-depth-eq0.true, ne_eqb _ _ c.if-nodes-ne0.true)

pub returns-then-len-ne0 : goal.returns-then-len-ne0
unfolding begin_step
returns-then-len-ne0 c = rw (eq-eqb _ _ c.if-depth-eq0.true, eq-eqb _ _ c.if-nodes-ne0.false, ne_eqb _ _ c.if-len-ne0.true)

pub returns-then-depth-eq0 : goal.returns-then-depth-eq0
unfolding begin_step
returns-then-depth-eq0 c = rw (eq-eqb _ _ c.if-depth-eq0.true, eq-eqb _ _ c.if-nodes-ne0.false, eq-eqb _ _ c.if-len-ne0.false)

pub returns-then-depth-ge32 : goal.returns-then-depth-ge32
unfolding begin_step
returns-then-depth-ge32 c = rw (ne_eqb _ _ c.if-depth-eq0.false, le-leb _ _ c.if-depth-ge32.true)

pub returns-then-nodes-ge4096 : goal.returns-then-nodes-ge4096
unfolding begin_step
returns-then-nodes-ge4096 c = rw (ne_eqb _ _ c.if-depth-eq0.false, lt-leb _ _ c.if-depth-ge32.false, le-leb _ _ c.if-nodes-ge4096.true)

pub returns : goal.returns
unfolding begin_step
returns c = rw (ne_eqb _ _ c.if-depth-eq0.false, lt-leb _ _ c.if-depth-ge32.false, lt-leb _ _ c.if-nodes-ge4096.false)
