-- `fdt::stepped` meets its contract: each way out is one way through `step_of`. Assumes nothing.
use borrow.Author.Tests.{ne_eqb, eq-eqb}
use Rattle.fdt.specs.Walk.{step_of}
use Rattle.fdt.proofs.stepped.Goals as goal

pub returns-then-depth-eq0 : goal.returns-then-depth-eq0
unfolding step_of
returns-then-depth-eq0 c = rw (c.in-EndNode.is, eq-eqb _ _ c.if-depth-eq0.true)

pub returns-then-props : goal.returns-then-props
unfolding step_of
returns-then-props c = rw (c.in-Prop.is, c.if-props.true)

pub returns-then-depth-ne0 : goal.returns-then-depth-ne0
unfolding step_of
returns-then-depth-ne0 c = rw (c.in-Fin.is, ne_eqb _ _ c.if-depth-ne0.true)

pub returns-then-nodes-eq0 : goal.returns-then-nodes-eq0
unfolding step_of
returns-then-nodes-eq0 c = rw (c.in-Fin.is, eq-eqb _ _ c.if-depth-ne0.false, eq-eqb _ _ c.if-nodes-eq0.true)

pub returns-in-Bad : goal.returns-in-Bad
unfolding step_of
returns-in-Bad c = rw c.in-Bad.is

pub returns-in-Nop : goal.returns-in-Nop
unfolding step_of
returns-in-Nop c = rw c.in-Nop.is

pub returns-in-Begin : goal.returns-in-Begin
unfolding step_of
returns-in-Begin c = rw (c.in-Begin.is, c.begun.ensures)

pub returns-else-depth-eq0 : goal.returns-else-depth-eq0
unfolding step_of
returns-else-depth-eq0 c = rw (c.in-EndNode.is, ne_eqb _ _ c.if-depth-eq0.false)

pub returns-else-props : goal.returns-else-props
unfolding step_of
returns-else-props c = rw (c.in-Prop.is, c.if-props.false)

pub returns-else-nodes-eq0 : goal.returns-else-nodes-eq0
unfolding step_of
returns-else-nodes-eq0 c = rw (c.in-Fin.is, eq-eqb _ _ c.if-depth-ne0.false, ne_eqb _ _ c.if-nodes-eq0.false)
