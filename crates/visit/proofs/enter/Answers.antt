-- `visit::enter` meets its contract: the cursor before the first child of the parent that is found. Assumes nothing.
use Rattle.visit.specs.Steps.{enter_at}
use Rattle.visit.proofs.enter.Goals as goal

pub returns-in_default : goal.returns-in_default
unfolding enter_at
returns-in_default c = rw (← c.parent_of.ensures, c.in_default.is) c.start_at.ensures

pub returns : goal.returns
unfolding enter_at
returns c =
    rw (← c.parent_of.ensures, c.in-Some.is, ← c.first_subnode.ensures, ← c.cells_of.ensures.address)
    (rw (← c.root_cells.ensures, ← c.cells_of.ensures.size, ← c.ranges_of.ensures))
