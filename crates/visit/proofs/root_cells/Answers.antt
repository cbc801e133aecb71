-- `visit::root_cells` meets its contract: the root's count, where there is a root. Assumes nothing.
use Rattle.visit.specs.Steps.{root_cells}
use Rattle.visit.proofs.root_cells.Goals as goal

pub returns-in-Some : goal.returns-in-Some
unfolding root_cells
returns-in-Some c = rw (← c.path_offset.ensures, c.in-Some.is) c.address_cells.ensures

pub returns-in-None : goal.returns-in-None
unfolding root_cells
returns-in-None c = rw (← c.path_offset.ensures, c.in-None.is)
