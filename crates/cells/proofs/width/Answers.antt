-- `cells::width` meets its contract: each arm knows which count it has. Assumes nothing.
use Rattle.cells.proofs.width.Goals as goal

pub returns-in-Stated : goal.returns-in-Stated
returns-in-Stated c = rw c.in-Stated.is c.cell_bytes.ensures

pub returns-in-Absent : goal.returns-in-Absent
returns-in-Absent c = rw c.in-Absent.is c.cell_bytes-in-Absent.ensures
