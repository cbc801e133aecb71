-- `visit::next_child` meets its contract: the next child with its value, or what comes after the children. Assumes nothing.
use Rattle.visit.proofs.next_child.Goals as goal

pub returns-in_default : goal.returns-in_default
returns-in_default c = rw c.in_default.is c.after.ensures

pub returns : goal.returns
returns c = rw (c.in-Some.is, ← c.next_subnode.ensures, ← c.child_value.ensures, ← c.part_by.ensures)
