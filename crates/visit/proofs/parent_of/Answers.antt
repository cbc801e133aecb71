-- `visit::parent_of` meets its contract, rule by rule. Assumes nothing.
use Rattle.visit.specs.Steps.{parent_at}
use Rattle.visit.proofs.parent_of.Goals as goal

pub returns-in-Reserve : goal.returns-in-Reserve
returns-in-Reserve c = rw c.in-Reserve.is c.reserved_parent.ensures

pub returns-in-Soc : goal.returns-in-Soc
returns-in-Soc c = rw c.in-Soc.is c.soc_parent.ensures

pub returns-in-Controllers : goal.returns-in-Controllers
unfolding parent_at
returns-in-Controllers c = rw c.in-Controllers.is c.path_offset.ensures
