-- `lands` goes by the rule of the parent: each arm knows which it is. Assumes nothing.
use Rattle.claims.specs.Claims.{lands_by}
use Rattle.claims.proofs.lands.Goals as goal

pub returns-in-Reserve : goal.returns-in-Reserve
unfolding lands_by
returns-in-Reserve c = rw c.in-Reserve.is

pub returns-in-Soc : goal.returns-in-Soc
unfolding lands_by
returns-in-Soc c = rw c.in-Soc.is c.get_mmio_address.ensures

pub returns-in-Controllers : goal.returns-in-Controllers
unfolding lands_by
returns-in-Controllers c = rw c.in-Controllers.is c.at_root.ensures
