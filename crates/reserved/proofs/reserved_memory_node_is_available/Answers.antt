-- `reserved_memory_node_is_available` meets its contract: `status` is what stands at its place, or it is absent. Assumes nothing.
use Rattle.reserved.proofs.ChildrenLaws.{status_here, status_missing}
use Rattle.reserved.proofs.reserved_memory_node_is_available.Goals as goal

pub returns-in-Some : goal.returns-in-Some
returns-in-Some c =
    status_here _ _ _ _ c.getprop.ensures _ _ _ c.in-Some.is c.part.ensures c.same.ensures

pub returns-in-None : goal.returns-in-None
returns-in-None c = status_missing _ _ _ _ c.getprop.ensures c.in-None.is
