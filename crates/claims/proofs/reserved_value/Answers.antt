-- `reserved_value` meets its contract: `status` first, then `reg`, then the dynamic case. Assumes nothing.
use Rattle.claims.specs.Values.{child_value}
use Rattle.claims.proofs.reserved_value.Goals as goal

pub returns-then-not-reserved_memory_node_is_available : goal.returns-then-not-reserved_memory_node_is_available
unfolding child_value
returns-then-not-reserved_memory_node_is_available c =
    rw (← c.reserved_memory_node_is_available.ensures, c.if-not-reserved_memory_node_is_available.true)

pub returns-in-Some : goal.returns-in-Some
unfolding child_value
returns-in-Some c =
    rw (← c.reserved_memory_node_is_available.ensures, c.if-not-reserved_memory_node_is_available.false, ← c.getprop.ensures, c.in-Some.is)

pub returns-in-None : goal.returns-in-None
unfolding child_value
returns-in-None c =
    rw (← c.reserved_memory_node_is_available.ensures, c.if-not-reserved_memory_node_is_available.false, ← c.getprop.ensures, c.in-None.is)
    c.dynamic_value.ensures
