-- `bad_reg` meets its contract: by the children of /reserved-memory, where it is there and they count. Assumes nothing.
use Rattle.claims.proofs.JudgeLaws.{first_found, no_reserved, uncounted, counted}
use Rattle.claims.proofs.bad_reg.Goals as goal

pub returns-in_default : goal.returns-in_default
returns-in_default c = no_reserved _ _ _ _ c.subnode.ensures c.in_default.is

pub returns-then-not-children_count : goal.returns-then-not-children_count
returns-then-not-children_count c =
    uncounted _ _ _ _ c.subnode.ensures _ c.in-Some.is _ c.children_count.ensures (c.if-not-children_count.true)

pub some_child-requires : goal.some_child-requires
some_child-requires c = first_found _ _ _ _ c.first_subnode-first.ensures

pub returns : goal.returns
returns c =
    counted _ _ _ _ c.subnode.ensures _ c.in-Some.is _ c.children_count.ensures (c.if-not-children_count.false)
    _ c.first_subnode-first.ensures _ _ c.cells_of.ensures.address c.cells_of.ensures.size _ c.some_child.ensures
