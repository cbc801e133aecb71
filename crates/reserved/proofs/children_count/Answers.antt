-- `children_count` meets its contract: what is read at the two places is what the nodes there say, and the tests go in the order of the
-- definition. Assumes nothing.
use Rattle.reserved.proofs.ChildrenLaws.{empty_here, empty_missing, alike, addresses_differ, sizes_differ, by_ranges}
use Rattle.reserved.proofs.children_count.Goals as goal

pub returns-then-not-stated_alike : goal.returns-then-not-stated_alike
returns-then-not-stated_alike c =
    addresses_differ _ _ _ (alike _ _ _ _ _ _ _ _ c.address_cells-address.ensures c.address_cells.ensures c.stated_alike.ensures) c.if-not-stated_alike.true

pub returns-then-not-stated_alike-2 : goal.returns-then-not-stated_alike-2
returns-then-not-stated_alike-2 c =
    sizes_differ _ _ _ (alike _ _ _ _ _ _ _ _ c.address_cells-address.ensures c.address_cells.ensures c.stated_alike.ensures) c.if-not-stated_alike.false _
    (alike _ _ _ _ _ _ _ _ c.size_cells-size.ensures c.size_cells.ensures c.stated_alike-2.ensures) c.if-not-stated_alike-2.true

pub returns-in-Some : goal.returns-in-Some
returns-in-Some c =
    by_ranges _ _ _ (alike _ _ _ _ _ _ _ _ c.address_cells-address.ensures c.address_cells.ensures c.stated_alike.ensures) c.if-not-stated_alike.false _
    (alike _ _ _ _ _ _ _ _ c.size_cells-size.ensures c.size_cells.ensures c.stated_alike-2.ensures) c.if-not-stated_alike-2.false _
    (empty_here _ _ _ _ _ c.getprop.ensures _ c.in-Some.is)

pub returns-in-None : goal.returns-in-None
returns-in-None c =
    by_ranges _ _ _ (alike _ _ _ _ _ _ _ _ c.address_cells-address.ensures c.address_cells.ensures c.stated_alike.ensures) c.if-not-stated_alike.false _
    (alike _ _ _ _ _ _ _ _ c.size_cells-size.ensures c.size_cells.ensures c.stated_alike-2.ensures) c.if-not-stated_alike-2.false _
    (empty_missing _ _ _ _ _ c.getprop.ensures c.in-None.is)
