-- `bad_ranges` meets its contract: by the first row of the `ranges` of /soc, and where that cannot be read by its children. Assumes nothing.
use mathlib.Core.Path.{refl}
use Rattle.claims.proofs.JudgeLaws.{first_found, no_soc, no_ranges, readable_row, readable, met}
use Rattle.claims.proofs.bad_ranges.Goals as goal

pub returns-in_default : goal.returns-in_default
returns-in_default c = no_soc _ _ _ _ c.subnode.ensures c.in_default.is

pub returns-in_default-getprop : goal.returns-in_default-getprop
returns-in_default-getprop c = no_ranges _ _ _ _ c.subnode.ensures _ c.in-Some.is _ c.getprop.ensures c.in_default-getprop.is

pub some_child-requires : goal.some_child-requires
some_child-requires c = first_found _ _ _ _ c.first_subnode-first.ensures

pub returns : goal.returns
returns c =
    met _ _ _ _ c.subnode.ensures _ c.in-Some.is _ c.getprop.ensures _ c.in-Some-getprop.is _ c.part-value.ensures _ _ _ c.cells_of-own.ensures.address
    c.address_cells-parent.ensures c.cells_of-own.ensures.size _ c.range_row.ensures
    c.in-NoRange.is _ c.first_subnode-first.ensures _ c.some_child.ensures

pub returns-in_default-range_row : goal.returns-in_default-range_row
returns-in_default-range_row c =
    readable _ _ _ _ c.subnode.ensures _ c.in-Some.is _ c.getprop.ensures _ c.in-Some-getprop.is _ c.part-value.ensures _ _ _ c.cells_of-own.ensures.address
    c.address_cells-parent.ensures c.cells_of-own.ensures.size _ c.range_row.ensures
    _ refl (readable_row _ c.in_default-range_row.not-NoRange)
