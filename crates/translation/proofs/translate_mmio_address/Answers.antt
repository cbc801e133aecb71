-- `translation::translate_mmio_address` meets its contract: the search from the root's children on, by StepLaws.from_root, which has it from
-- SearchLaws.search_is. Assumes nothing.
use mathlib.Core.Path.{◌∙◌}
use Rattle.translation.proofs.StepLaws.{no_root, root_begins, from_root}
use Rattle.translation.proofs.translate_mmio_address.Goals as goal

pub returns-in_err-root : goal.returns-in_err-root
returns-in_err-root c = c.from_residual.ensures ∙ no_root _ _ _ _ _ c.path_offset.ensures c.in_err-root.was

pub translate_from_children-requires : goal.translate_from_children-requires
translate_from_children-requires c = root_begins _ c.first_subnode-first.ensures

pub returns : goal.returns
returns c =
    from_root _ _ _ _ _ c.path_offset.ensures _ c.in_ok-root.was _ c.first_subnode-first.ensures _ _ _ _ c.cells_of-cells.ensures.address c.cells_of-cells.ensures.size c.translate_from_children.ensures c.finish.ensures
