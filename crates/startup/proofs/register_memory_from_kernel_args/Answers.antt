-- `register_memory_from_kernel_args` goes through the list, the tree and the pairs; each way out is a law on the run of them all.
use mathlib.Core.Path.{ap, ◌∙◌}
use native.Mathlib.Omega.{arith}
use Rattle.page.proofs.Laws.{page}
use Rattle.memory.proofs.MapLaws.{blank_made}
use Rattle.memory.specs.Run.{is_done}
use Rattle.startup.specs.Verdict.{tree_fault}
use Rattle.startup.proofs.SourceLaws.{is_unknown, not_unknown, unknown_sources, full_sources, faulty_sources, all_sources, list_made, treed_made}
use Rattle.startup.proofs.register_memory_from_kernel_args.Goals as goal

pub register_bootloader_areas-listed-requires : goal.register_bootloader_areas-listed-requires
register_bootloader_areas-listed-requires c = rw c.empty.ensures (blank_made 4096)

pub returns-then-unknown : goal.returns-then-unknown
returns-then-unknown c =
    c.rejected.ensures
    ∙ unknown_sources 4096 _ _ _ _ _ _ c.empty.ensures
    c.part-list.ensures c.part-tree.ensures c.register_bootloader_areas-listed.ensures
    (is_unknown _ c.number.ensures (omega arith))

pub register_devicetree-treed-requires : goal.register_devicetree-treed-requires
register_devicetree-treed-requires c = list_made 4096 page _ _ _ c.empty.ensures c.register_bootloader_areas-listed.ensures

pub returns-in-Err : goal.returns-in-Err
returns-in-Err c =
    c.rejected-in-Err.ensures
    ∙ rw c.from.ensures
    (faulty_sources 4096 _ _ _ _ _ _ c.empty.ensures
    c.part-list.ensures c.part-tree.ensures c.register_bootloader_areas-listed.ensures
    (not_unknown _ c.number.ensures (λ one. omega arith)) _ c.register_devicetree-treed.ensures
    _ (ap tree_fault c.in-Err.is))

pub returns-in_default-answer : goal.returns-in_default-answer
returns-in_default-answer c =
    c.rejected-in_default-answer.ensures
    ∙ full_sources 4096 _ _ _ _ _ _ c.empty.ensures
    c.part-list.ensures c.part-tree.ensures c.register_bootloader_areas-listed.ensures
    (not_unknown _ c.number.ensures (λ one. omega arith)) _ c.register_devicetree-treed.ensures
    (ap tree_fault c.in_default.is) (ap is_done c.in_default-answer.is)

pub register_pairs-requires : goal.register_pairs-requires
register_pairs-requires c =
    treed_made 4096 page _ _ _ _ (list_made 4096 page _ _ _ c.empty.ensures c.register_bootloader_areas-listed.ensures) c.register_devicetree-treed.ensures

pub returns : goal.returns
returns c =
    c.register_pairs.ensures
    ∙ all_sources 4096 _ _ _ _ _ _ c.empty.ensures
    c.part-list.ensures c.part-tree.ensures c.register_bootloader_areas-listed.ensures
    (not_unknown _ c.number.ensures (λ one. omega arith)) _ c.register_devicetree-treed.ensures
    (ap tree_fault c.in_default.is) c.in-Ok.is
