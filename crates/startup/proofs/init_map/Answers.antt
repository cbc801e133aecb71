-- `init_map` reads the order file, registers its sources, and finishes the areas; each way out is a case of the report, with the map beside
-- it. Assumes nothing.
use mathlib.Core.Path.{sym, ◌∙◌}
use Rattle.page.proofs.Laws.{page}
use Rattle.startup.proofs.ReportLaws.{map_made, reports_refused, reports_no_order}
use Rattle.startup.proofs.StartLaws.{starts_refused, starts_finished}
use Rattle.startup.proofs.init_map.Goals as goal

pub start_finished-requires : goal.start_finished-requires
start_finished-requires c = map_made 4096 _ _ _ c.register_memory_from_kernel_args-sources.ensures page

pub returns-in-Err : goal.returns-in-Err
returns-in-Err c =
    starts_refused 4096 _ _ _ (rw c.from.ensures (reports_no_order 4096 _ _ _ (sym c.in-Err.is ∙ c.read_order.ensures))) _ c.not_started.ensures

pub returns-in-Err-verdict : goal.returns-in-Err-verdict
returns-in-Err-verdict c = starts_refused 4096 _ _ _
    (reports_refused 4096 _ _ _ c.register_memory_from_kernel_args-sources.ensures _ (sym c.in-Ok.is ∙ c.read_order.ensures) _ c.in-Err-verdict.is)
    _ c.not_started-in-Err-verdict.ensures

pub returns-in-Ok-verdict : goal.returns-in-Ok-verdict
returns-in-Ok-verdict c =
    starts_finished 4096 _ _ _ _ c.register_memory_from_kernel_args-sources.ensures (sym c.in-Ok.is ∙ c.read_order.ensures) c.in-Ok-verdict.is _ _ c.start_finished.ensures
