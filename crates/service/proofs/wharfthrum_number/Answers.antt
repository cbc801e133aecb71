-- `wharfthrum_number` answers the number of the report under 512 slots.
use mathlib.Core.Path.{ap, ◌∙◌}
use Rattle.startup.specs.Report.{report_number}
use Rattle.service.proofs.wharfthrum_number.Goals as goal

pub returns : goal.returns
returns c = c.number.ensures ∙ ap report_number c.init-report.ensures.report
