use Rattle.report_text.proofs.TextLaws.{text_of_report}
use Rattle.report_text.proofs.report.Goals as goal

pub returns : goal.returns
returns c = record { writes = text_of_report c.init-answer.ensures c.text.ensures; slots_after = c.init-answer.ensures.slots }
