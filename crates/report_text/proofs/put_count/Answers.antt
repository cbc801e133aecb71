-- `report_text::put_count` meets its contract: its texts stand one behind the other (WritingLaws). Assumes nothing.
use Rattle.report_text.specs.Text.{count_line}
use Rattle.pen.proofs.WritingLaws.{and_then_lem}
use Rattle.report_text.proofs.put_count.Goals as goal

pub returns : goal.returns
unfolding count_line
returns c = and_then_lem c.put-a.ensures (and_then_lem c.put_decimal-b.ensures c.put.ensures.fits)
