-- `report_text::put_area` meets its contract: its texts stand one behind the other (WritingLaws). Assumes nothing.
use Rattle.report_text.specs.Text.{area_line}
use Rattle.pen.proofs.WritingLaws.{and_then_lem}
use Rattle.report_text.proofs.put_area.Goals as goal

pub returns : goal.returns
unfolding area_line
returns c = and_then_lem c.put_hex-a.ensures (and_then_lem c.put-b.ensures (and_then_lem c.put_hex-c.ensures c.put.ensures.fits))
