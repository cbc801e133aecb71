-- `report_text::put_refusal` meets its contract: its texts stand one behind the other (WritingLaws). Assumes nothing.
use Rattle.report_text.specs.Text.{refused_line}
use Rattle.pen.proofs.WritingLaws.{and_then_lem}
use Rattle.report_text.proofs.put_refusal.Goals as goal

pub returns : goal.returns
unfolding refused_line
returns c = and_then_lem c.put-a.ensures (and_then_lem c.put_decimal-b.ensures c.put.ensures.fits)
