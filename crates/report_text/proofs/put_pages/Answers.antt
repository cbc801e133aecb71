-- `report_text::put_pages` meets its contract: its texts stand one behind the other (WritingLaws). Assumes nothing.
use Rattle.report_text.specs.Text.{pages_line}
use Rattle.pen.proofs.WritingLaws.{lands_append, and_then_lem}
use Rattle.report_text.proofs.put_pages.Goals as goal

pub returns : goal.returns
unfolding pages_line
returns c =
    and_then_lem c.put-a.ensures
    (and_then_lem c.put_decimal-b.ensures
    (and_then_lem c.put-c.ensures
    (and_then_lem c.put_decimal-d.ensures (and_then_lem c.put-e.ensures (lands_append c.put_share-f.ensures c.put.ensures.fits)))))
