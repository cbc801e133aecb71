-- `report_text::put_share` meets its contract: in each arm the share's text is the arm's (TextLaws). Assumes nothing.
use Rattle.report_text.proofs.TextLaws.{share_none, share_bits}
use Rattle.pen.proofs.WritingLaws.{as_text}
use Rattle.report_text.proofs.put_share.Goals as goal

pub returns-in-None : goal.returns-in-None
returns-in-None c = as_text (share_none c.args.sheet c.share_bits.ensures c.in-None.is) c.put.ensures.fits

pub returns-in-Some : goal.returns-in-Some
returns-in-Some c = as_text (share_bits c.args.sheet c.share_bits.ensures c.in-Some.is) c.put_hex.ensures.fits
