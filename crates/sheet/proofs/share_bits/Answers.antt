-- `sheet::share_bits` meets its contract: no share is a NaN (ShareLaws), so its bits are there. Assumes nothing.
use mathlib.Core.Path.{sym, ◌∙◌}
use Rattle.sheet.proofs.ShareLaws.{share_number}
use Rattle.sheet.proofs.share_bits.Goals as goal

pub float_to_bits-result : goal.float_to_bits-result
float_to_bits-result c = share_number c.args.free c.args.usable c.in_ok-share.share (sym c.in_ok-share.was ∙ c.share_of.ensures)
