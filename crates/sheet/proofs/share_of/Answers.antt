-- `sheet::share_of` meets its contract: both counts are below 2 ^ 52, so they become floats with nothing lost, and the rest is one division,
-- as in `quotient`. Assumes nothing.
use mathlib.Core.Path.{sym}
use native.Mathlib.Omega.{arith}
use Rattle.sheet.specs.Share.{quotient}
use Rattle.sheet.proofs.ShareLaws.{exact, share_some}
use Rattle.sheet.proofs.share_of.Goals as goal

pub int_to_float-part : goal.int_to_float-part
int_to_float-part c = exact _ _ c.counted_as-part.ensures

pub int_to_float-whole : goal.int_to_float-whole
int_to_float-whole c = exact _ _ c.counted_as-whole.ensures

pub returns : goal.returns
unfolding quotient
returns c =
    rw (c.counted_as-part.ensures, c.counted_as-whole.ensures)
    (sym (share_some c.args.free c.args.usable (omega arith)))
