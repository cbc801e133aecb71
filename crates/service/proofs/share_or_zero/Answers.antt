-- `share_or_zero` answers the share, or +0. Assumes nothing.
use mathlib.Core.Path.{◌≡◌, refl, ◌∙◌}
use lib.Ieee
use Rattle.std.specs.Prelude.{Option, Some, None, Float}
use Rattle.std.specs.Option.{unwrap_or}
use Rattle.sheet.specs.Nearest.{plus_zero}
use Rattle.service.specs.Plain.{share_float}
use Rattle.service.proofs.share_or_zero.Goals as goal

either : (o : Option Float) → unwrap_or o plus_zero ≡ share_float o
either None = refl
either (Some x) = refl

pub returns : goal.returns
unfolding Ieee.of_bits
returns c = c.unwrap_or.ensures ∙ either c.args.share
