use mathlib.Core.Path.{refl}
use Rattle.page.specs.Round.{down}
use Rattle.page.proofs.align_down.Goals as goal

pub returns : goal.returns
unfolding down
returns c = refl
