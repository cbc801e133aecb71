use mathlib.Core.Path.{ap, ◌∙◌}
use Rattle.page.specs.Round.{down}
use Rattle.page.proofs.Laws.{up_code, page}
use Rattle.page.proofs.align_up.Goals as goal

pub returns : goal.returns
returns c =
    c.align_down.ensures ∙ ap (down 4096) c.saturating_add.ensures ∙ up_code 4096 c.args.x page c.ranges.x.fits
