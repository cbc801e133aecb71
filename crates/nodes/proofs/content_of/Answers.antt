-- `nodes::content_of` meets its contract: each answer is that of its token. Assumes nothing.
use mathlib.Core.Path.{sym, ◌∙◌, ap}
use Rattle.nodes.specs.Nav.{content_of}
use Rattle.nodes.proofs.TokenLaws.{contentless}
use Rattle.nodes.proofs.content_of.Goals as goal

pub returns-in-Begin : goal.returns-in-Begin
returns-in-Begin c = ap content_of (sym c.in-Begin.is ∙ c.token_at.ensures)

pub returns-in_default : goal.returns-in_default
returns-in_default c = contentless _ c.in_default.not-Begin ∙ ap content_of c.token_at.ensures
