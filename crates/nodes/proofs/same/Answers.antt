-- `nodes::same` meets its contract: std's `==` compares the slices a byte at a time. Assumes nothing.
use mathlib.Core.Path.{◌∙◌}
use Rattle.nodes.proofs.SameLaws.{bytewise}
use Rattle.nodes.proofs.same.Goals as goal

pub returns : goal.returns
returns c = c.eq.ensures ∙ bytewise _ _
