-- `nodes::count_of` meets its contract: what the property's value states, where there is one. Assumes nothing.
use mathlib.Core.Path.{◌∙◌, ap}
use Rattle.cells.specs.Count.{stated_by}
use Rattle.nodes.specs.Cells.{count_at}
use Rattle.nodes.proofs.count_of.Goals as goal

pub returns-in-Some : goal.returns-in-Some
unfolding count_at
returns-in-Some c = rw (← c.getprop.ensures, c.in-Some.is) (c.stated.ensures ∙ ap stated_by c.part.ensures)

pub returns-in-None : goal.returns-in-None
unfolding count_at
returns-in-None c = rw (← c.getprop.ensures, c.in-None.is)
