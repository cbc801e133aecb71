-- `nodes::next_subnode` meets its contract: where a node begins, the first node past its end. Assumes nothing.
use mathlib.Core.Path.{◌∙◌, ap}
use Rattle.nodes.specs.Nav.{first_kid, next_at}
use Rattle.nodes.proofs.next_subnode.Goals as goal

pub returns-in_err-p : goal.returns-in_err-p
unfolding next_at
returns-in_err-p c = rw (← c.content_of.ensures, c.in_err-p.was) c.from_residual.ensures

pub returns : goal.returns
unfolding next_at
returns c = rw (← c.content_of.ensures, c.in_ok-p.was) (c.kid_from.ensures ∙ ap first_kid c.skip.ensures.is)
