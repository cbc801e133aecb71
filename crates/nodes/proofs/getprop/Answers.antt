-- `nodes::getprop` meets its contract: where a node begins, the first property of the name after its name. Assumes nothing.
use Rattle.nodes.specs.Nav.{prop_at}
use Rattle.nodes.proofs.getprop.Goals as goal

pub returns-in_err-p : goal.returns-in_err-p
unfolding prop_at
returns-in_err-p c = rw (← c.content_of.ensures, c.in_err-p.was) c.from_residual.ensures

pub returns : goal.returns
unfolding prop_at
returns c = rw (← c.content_of.ensures, c.in_ok-p.was) c.prop_from.ensures
