-- `nodes::first_subnode` meets its contract: where a node begins, the first node after its name. Assumes nothing.
use Rattle.nodes.specs.Nav.{first_at}
use Rattle.nodes.proofs.first_subnode.Goals as goal

pub returns-in_err-p : goal.returns-in_err-p
unfolding first_at
returns-in_err-p c = rw (← c.content_of.ensures, c.in_err-p.was) c.from_residual.ensures

pub returns : goal.returns
unfolding first_at
returns c = rw (← c.content_of.ensures, c.in_ok-p.was) c.kid_from.ensures
