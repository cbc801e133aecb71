-- `nodes::subnode` meets its contract: where a node begins, the first child of the step after its name. Assumes nothing.
use Rattle.nodes.specs.Nav.{child_at}
use Rattle.nodes.proofs.FindLaws.{child_found}
use Rattle.nodes.proofs.subnode.Goals as goal

pub returns-in_err-p : goal.returns-in_err-p
unfolding child_at
returns-in_err-p c = rw (← c.content_of.ensures, c.in_err-p.was) c.from_residual.ensures

pub returns : goal.returns
unfolding child_at
returns c = rw (← c.content_of.ensures, c.in_ok-p.was) (child_found _ _ _ _ _ c.child_from.ensures)
