-- `nodes::kid_from` meets its contract: what stands past the properties, as an answer. Assumes nothing.
use mathlib.Core.Path.{sym, ◌∙◌, ap}
use mathlib.Core.Logic.{⊎_elim}
use Rattle.nodes.proofs.NavLaws.{headed, kid_first}
use Rattle.nodes.proofs.kid_from.Goals as goal

pub returns-in-Node : goal.returns-in-Node
returns-in-Node c = ap headed (sym c.in-Node.is) ∙ kid_first _ _ _ c.next_kid.result c.next_kid.ensures

pub returns-in-End : goal.returns-in-End
returns-in-End c = ⊎_elim (λ e. ap headed (sym e.1)) (λ e. ap headed (sym e)) c.in-End.is ∙ kid_first _ _ _ c.next_kid.result c.next_kid.ensures
