-- `visit::region_step` meets its contract: a claim where the region lies somewhere, and else none. Assumes nothing.
use mathlib.Core.Logic.{⊎_elim}
use Rattle.visit.proofs.CodeLaws.{lies}
use Rattle.visit.proofs.region_step.Goals as goal

pub returns-in-To : goal.returns-in-To
returns-in-To c =
    rw c.kind.ensures (lies _ _ _ _ c.part.ensures _ _ _ _ _ _ _ _ c.lands.ensures c.in-To.is)

pub returns-in-Nowhere : goal.returns-in-Nowhere
returns-in-Nowhere c = ⊎_elim (λ e. lies _ _ _ _ c.part.ensures _ _ _ _ _ _ _ _ c.lands.ensures e) (λ e. lies _ _ _ _ c.part.ensures _ _ _ _ _ _ _ _ c.lands.ensures e) c.in-Nowhere.is
