-- `translation::up_through` meets its contract: what the bus does with the region that was found below it, by StepLaws.up_gone. Assumes
-- nothing.
use mathlib.Core.Logic.{⊎_elim}
use Rattle.translation.proofs.StepLaws.{up_gone, up_other}
use Rattle.translation.proofs.up_through.Goals as goal

pub returns-in-To : goal.returns-in-To
returns-in-To c =
    up_gone _ _ _ _ _ _ _ c.in-Gone.is c.over_bus.ensures c.in-To.is

pub returns-in-Nowhere : goal.returns-in-Nowhere
returns-in-Nowhere c = ⊎_elim (λ e. up_gone _ _ _ _ _ _ _ c.in-Gone.is c.over_bus.ensures e) (λ e. up_gone _ _ _ _ _ _ _ c.in-Gone.is c.over_bus.ensures e) c.in-Nowhere.is

pub returns-in_default : goal.returns-in_default
returns-in_default c = up_other _ _ c.in_default.not-Gone
