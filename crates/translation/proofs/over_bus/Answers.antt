-- `translation::over_bus` meets its contract: through the `ranges` of the bus, or nowhere where it has none, by StepLaws.over_here and
-- over-not. Assumes nothing.
use Rattle.translation.proofs.StepLaws.{over_here, over_not}
use Rattle.translation.proofs.over_bus.Goals as goal

pub returns-in-Some : goal.returns-in-Some
returns-in-Some c =
    over_here _ _ _ _ _ _ _ c.getprop.ensures _ _ _ _ _ c.in-Some.is c.part.ensures c.cells_of.ensures.address c.cells_of.ensures.size c.translate_bus_address.ensures

pub returns-in-None : goal.returns-in-None
returns-in-None c = over_not _ _ _ _ _ _ _ c.getprop.ensures c.in-None.is
