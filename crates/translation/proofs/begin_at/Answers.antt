-- `translation::begin_at` meets its contract: the given region, or the first row of the `reg` that the node at hand has, by
-- StepLaws.begins_row and begins-not. Assumes nothing.
use mathlib.Core.Logic.{⊎_elim}
use Rattle.translation.proofs.StepLaws.{begins_row, begins_not}
use Rattle.translation.proofs.begin_at.Goals as goal

pub returns-in-Given : goal.returns-in-Given
returns-in-Given c = rw c.in-Given.is

pub returns-in-RegAt : goal.returns-in-RegAt
returns-in-RegAt c =
    begins_row _ _ _ _ _ _ _ c.in-FirstReg.is _ c.getprop.ensures _ _ _ _ c.in-Some.is c.part-value.ensures c.reg_row.ensures c.in-RegAt.is

pub returns-in-PastReg : goal.returns-in-PastReg
returns-in-PastReg c =
    ⊎_elim
    (λ e. begins_row _ _ _ _ _ _ _ c.in-FirstReg.is _ c.getprop.ensures _ _ _ _ c.in-Some.is c.part-value.ensures c.reg_row.ensures e)
    (λ e. begins_row _ _ _ _ _ _ _ c.in-FirstReg.is _ c.getprop.ensures _ _ _ _ c.in-Some.is c.part-value.ensures c.reg_row.ensures e)
    c.in-PastReg.is

pub returns-in-None : goal.returns-in-None
returns-in-None c =
    begins_not _ _ _ _ _ _ _ c.in-FirstReg.is _ c.getprop.ensures c.in-None.is
