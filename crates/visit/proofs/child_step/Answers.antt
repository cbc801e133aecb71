-- `visit::child_step` meets its contract: the row of the value at hand, or past its rows the next child. Assumes nothing.
use mathlib.Core.Path.{sym, ◌∙◌, ap}
use mathlib.Core.Logic.{⊎_elim}
use native.Mathlib.Omega.{arith}
use Rattle.visit.specs.declared.Step.TheVariants.{On}
use Rattle.visit.proofs.CodeLaws.{row_inside, row_is}
use Rattle.visit.proofs.child_step.Goals as goal

pub overflow_add-cursor : goal.overflow_add-cursor
overflow_add-cursor c =
    omega (arith, row_inside _ _ _ _ _ _ _ _ c.part-entries.ensures (sym c.reg_row.ensures ∙ c.in-RegAt.is))

pub returns-in-RegAt : goal.returns-in-RegAt
returns-in-RegAt c =
    rw c.with_row-next.ensures at c.region_step.ensures
    ∙ row_is _ _ _ _ _ _ _ _ c.part-entries.ensures c.reg_row.ensures c.in-RegAt.is

pub returns-in-PastReg : goal.returns-in-PastReg
returns-in-PastReg c =
    ap On c.next_child.ensures ∙ ⊎_elim (λ e. row_is _ _ _ _ _ _ _ _ c.part-entries.ensures c.reg_row.ensures e) (λ e. row_is _ _ _ _ _ _ _ _ c.part-entries.ensures c.reg_row.ensures e) c.in-PastReg.is
