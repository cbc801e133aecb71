-- `visit::ranges_of` meets its contract, rule by rule. Assumes nothing.
use mathlib.Core.Logic.{⊎_elim}
use Rattle.visit.proofs.ranges_of.Goals as goal

pub returns-in-Reserve : goal.returns-in-Reserve
returns-in-Reserve c = ⊎_elim (λ e. rw e) (λ e. rw e) c.in-Reserve.is

pub returns-in-Soc : goal.returns-in-Soc
returns-in-Soc c = rw (c.in-Soc.is, ← c.getprop.ensures) c.part_by.ensures
