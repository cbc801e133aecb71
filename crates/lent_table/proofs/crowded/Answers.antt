-- `lent_table::crowded` meets its contract (Editing). Assumes nothing.
use native.Mathlib.Omega.{arith}
use Rattle.lent_table.proofs.Finding.{takes_nothing}
use Rattle.lent_table.proofs.Editing.{crowds_not, crowded_not_full, crowded_before, crowded_inside, crowded_ends}
use Rattle.lent_table.proofs.crowded.Goals as goal

pub returns-then-range : goal.returns-then-range
returns-then-range c = crowds_not _ _ _ (takes_nothing _ _ _ c.if-range.true)

pub returns-then-n-slots : goal.returns-then-n-slots
returns-then-n-slots c = crowded_not_full _ _ _ c.if-range.false c.if-n-slots.true

pub returns-then-n-i : goal.returns-then-n-i
returns-then-n-i c = crowded_before (record { some = c.if-range.false; room = omega arith }) c.past-i.ensures c.if-n-i.true

pub returns-then-range-base : goal.returns-then-range-base
returns-then-range-base c = crowded_inside (record { some = c.if-range.false; room = omega arith }) c.past-i.ensures c.if-n-i.false c.if-range-base.true

pub returns : goal.returns
returns c = crowded_ends (record { some = c.if-range.false; room = omega arith }) c.past-i.ensures c.if-n-i.false (omega arith) c.if-range-base.false _ c.ends_by.ensures
