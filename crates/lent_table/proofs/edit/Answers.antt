-- `lent_table::edit` meets its contract: one law for each way that the first area past lo lies (Editing). Assumes nothing.
use mathlib.Core.Path.{sym, ◌∙◌}
use native.Mathlib.Omega.{arith}
use lib.ListN.{length-set}
use borrow.Author.Tests.{leb-true, leb-false}
use Rattle.lent_table.proofs.Finding.{takes_nothing, takes_none}
use Rattle.lent_table.proofs.Editing.{edited_not, edits_before, edits_after, edits_inside, edits_left, edits_full, edits_splits, edits_two}
use Rattle.lent_table.proofs.edit.Goals as goal

pub returns-then-range : goal.returns-then-range
returns-then-range c = edited_not _ _ _ (takes_nothing _ _ _ c.if-range.true)

pub returns-then-n-slots : goal.returns-then-n-slots
returns-then-n-slots c = edited_not _ _ _ (takes_none _ _ _ c.if-n-slots.true)

pub returns-then-n-i : goal.returns-then-n-i
returns-then-n-i c = edits_before (record { some = c.if-range.false; room = c.if-n-slots.false }) c.past-i.ensures c.if-n-i.true

pub returns-then-range-base : goal.returns-then-range-base
returns-then-range-base c = edits_after (record { some = c.if-range.false; room = c.if-n-slots.false }) c.past-i.ensures c.if-n-i.false c.if-range-base.true

pub returns-then-range-base-2 : goal.returns-then-range-base-2
returns-then-range-base-2 c = edits_inside (record { some = c.if-range.false; room = c.if-n-slots.false }) c.past-i.ensures c.if-n-i.false c.if-range-base.false c.if-range-base-2.true _ _ c.cut_rest.ensures

pub cut_rest-requires-then-ends_by : goal.cut_rest-requires-then-ends_by
cut_rest-requires-then-ends_by c = (omega arith, simp length-set (omega arith))

pub shape_of-slots-then-ends_by : goal.shape_of-slots-then-ends_by
shape_of-slots-then-ends_by c = omega (arith, simp length-set at c.cut_rest-then-ends_by.auto.slots)

pub returns-then-ends_by : goal.returns-then-ends_by
returns-then-ends_by c = edits_left (record { some = c.if-range.false; room = c.if-n-slots.false }) c.past-i.ensures c.if-n-i.false c.if-range-base-2.false (leb-true _ _ (sym c.ends_by.ensures ∙ c.if-ends_by.true)) _ _ c.cut_rest-then-ends_by.ensures

pub returns-then-slots-n : goal.returns-then-slots-n
returns-then-slots-n c = edits_full (record { some = c.if-range.false; room = c.if-n-slots.false }) c.past-i.ensures c.if-n-i.false c.if-range-base-2.false (leb-false _ _ (sym c.ends_by.ensures ∙ c.if-ends_by.false)) c.if-slots-n.true

pub split_at-requires : goal.split_at-requires
split_at-requires c = edits_splits (record { some = c.if-range.false; room = c.if-n-slots.false }) c.past-i.ensures c.if-n-i.false c.if-range-base-2.false (leb-false _ _ (sym c.ends_by.ensures ∙ c.if-ends_by.false)) c.if-slots-n.false

pub returns : goal.returns
returns c = edits_two (record { some = c.if-range.false; room = c.if-n-slots.false }) c.past-i.ensures c.if-n-i.false c.if-range-base-2.false (leb-false _ _ (sym c.ends_by.ensures ∙ c.if-ends_by.false)) c.if-slots-n.false _ c.split_at.ensures
