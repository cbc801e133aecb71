-- `visit::visit_fdt_memory_reservations` meets its contract: past the entries the children of /reserved-memory are entered, and an entry is
-- claimed or passed over by its size and its sum. Assumes nothing.
use mathlib.Core.Path.{sym, ◌∙◌}
use native.Mathlib.Omega.{arith}
use Rattle.visit.proofs.LeftLaws.{entry_inside}
use Rattle.visit.proofs.CodeLaws.{entry_none, entry_gives, block_empty, block_far, block_near}
use Rattle.visit.proofs.visit_fdt_memory_reservations.Goals as goal

pub returns-in_default : goal.returns-in_default
returns-in_default c = rw c.enter.ensures (entry_none _ _ _ _ _ _ c.reserved_entry.ensures c.in_default.not-Entry)

pub overflow_add-cursor : goal.overflow_add-cursor
overflow_add-cursor c = omega (arith, entry_inside _ _ _ (sym c.reserved_entry.ensures ∙ c.in-Entry.is))

pub returns-then-entry-eq0 : goal.returns-then-entry-eq0
returns-then-entry-eq0 c =
    entry_gives _ _ _ _ _ _ _ c.reserved_entry.ensures _ c.in-Entry.is _ (block_empty _ c.if-entry-eq0.true) c.with_row-next.ensures

pub returns-then-entry : goal.returns-then-entry
returns-then-entry c =
    entry_gives _ _ _ _ _ _ _ c.reserved_entry.ensures _ c.in-Entry.is _ (block_far _ c.if-entry.true) c.with_row-next.ensures

pub returns : goal.returns
returns c =
    rw c.number.ensures (entry_gives _ _ _ _ _ _ _ c.reserved_entry.ensures _ c.in-Entry.is _
    (block_near _ c.if-entry-eq0.false c.if-entry.false) c.with_row-next.ensures)
