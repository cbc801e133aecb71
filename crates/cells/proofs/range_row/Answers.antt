-- `cells::range_row` meets its contract: one law on the rows of `ranges` for each answer. A row lies in the value, so its place fits.
-- Assumes nothing.
use mathlib.Core.Path.{sym}
use mathlib.Core.Logic.{inl, inr}
use native.Mathlib.Omega.{arith}
use Rattle.cells.proofs.CountLaws.{width_small}
use Rattle.cells.proofs.RowsLaws.{in_room, ranges_empty, ranges_no, ranges_past, ranges_row}
use Rattle.cells.proofs.range_row.Goals as goal

pub returns-then-v-eq0 : goal.returns-then-v-eq0
returns-then-v-eq0 c = sym (ranges_empty _ _ _ _ _ c.if-v-eq0.true)

pub returns-then-x-eq0 : goal.returns-then-x-eq0
returns-then-x-eq0 c =
    let w = c in
    sym
    (ranges_no _ _ _ _ _ _ _ _ w.width-x.ensures w.width-y.ensures w.width-z.ensures
    w.if-v-eq0.false (inl c.if-x-eq0.true))

pub returns-then-y-eq0 : goal.returns-then-y-eq0
returns-then-y-eq0 c =
    let w = c in
    sym
    (ranges_no _ _ _ _ _ _ _ _ w.width-x.ensures w.width-y.ensures w.width-z.ensures
    w.if-v-eq0.false (inr (inl c.if-y-eq0.true)))

pub returns-then-z-eq0 : goal.returns-then-z-eq0
returns-then-z-eq0 c =
    let w = c in
    sym
    (ranges_no _ _ _ _ _ _ _ _ w.width-x.ensures w.width-y.ensures w.width-z.ensures
    w.if-v-eq0.false (inr (inr (inl c.if-z-eq0.true))))

pub overflow_add-row : goal.overflow_add-row
overflow_add-row c =
    let a = c.args in
    omega (arith, width_small a.own.address 2, width_small a.parent 2, width_small a.own.size 1)

pub overflow_add-row-2 : goal.overflow_add-row-2
overflow_add-row-2 c =
    let a = c.args in
    omega (arith, width_small a.own.address 2, width_small a.parent 2, width_small a.own.size 1)

pub returns-then-v-row-ne0 : goal.returns-then-v-row-ne0
returns-then-v-row-ne0 c =
    let w = c in
    sym
    (ranges_no _ _ _ _ _ _ _ _ w.width-x.ensures w.width-y.ensures w.width-z.ensures
    w.if-v-eq0.false (inr (inr (inr c.if-v-row-ne0.true))))

pub returns-then-v-row : goal.returns-then-v-row
returns-then-v-row c =
    let k = c in
    let w = k in
    sym
    (ranges_past _ _ _ _ _ _ _ _ w.width-x.ensures w.width-y.ensures w.width-z.ensures
    (w.if-v-eq0.false, k.if-x-eq0.false, k.if-y-eq0.false, k.if-z-eq0.false, k.if-v-row-ne0.false)
    c.if-v-row.true)

pub overflow_mul-at : goal.overflow_mul-at
overflow_mul-at c = let q = in_room _ _ _ (omega arith) c.if-v-row.false in omega arith

pub overflow_add-at : goal.overflow_add-at
overflow_add-at c = let q = in_room _ _ _ (omega arith) c.if-v-row.false in omega arith

pub overflow_add-at-2 : goal.overflow_add-at-2
overflow_add-at-2 c = let q = in_room _ _ _ (omega arith) c.if-v-row.false in omega arith

pub overflow_add-at-3 : goal.overflow_add-at-3
overflow_add-at-3 c = let q = in_room _ _ _ (omega arith) c.if-v-row.false in omega arith

pub returns : goal.returns
returns c =
    let k = c in
    let w = k in
    rw (c.number.ensures, c.number-2.ensures, c.number-3.ensures)
    (sym
    (ranges_row _ _ _ _ _ _ _ _ w.width-x.ensures w.width-y.ensures w.width-z.ensures
    (w.if-v-eq0.false, k.if-x-eq0.false, k.if-y-eq0.false, k.if-z-eq0.false, k.if-v-row-ne0.false)
    c.if-v-row.false))
