-- `cells::reg_row` meets its contract: one law on the rows of `reg` for each answer. A row lies in the value, so its place fits.
-- Assumes nothing.
use mathlib.Core.Path.{sym}
use mathlib.Core.Logic.{inl, inr}
use native.Mathlib.Omega.{arith}
use Rattle.cells.proofs.CountLaws.{width_small}
use Rattle.cells.proofs.RowsLaws.{in_room, reg_empty, reg_no, reg_past, reg_row_lem}
use Rattle.cells.proofs.reg_row.Goals as goal

pub returns-then-v-eq0 : goal.returns-then-v-eq0
returns-then-v-eq0 c = sym (reg_empty _ _ _ _ c.if-v-eq0.true)

pub returns-then-x-eq0 : goal.returns-then-x-eq0
returns-then-x-eq0 c =
    let w = c in
    sym (reg_no _ _ _ _ _ _ w.width-x.ensures w.width-z.ensures w.if-v-eq0.false (inl c.if-x-eq0.true))

pub returns-then-z-eq0 : goal.returns-then-z-eq0
returns-then-z-eq0 c =
    let w = c in
    sym (reg_no _ _ _ _ _ _ w.width-x.ensures w.width-z.ensures w.if-v-eq0.false (inr (inl c.if-z-eq0.true)))

pub overflow_add-w : goal.overflow_add-w
overflow_add-w c =
    let a = c.args in
    omega (arith, width_small a.cells.address 2, width_small a.cells.size 1)

pub returns-then-v-w-ne0 : goal.returns-then-v-w-ne0
returns-then-v-w-ne0 c =
    let w = c in
    sym (reg_no _ _ _ _ _ _ w.width-x.ensures w.width-z.ensures w.if-v-eq0.false (inr (inr c.if-v-w-ne0.true)))

pub returns-then-v-w : goal.returns-then-v-w
returns-then-v-w c =
    let k = c in
    let w = k in
    sym
    (reg_past _ _ _ _ _ _ w.width-x.ensures w.width-z.ensures
    (w.if-v-eq0.false, k.if-x-eq0.false, k.if-z-eq0.false, k.if-v-w-ne0.false)
    c.if-v-w.true)

pub overflow_mul-at : goal.overflow_mul-at
overflow_mul-at c = let q = in_room _ _ _ (omega arith) c.if-v-w.false in omega arith

pub overflow_add-at : goal.overflow_add-at
overflow_add-at c = let q = in_room _ _ _ (omega arith) c.if-v-w.false in omega arith

pub returns : goal.returns
returns c =
    let k = c in
    let w = k in
    rw (c.number.ensures, c.number-2.ensures)
    (sym
    (reg_row_lem _ _ _ _ _ _ w.width-x.ensures w.width-z.ensures
    (w.if-v-eq0.false, k.if-x-eq0.false, k.if-z-eq0.false, k.if-v-w-ne0.false)
    c.if-v-w.false))
