-- `cells::cell_bytes` meets its contract, by the laws on one cell, two and any other number. Assumes nothing.
use mathlib.Core.Path.{sym}
use Rattle.cells.proofs.CountLaws.{cell_one, cell_two, cell_other}
use Rattle.cells.proofs.cell_bytes.Goals as goal

pub returns-then-c-eq1 : goal.returns-then-c-eq1
returns-then-c-eq1 c = sym (cell_one _ c.if-c-eq1.true)

pub returns-then-c-eq2 : goal.returns-then-c-eq2
returns-then-c-eq2 c = sym (cell_two _ c.if-c-eq2.true)

pub returns : goal.returns
returns c = sym (cell_other _ c.if-c-eq1.false c.if-c-eq2.false)
