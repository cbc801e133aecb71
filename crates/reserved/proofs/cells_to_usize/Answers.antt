-- `cells_to_usize` meets its contract, by the bytes that one cell or two take. Assumes nothing.
use mathlib.Core.Path.{refl}
use native.Mathlib.Omega.{arith}
use Rattle.cells.proofs.CountLaws.{cell_one, cell_two, cell_other}
use Rattle.reserved.proofs.NumberLaws.{number_none, number_short, number_is}
use Rattle.reserved.proofs.cells_to_usize.Goals as goal

pub returns-then-bytes-lt4 : goal.returns-then-bytes-lt4
returns-then-bytes-lt4 c = number_short _ _ _ (cell_one _ c.if-cells-eq1.true) c.if-bytes-lt4.true

pub returns-then-cells-eq1 : goal.returns-then-cells-eq1
returns-then-cells-eq1 c =
    number_is _ _ _ (cell_one _ c.if-cells-eq1.true) (λ z. omega arith) c.if-bytes-lt4.false _ c.be32.ensures.is

pub returns-then-bytes-lt8 : goal.returns-then-bytes-lt8
returns-then-bytes-lt8 c = number_short _ _ _ (cell_two _ c.if-cells-eq2.true) c.if-bytes-lt8.true

pub returns-then-cells-eq2 : goal.returns-then-cells-eq2
returns-then-cells-eq2 c =
    number_is _ _ _ (cell_two _ c.if-cells-eq2.true) (λ z. omega arith) c.if-bytes-lt8.false _ c.be64.ensures.is

pub returns : goal.returns
returns c = number_none _ _ _ (cell_other _ c.if-cells-eq1.false c.if-cells-eq2.false) refl
