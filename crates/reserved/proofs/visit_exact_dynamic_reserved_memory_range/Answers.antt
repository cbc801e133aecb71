-- `visit_exact_dynamic_reserved_memory_range` meets its contract: a law for each way out, from the number in `size` and the two rows that
-- were read of `alloc-ranges`. The number was read, so cells are at most two, and four times that fits. Assumes nothing.
use native.Mathlib.Omega.{arith}
use mathlib.Core.Path.{◌∙◌}
use Rattle.reserved.proofs.NumberLaws.{number_read}
use Rattle.reserved.proofs.ExactLaws.{of_nothing, no_first, more_rows, Lone, other_size, too_far, exactly, unstated, no_number, not_long, by_rows}
use Rattle.cells.specs.Rows.{reg_of}
use Rattle.reserved.proofs.visit_exact_dynamic_reserved_memory_range.Goals as goal

pub returns-in_default : goal.returns-in_default
returns-in_default c = unstated _ _ _ _ c.in_default.not-Stated

pub returns-in_err-bytes : goal.returns-in_err-bytes
returns-in_err-bytes c = c.from_residual.ensures ∙ no_number _ _ _ c.in-Stated.is _ _ _ c.cells_to_usize.ensures c.in_err-bytes.was

pub overflow_mul-count : goal.overflow_mul-count
overflow_mul-count c =
    let w = number_read _ _ _ c.cells_to_usize.ensures _ c.in_ok-bytes.was in
    omega (arith, w.1)

pub returns-then-size-count : goal.returns-then-size-count
returns-then-size-count c = not_long _ _ _ c.in-Stated.is _ _ _ c.cells_to_usize.ensures _ c.in_ok-bytes.was c.if-size-count.true

pub returns-in_default-reg_row : goal.returns-in_default-reg_row
returns-in_default-reg_row c =
    by_rows _ _ _ c.in-Stated.is _ _ _ c.cells_to_usize.ensures _ c.in_ok-bytes.was c.if-size-count.false _
    (no_first _ _ _ c.reg_row.ensures c.in_default-reg_row.not-RegAt)

pub returns-in_default-reg_row-2 : goal.returns-in_default-reg_row-2
returns-in_default-reg_row-2 c =
    by_rows _ _ _ c.in-Stated.is _ _ _ c.cells_to_usize.ensures _ c.in_ok-bytes.was c.if-size-count.false _
    (more_rows _ _ _ c.reg_row-2.ensures c.in_default-reg_row-2.not-PastReg)

pub returns-then-bytes-eq0 : goal.returns-then-bytes-eq0
returns-then-bytes-eq0 c =
    by_rows _ _ _ c.in-Stated.is _ _ _ c.cells_to_usize.ensures _ c.in_ok-bytes.was c.if-size-count.false _ (of_nothing _ _ c.if-bytes-eq0.true)

pub returns-then-region-bytes : goal.returns-then-region-bytes
returns-then-region-bytes c =
    let lone : Lone (reg_of c.args.cells.address c.args.cells.size c.args.ranges.now) c.in-RegAt.region c.reg_row.result c.reg_row-2.result =
    record { first = c.reg_row.ensures; region = c.in-RegAt.is; second = c.reg_row-2.ensures; past = c.in-PastReg.is } in
    by_rows _ _ _ c.in-Stated.is _ _ _ c.cells_to_usize.ensures _ c.in_ok-bytes.was c.if-size-count.false _ (other_size _ _ _ _ _ lone c.if-region-bytes.true)

pub returns-then-region-bytes-2 : goal.returns-then-region-bytes-2
returns-then-region-bytes-2 c =
    let lone : Lone (reg_of c.args.cells.address c.args.cells.size c.args.ranges.now) c.in-RegAt.region c.reg_row.result c.reg_row-2.result =
    record { first = c.reg_row.ensures; region = c.in-RegAt.is; second = c.reg_row-2.ensures; past = c.in-PastReg.is } in
    by_rows _ _ _ c.in-Stated.is _ _ _ c.cells_to_usize.ensures _ c.in_ok-bytes.was c.if-size-count.false _
    (too_far _ _ _ _ _ lone c.if-region-bytes.false c.if-bytes-eq0.false (omega arith))

pub returns : goal.returns
returns c =
    let lone : Lone (reg_of c.args.cells.address c.args.cells.size c.args.ranges.now) c.in-RegAt.region c.reg_row.result c.reg_row-2.result =
    record { first = c.reg_row.ensures; region = c.in-RegAt.is; second = c.reg_row-2.ensures; past = c.in-PastReg.is } in
    by_rows _ _ _ c.in-Stated.is _ _ _ c.cells_to_usize.ensures _ c.in_ok-bytes.was c.if-size-count.false _
    (exactly _ _ _ _ _ lone c.if-region-bytes.false c.if-bytes-eq0.false (omega arith))
