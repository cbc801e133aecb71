-- `lent_table::trim_front` meets its contract (Trimming). Assumes nothing.
use native.Mathlib.Omega.{arith}
use lib.ListN.{length-set}
use Rattle.lent_table.proofs.Trimming.{trimmed_end, trimmed_same, trimmed_set}
use Rattle.lent_table.proofs.trim_front.Goals as goal

pub returns-then-n-j : goal.returns-then-n-j
returns-then-n-j c = trimmed_end _ _ _ _ c.if-n-j.true

pub returns-then-hi-base : goal.returns-then-hi-base
returns-then-hi-base c = trimmed_same _ _ _ _ c.if-hi-base.true

pub overflow_sub-slots-2 : goal.overflow_sub-slots-2
overflow_sub-slots-2 c = omega (arith, c.requires.ends c.if-n-j.false)

pub bounds-slots-j-4 : goal.bounds-slots-j-4
bounds-slots-j-4 c = simp length-set (omega arith)

pub returns : goal.returns
returns c = trimmed_set _ _ _ _ c.if-n-j.false c.if-hi-base.false
