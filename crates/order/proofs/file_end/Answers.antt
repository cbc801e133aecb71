-- `order::file_end` meets its contract: each way out is a way through the definition (EndLaws). Assumes nothing.
use mathlib.Core.Path.{sym}
use native.Mathlib.Omega.{arith}
use Rattle.order.proofs.EndLaws.{end_short, end_held}
use Rattle.order.proofs.file_end.Goals as goal

pub returns-then-input-lt112 : goal.returns-then-input-lt112
returns-then-input-lt112 c = record { value = sym (end_short _ c.if-input-lt112.true); upper_bound = omega arith }

pub returns-then-input-end : goal.returns-then-input-end
returns-then-input-end c = record { value = omega (arith, end_held c.args.input.now c.if-input-lt112.false); upper_bound = omega arith }

pub returns : goal.returns
returns c = record { value = omega (arith, end_held c.args.input.now c.if-input-lt112.false); upper_bound = omega arith }
