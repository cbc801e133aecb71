-- `words::le64_whole` meets its contract. Assumes nothing.
use mathlib.Core.Path.{sym, ◌∙◌}
use native.Mathlib.Omega.{arith}
use Rattle.words.proofs.LittleLaws.{eight_is}
use Rattle.words.proofs.le64_whole.Goals as goal

pub returns : goal.returns
returns c = record { is = omega arith ∙ sym (eight_is _ _); small = omega arith }
