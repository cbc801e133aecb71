-- `word` reads the eight bytes of `le64`.
use Rattle.std.proofs.Common.{arith, ◌∙◌}
use Rattle.words.proofs.LittleLaws.{eight_is}
use Rattle.stream.proofs.word.Goals as goal

pub returns : goal.returns
returns c = (λ h. c.le64.ensures.is ∙ eight_is _ _ ∙ omega arith, λ h. absurd (omega arith))
