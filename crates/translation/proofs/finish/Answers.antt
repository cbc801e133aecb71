-- `translation::finish` meets its contract: the whole region has to lie below 2^64, by StepLaws.ends_below and ends-past. Assumes nothing.
use Rattle.windows.specs.Window.{reach}
use Rattle.translation.proofs.StepLaws.{ends_below, ends_past, ends_nowhere}
use borrow.Author.Rules.{rules}
use Rattle.translation.proofs.finish.Goals as goal

pub returns-then-size-eq0 : goal.returns-then-size-eq0
unfolding reach
returns-then-size-eq0 c = ends_below _ _ _ _ c.in-Gone.is (search rules)

pub returns-then-address-size : goal.returns-then-address-size
unfolding reach
returns-then-address-size c = ends_past _ _ _ _ c.in-Gone.is (search rules)

pub returns : goal.returns
unfolding reach
returns c = ends_below _ _ _ _ c.in-Gone.is (search rules)

pub returns-in_default : goal.returns-in_default
returns-in_default c = ends_nowhere _ c.in_default.not-Gone
