-- `fit_soc` is the soc window's rule. Assumes nothing.
use mathlib.Core.Path.{◌∙◌}
use borrow.Author.Rules.{rules}
use Rattle.windows.specs.Window.{last_byte}
use Rattle.windows.proofs.FitLaws.{below, past, inside}
use Rattle.windows.proofs.fit_soc.Goals as goal

pub returns-then-region-range : goal.returns-then-region-range
returns-then-region-range c = below _ _ _ c.if-region-range.true

pub overflow_sub-last : goal.overflow_sub-last
unfolding last_byte
overflow_sub-last c = search rules

pub returns-then-range-last : goal.returns-then-range-last
returns-then-range-last c =
    past _ _ _ c.if-region-range.false _ c.last_of-last.ensures c.if-range-last.true

pub returns : goal.returns
returns c =
    rw c.reach_of.ensures at c.land.ensures ∙ inside _ _ _ c.if-region-range.false _ c.last_of-last.ensures c.if-range-last.false
