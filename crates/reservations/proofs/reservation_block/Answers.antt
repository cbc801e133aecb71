-- `reservation_block` is the part between its offset and the structure block, where it is not skipped. Assumes nothing.
use mathlib.Core.Path.{◌∙◌}
use Rattle.reservations.proofs.BlockLaws.{skipped_low, skipped_off, skipped_high, whole}
use Rattle.reservations.proofs.reservation_block.Goals as goal

pub returns-then-at-lt40 : goal.returns-then-at-lt40
returns-then-at-lt40 c = c.part.ensures ∙ skipped_low _ _ c.if-at-lt40.true

pub returns-then-at-ne0 : goal.returns-then-at-ne0
returns-then-at-ne0 c = c.part-then-at-ne0.ensures ∙ skipped_off _ _ c.if-at-lt40.false c.if-at-ne0.true

pub returns-then-end-at : goal.returns-then-end-at
returns-then-end-at c =
    c.part-then-end-at.ensures ∙ skipped_high _ _ c.if-at-lt40.false c.if-at-ne0.false c.if-end-at.true

pub returns : goal.returns
returns c =
    c.part-2.ensures ∙ whole _ _ c.if-at-lt40.false c.if-at-ne0.false c.if-end-at.false
