-- `sheet::usable_pages` meets its contract. The invariant (Summing): the pages summed so far, with those of the areas still to come, are the
-- pages of them all, capped. Assumes nothing.
use Rattle.sheet.specs.Sheet.{slots_to}
use Rattle.sheet.proofs.Summing.{Summing}
use Rattle.sheet.proofs.usable_pages.Given as goal

abbrev pub invariant-loop-i : goal.invariant-loop-i
invariant-loop-i l = Summing 4096 l.slots (slots_to l.slots l.n) l.pages l.i
