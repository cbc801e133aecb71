-- `sheet::free_pages` meets its contract. The invariant (Counting): the pages counted so far, with those of the entries still to come, are
-- the map's Free pages. Assumes nothing.
use Rattle.sheet.proofs.Counting.{Counting}
use Rattle.sheet.proofs.free_pages.Given as goal

abbrev pub invariant-loop-held : goal.invariant-loop-held
invariant-loop-held l = Counting 4096 l.limits l.held-items l.pages l.held-index
