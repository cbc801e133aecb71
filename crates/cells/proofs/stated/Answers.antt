-- `cells::stated` meets its contract: four bytes state a count, and other lengths none. Assumes nothing.
use mathlib.Core.Path.{sym}
use Rattle.cells.proofs.CountLaws.{stated_is, stated_not}
use Rattle.cells.proofs.stated.Goals as goal

pub returns-then-v-eq4 : goal.returns-then-v-eq4
returns-then-v-eq4 c = rw c.be32.ensures.is (sym (stated_is _ c.if-v-eq4.true))

pub returns : goal.returns
returns c = sym (stated_not _ c.if-v-eq4.false)
