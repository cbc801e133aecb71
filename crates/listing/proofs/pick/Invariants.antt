-- `pick` goes over the held entries in turn. The invariant: what is left to go over, laid where we are, ends as the whole does.
use lib.ListN.{length}
use Rattle.memory.specs.Map.{slots_of, blank}
use Rattle.listing.specs.Listing.{wants, those, laid}
use Rattle.listing.proofs.ListingLaws.{Picking}
use Rattle.listing.proofs.pick.Given as goal

abbrev pub invariant-loop-entry : goal.invariant-loop-entry
invariant-loop-entry l = Picking (wants l.kind l.wanted) l.entry-items
    (laid (slots_of blank) 0 (those (wants l.kind l.wanted) l.entry-items)) (length (those (wants l.kind l.wanted) l.entry-items))
    (slots_of l.out) l.out.size l.entry-index
