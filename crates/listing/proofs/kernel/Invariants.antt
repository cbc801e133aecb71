-- `kernel` looks at the held entries in turn. The invariant: what is left to look at decides.
use mathlib.Core.Path.{◌≡◌}
use lib.Dec.{eqb}
use lib.ListN.{drop}
use Rattle.listing.specs.Listing.{first, first_of}
use Rattle.listing.proofs.kernel.Given as goal

abbrev pub invariant-loop-entry : goal.invariant-loop-entry
invariant-loop-entry l = first (λ e. eqb e.kind 0x100) (drop l.entry-index l.entry-items) ≡ first_of 0x100 l.fn.map
