use mathlib.Core.Path.{sym, ◌∙◌}
use borrow.Author.Tests.{eq-eqb, ne_eqb}
use Rattle.listing.specs.Listing.{first_of}
use Rattle.listing.proofs.ListingLaws.{held_take, first_done, first_takes, first_leaves}
use Rattle.listing.proofs.kernel.Goals as goal

pub loop-entry-init : goal.loop-entry-init
unfolding first_of
loop-entry-init c = rw (held_take c.requires)

pub returns-then-entry-number : goal.returns-then-entry-number
returns-then-entry-number c =
    sym (first_takes _ _ _ c.loop-entry-test.true (eq-eqb _ _ (rw c.number.ensures at c.if-entry-number.true))) ∙ c.loop-entry.invariant

pub loop-entry-preserved : goal.loop-entry-preserved
loop-entry-preserved c =
    sym (first_leaves _ _ _ c.loop-entry-test.true (ne_eqb _ _ (rw c.number.ensures at c.if-entry-number.false))) ∙ c.loop-entry.invariant

pub returns : goal.returns
returns c = sym (first_done _ _ _ c.loop-entry-test.false) ∙ c.loop-entry.invariant
