use mathlib.Core.Path.{sym, ◌∙◌}
use native.Mathlib.Nat.{le_of_lt}
use native.Mathlib.Omega.{arith}
use Rattle.listing.proofs.ListingLaws.{held_take}
use Rattle.sheet.proofs.Counting.{meet_some, pages_few, begins, passes, misses, adds, counted_all}
use Rattle.sheet.proofs.free_pages.Goals as goal
use Rattle.sheet.proofs.free_pages.Goals.{then-held-number+in-Some, then-held-number+in_default, else-held-number}

pub loop-held-init : goal.loop-held-init
loop-held-init c = begins _ _ _

pub overflow_sub-pages : goal.overflow_sub-pages
overflow_sub-pages c = le_of_lt (meet_some _ _ _ (sym c.in-Some.is ∙ c.intersect.ensures))

pub loop-held-preserved : goal.loop-held-preserved
loop-held-preserved c =
    let inv = c.loop-held.invariant in
    let lt = c.loop-held-test.true in
    elim c.if-held-number.branch [
      | then-held-number+in-Some w ↦ adds inv lt (rw c.number.ensures at w.if-held-number.true) w.in-Some.part (sym w.in-Some.is ∙ w.intersect.ensures) (pages_few 4096 (omega arith) _ _ (omega arith)) w.pages-is
      | then-held-number+in_default w ↦ misses inv lt (rw c.number.ensures at w.if-held-number.true) (sym w.in_default.is ∙ w.intersect.ensures) w.pages-is
      | else-held-number w ↦ passes inv lt (rw c.number.ensures at w.if-held-number.false) w.pages-is
    ]

pub returns : goal.returns
returns c =
    let e = held_take c.requires in
    counted_all c.args.map _ _ c.limits-limits.ensures (rw (← e) at c.loop-held.invariant) (rw (← e) at c.loop-held-test.false)
