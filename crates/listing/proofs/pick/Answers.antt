use mathlib.Core.Path.{ap₂, sym, ◌∙◌}
use Prim.Native.Nat.{ℕ}
use native.Mathlib.Omega.{arith}
use Rattle.memory.specs.Map.{Slots, put, slots_of, refilled, blank}
use Rattle.listing.specs.Listing.{holding, picked}
use Rattle.listing.proofs.ListingLaws.{held_take, held_few, picking_begins, picking_takes, picking_leaves, picking_ends}
use Rattle.listing.proofs.pick.Goals as goal
use Rattle.listing.proofs.pick.Goals.{then-is_wanted, else-is_wanted}

pub loop-entry-init : goal.loop-entry-init
unfolding blank
loop-entry-init c = rw c.empty-out.ensures (picking_begins _ _ (slots_of blank))

pub loop-entry-preserved : goal.loop-entry-preserved
unfolding put
loop-entry-preserved c =
    let inv = c.loop-entry.invariant in
    let lt = c.loop-entry-test.true in
    elim c.if-is_wanted.branch [
      | then-is_wanted w ↦ rw w.out-is (picking_takes _ _ inv lt (sym c.is_wanted.ensures ∙ w.if-is_wanted.true))
      | else-is_wanted w ↦ rw w.out-is (picking_leaves _ _ inv lt (sym c.is_wanted.ensures ∙ w.if-is_wanted.false))
    ]

pub offset_bounds-out-out : goal.offset_bounds-out-out
offset_bounds-out-out c = omega (arith, c.loop-entry.invariant.few, held_few c.requires)

pub bounds-out-out : goal.bounds-out-out
bounds-out-out c = omega (arith, c.loop-entry.invariant.few, held_few c.requires)

pub overflow_add-out : goal.overflow_add-out
overflow_add-out c = omega (arith, c.loop-entry.invariant.few, held_few c.requires)

pub returns : goal.returns
unfolding picked holding
returns c =
    let e = picking_ends _ _ c.loop-entry.invariant c.loop-entry-test.false in
    rw (held_take c.requires)
    (sym (ap₂ (λ (l : Slots) (n : ℕ). refilled blank l n) e.0 e.1))
