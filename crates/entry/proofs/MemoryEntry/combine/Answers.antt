-- `MemoryEntry::combine` gives the union exactly where nothing lies between the two.
use native.Mathlib.Omega.{arith}
use Rattle.entry.specs.Entry.{union}
use Rattle.entry.proofs.EntryLaws.{touch_joins, gap_joins}
use Rattle.entry.proofs.MemoryEntry.combine.Goals as goal

pub returns-then-other-self : goal.returns-then-other-self
returns-then-other-self c = gap_joins _ _ (λ t. omega (arith, t.low))

pub returns-then-self-other : goal.returns-then-self-other
returns-then-self-other c = gap_joins _ _ (λ t. omega (arith, t.high))

pub returns : goal.returns
unfolding union
returns c =
    rw (c.min-start.ensures, c.max-end.ensures)
    (touch_joins _ _ (record { low = omega arith; high = omega arith }))
