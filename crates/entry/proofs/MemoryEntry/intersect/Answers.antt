-- `MemoryEntry::intersect` gives the overlap exactly where it is not empty.
use native.Mathlib.Omega.{arith}
use borrow.Author.Tests.{lt-ltb, le-ltb}
use Prim.Native.Nat.{◌<◌, ◌≤◌, min, max}
use Rattle.entry.specs.Entry.{overlap, meet}
use Rattle.entry.proofs.MemoryEntry.intersect.Goals as goal

pub returns-then-start-end : goal.returns-then-start-end
unfolding meet overlap
returns-then-start-end c =
    let a = c.args.self in
    let b = c.args.other in
    let h : max a.start b.start < min a.end b.end = omega arith in
    rw (c.max-start.ensures, c.min-end.ensures, lt-ltb _ _ h)

pub returns : goal.returns
unfolding meet overlap
returns c =
    let a = c.args.self in
    let b = c.args.other in
    let h : min a.end b.end ≤ max a.start b.start = omega arith in
    rw (le-ltb _ _ h)
