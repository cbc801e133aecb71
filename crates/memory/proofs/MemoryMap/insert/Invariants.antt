-- `insert` is one pass over the held slots, and then the new entry goes last. The invariant: the pass from here ends as the whole pass does.
use mathlib.Core.Path.{◌≡◌}
use Prim.Native.Nat.{◌-◌, ◌≤◌}
use Rattle.memory.specs.Map.{pass, begin, slots_of}
use Rattle.memory.proofs.MemoryMap.insert.Given as goal

abbrev pub invariant-loop-index : goal.invariant-loop-index
invariant-loop-index l = (l.index ≤ l.self.size)
    × (l.self.size ≤ 512)
    × (pass (l.self.size - l.index) (record { new = l.new; slots = slots_of l.self; index = l.index }) ≡ pass l.fn.self.size (begin l.fn.self l.fn.entry))

abbrev pub decreases-loop-index : goal.decreases-loop-index
decreases-loop-index l = l.self.size - l.index
