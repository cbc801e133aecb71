-- `register_list_in` registers the entries in turn. The invariant: what is left to register, on the map as it is, ends as the whole list does.
use mathlib.Core.Path.{◌≡◌}
use Prim.Native.Nat.{◌-◌, ◌/◌}
use lib.ListN.{length}
use Rattle.memory.specs.Made.{Made}
use Rattle.memory.specs.Run.{registered_all}
use Rattle.bootloader.specs.List.{claims, claims_at}
use Rattle.bootloader.proofs.register_list_in.Given as goal

abbrev pub invariant-loop-i : goal.invariant-loop-i
invariant-loop-i l = Made 4096 l.map
    × (registered_all 4096 l.map (claims_at l.list (length l.list / 24 - l.i) l.i) ≡ registered_all 4096 l.fn.map (claims l.list))
