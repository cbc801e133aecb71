-- `all_known` judges the entries in turn. The invariant: what is left to judge decides.
use mathlib.Core.Path.{◌≡◌}
use Prim.Native.Nat.{◌-◌, ◌/◌}
use lib.ListN.{length}
use Rattle.bootloader.specs.List.{all_of, claims_at, all_known}
use Rattle.bootloader.proofs.all_known.Given as goal

abbrev pub invariant-loop-i : goal.invariant-loop-i
invariant-loop-i l = all_of (claims_at l.list (length l.list / 24 - l.i) l.i) ≡ all_known l.list
