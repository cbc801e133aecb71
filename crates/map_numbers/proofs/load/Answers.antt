use mathlib.Core.Path.{◌≡◌, ap}
use native.Mathlib.Omega.{arith}
use lib.ListN.{get_or}
use Rattle.memory.specs.Map.{Slots, map_of}
use Rattle.map_numbers.specs.Numbers.{map_in}
use Rattle.map_numbers.proofs.Places.{reads_all}
use Rattle.map_numbers.proofs.load.Goals as goal

pub returns : goal.returns
unfolding map_in
returns c =
    let e : c.loop-i.i ≡ 512 = omega arith in
    ap (λ (es : Slots). map_of es (get_or c.args.memory.now 1536 0)) (reads_all (rw e at c.loop-i.invariant))
