use mathlib.Core.Path.{◌≡◌}
use native.Mathlib.Omega.{arith}
use Rattle.map_numbers.proofs.Places.{written_all}
use Rattle.map_numbers.proofs.put.Goals as goal

pub returns : goal.returns
returns c =
    let e : c.loop-i.i ≡ 512 = omega arith in
    written_all _ c.told-entries (rw e at c.loop-i.invariant)
