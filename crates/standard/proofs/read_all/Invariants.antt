-- `read_all` reads on behind what it holds while there is room, and each turn leaves less of that. What it holds is what the reader lost.
use Rattle.std.proofs.Common.{length, take, ◌-◌, ◌≤◌, ◌≡◌}
use Rattle.std.specs.Io.KnownBytes.{Consumes}
use Rattle.standard.proofs.read_all.Given as goal

abbrev pub invariant-loop-have : goal.invariant-loop-have
invariant-loop-have g l =
    (l.have ≤ length l.space)
    × (length l.space ≡ length l.initial.space)
    × Consumes (g.R.Read.remaining l.initial.input) (g.R.Read.remaining l.input) (take l.have l.space)

abbrev pub decreases-loop-have : goal.decreases-loop-have
decreases-loop-have g l = length l.initial.space - l.have
