-- `round` rounds a claim by its kind.
use mathlib.Core.Path.{sym}
use native.Mathlib.Omega.{arith}
use Rattle.entry.specs.Claim.{inward, outward}
use Rattle.entry.proofs.ClaimLaws.{free_inward, other_outward}
use Rattle.entry.proofs.round.Goals as goal

pub returns-then-kind-eq1 : goal.returns-then-kind-eq1
unfolding inward
returns-then-kind-eq1 c =
    rw (c.align_up-start.ensures, c.align_down-end.ensures, c.saturating_add-last.ensures)
    (sym (free_inward 4096 _ (omega arith)))

pub returns : goal.returns
unfolding outward
returns c =
    rw (c.align_down-start.ensures, c.align_up-end.ensures, c.saturating_add-last.ensures)
    (sym (other_outward 4096 _ (λ e. omega arith)))
