use mathlib.Core.Path.{refl}
use mathlib.Core.Logic.{⊎_elim}
use native.Mathlib.Nat.{le_refl}
use Rattle.nodes.proofs.TokenLaws.{falls}
use Rattle.nodes.proofs.NavLaws.{drop_step}
use Rattle.nodes.proofs.next_kid.Goals as goal

pub loop-next-init : goal.loop-next-init
loop-next-init c = record { from = le_refl _; same = refl }

pub loop-next-smaller-in-Nop : goal.loop-next-smaller-in-Nop
loop-next-smaller-in-Nop c = ⊎_elim (λ e. falls _ _ _ c.token_at.ensures e) (λ e. falls _ _ _ c.token_at.ensures e.3) c.in-Nop.is

pub loop-next-preserved-in-Nop : goal.loop-next-preserved-in-Nop
loop-next-preserved-in-Nop c =
    ⊎_elim (λ e. drop_step _ _ _ _ c.loop-next.invariant c.token_at.ensures e) (λ e. drop_step _ _ _ _ c.loop-next.invariant c.token_at.ensures e.3) c.in-Nop.is

pub loop-next-smaller : goal.loop-next-smaller
loop-next-smaller c = ⊎_elim (λ e. falls _ _ _ c.token_at.ensures e) (λ e. falls _ _ _ c.token_at.ensures e.3) c.in-Nop.is

pub loop-next-preserved : goal.loop-next-preserved
loop-next-preserved c =
    ⊎_elim (λ e. drop_step _ _ _ _ c.loop-next.invariant c.token_at.ensures e) (λ e. drop_step _ _ _ _ c.loop-next.invariant c.token_at.ensures e.3) c.in-Nop.is

pub returns-in-Begin : goal.returns-in-Begin
returns-in-Begin c = drop_step _ _ _ _ c.loop-next.invariant c.token_at.ensures c.in-Begin.is

pub returns-in-EndNode : goal.returns-in-EndNode
returns-in-EndNode c = drop_step _ _ _ _ c.loop-next.invariant c.token_at.ensures c.in-EndNode.is

pub returns-in-Fin : goal.returns-in-Fin
returns-in-Fin c =
    ⊎_elim (λ e. drop_step _ _ _ _ c.loop-next.invariant c.token_at.ensures e) (λ e. drop_step _ _ _ _ c.loop-next.invariant c.token_at.ensures e) c.in-Fin.is
