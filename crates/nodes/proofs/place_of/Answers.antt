use mathlib.Core.Path.{refl}
use mathlib.Core.Logic.{⊎_elim}
use native.Mathlib.Nat.{le_refl}
use native.Mathlib.Omega.{arith}
use Rattle.nodes.proofs.TokenLaws.{falls}
use Rattle.nodes.proofs.OrderLaws.{count_step}
use Rattle.nodes.proofs.place_of.Goals as goal

pub loop-next-init : goal.loop-next-init
loop-next-init c = record { few = le_refl _; same = refl }

pub loop-next-smaller-in-Nop : goal.loop-next-smaller-in-Nop
loop-next-smaller-in-Nop c = falls _ _ _ c.token_at.ensures c.in-Nop.is

pub loop-next-preserved-in-Nop : goal.loop-next-preserved-in-Nop
loop-next-preserved-in-Nop c = count_step _ _ _ _ _ c.loop-next.invariant c.token_at.ensures c.in-Nop.is

pub loop-next-smaller-in-Prop : goal.loop-next-smaller-in-Prop
loop-next-smaller-in-Prop c = falls _ _ _ c.token_at.ensures c.in-Prop.is

pub loop-next-preserved-in-Prop : goal.loop-next-preserved-in-Prop
loop-next-preserved-in-Prop c = count_step _ _ _ _ _ c.loop-next.invariant c.token_at.ensures c.in-Prop.is

pub returns-then-at-target : goal.returns-then-at-target
returns-then-at-target c = (count_step _ _ _ _ _ c.loop-next.invariant c.token_at.ensures c.in-Begin.is).1 c.if-at-target.true

pub overflow_add-begun : goal.overflow_add-begun
overflow_add-begun c = let m = (count_step _ _ _ _ _ c.loop-next.invariant c.token_at.ensures c.in-Begin.is).0 in omega arith

pub loop-next-smaller-in-Begin : goal.loop-next-smaller-in-Begin
loop-next-smaller-in-Begin c = falls _ _ _ c.token_at.ensures c.in-Begin.is

pub loop-next-preserved-in-Begin : goal.loop-next-preserved-in-Begin
loop-next-preserved-in-Begin c = (count_step _ _ _ _ _ c.loop-next.invariant c.token_at.ensures c.in-Begin.is).2 c.if-at-target.false

pub loop-next-smaller : goal.loop-next-smaller
loop-next-smaller c = falls _ _ _ c.token_at.ensures c.in-EndNode.is

pub loop-next-preserved : goal.loop-next-preserved
loop-next-preserved c = count_step _ _ _ _ _ c.loop-next.invariant c.token_at.ensures c.in-EndNode.is

pub returns-in-Fin : goal.returns-in-Fin
returns-in-Fin c = ⊎_elim (λ e. count_step _ _ _ _ _ c.loop-next.invariant c.token_at.ensures e) (λ e. count_step _ _ _ _ _ c.loop-next.invariant c.token_at.ensures e) c.in-Fin.is
