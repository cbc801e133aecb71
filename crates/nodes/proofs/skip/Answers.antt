use mathlib.Core.Path.{refl}
use mathlib.Core.Logic.{⊎_elim}
use native.Mathlib.Nat.{le_refl}
use native.Mathlib.Omega.{arith}
use Rattle.nodes.proofs.TokenLaws.{falls}
use Rattle.nodes.proofs.NavLaws.{skip_step}
use Rattle.nodes.proofs.skip.Goals as goal

pub loop-next-init : goal.loop-next-init
loop-next-init c = record { deep = omega arith; from = le_refl _; same = refl }

pub loop-next-smaller-in-Nop : goal.loop-next-smaller-in-Nop
loop-next-smaller-in-Nop c = falls _ _ _ c.token_at.ensures c.in-Nop.is

pub loop-next-preserved-in-Nop : goal.loop-next-preserved-in-Nop
loop-next-preserved-in-Nop c = skip_step _ _ _ _ _ c.loop-next.invariant c.token_at.ensures c.in-Nop.is

pub loop-next-smaller-in-Prop : goal.loop-next-smaller-in-Prop
loop-next-smaller-in-Prop c = falls _ _ _ c.token_at.ensures c.in-Prop.is

pub loop-next-preserved-in-Prop : goal.loop-next-preserved-in-Prop
loop-next-preserved-in-Prop c = skip_step _ _ _ _ _ c.loop-next.invariant c.token_at.ensures c.in-Prop.is

pub overflow_add-depth : goal.overflow_add-depth
overflow_add-depth c = let m = (skip_step _ _ _ _ _ c.loop-next.invariant c.token_at.ensures c.in-Begin.is).0 in omega arith

pub loop-next-smaller-in-Begin : goal.loop-next-smaller-in-Begin
loop-next-smaller-in-Begin c = falls _ _ _ c.token_at.ensures c.in-Begin.is

pub loop-next-preserved-in-Begin : goal.loop-next-preserved-in-Begin
loop-next-preserved-in-Begin c = (skip_step _ _ _ _ _ c.loop-next.invariant c.token_at.ensures c.in-Begin.is).1

pub returns-then-depth-le1 : goal.returns-then-depth-le1
returns-then-depth-le1 c = (skip_step _ _ _ _ _ c.loop-next.invariant c.token_at.ensures c.in-EndNode.is).0 c.if-depth-le1.true

pub loop-next-smaller : goal.loop-next-smaller
loop-next-smaller c = falls _ _ _ c.token_at.ensures c.in-EndNode.is

pub loop-next-preserved : goal.loop-next-preserved
loop-next-preserved c = (skip_step _ _ _ _ _ c.loop-next.invariant c.token_at.ensures c.in-EndNode.is).1 c.if-depth-le1.false

pub returns-in-Fin : goal.returns-in-Fin
returns-in-Fin c = ⊎_elim (λ e. skip_step _ _ _ _ _ c.loop-next.invariant c.token_at.ensures e) (λ e. skip_step _ _ _ _ _ c.loop-next.invariant c.token_at.ensures e) c.in-Fin.is
