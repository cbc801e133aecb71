use mathlib.Core.Path.{sym, ◌∙◌}
use mathlib.Core.Logic.{⊎_elim}
use native.Mathlib.Omega.{arith}
use Rattle.nodes.proofs.TokenLaws.{reach, falls}
use Rattle.nodes.proofs.NavLaws.{look_step, look_hit, look_miss}
use Rattle.nodes.proofs.prop_from.Goals as goal

pub loop-next-smaller-in-Nop : goal.loop-next-smaller-in-Nop
loop-next-smaller-in-Nop c = falls _ _ _ c.token_at.ensures c.in-Nop.is

pub loop-next-preserved-in-Nop : goal.loop-next-preserved-in-Nop
loop-next-preserved-in-Nop c = c.loop-next.invariant ∙ look_step _ _ _ _ c.token_at.ensures c.in-Nop.is

pub overflow_sub-z : goal.overflow_sub-z
overflow_sub-z c =
    let m = reach _ _ _ c.token_at.ensures c.in-Prop.is in
    omega arith

pub overflow_add-result : goal.overflow_add-result
overflow_add-result c =
    let m = reach _ _ _ c.token_at.ensures c.in-Prop.is in
    omega arith

pub returns-then-same : goal.returns-then-same
returns-then-same c =
    sym
    (c.loop-next.invariant ∙
    look_hit _ _ _ _ _ _ _ _ _ c.token_at.ensures c.in-Prop.is _ c.part.ensures (sym c.same.ensures ∙ c.if-same.true))

pub loop-next-smaller : goal.loop-next-smaller
loop-next-smaller c = falls _ _ _ c.token_at.ensures c.in-Prop.is

pub loop-next-preserved : goal.loop-next-preserved
loop-next-preserved c =
    c.loop-next.invariant ∙
    look_miss _ _ _ _ _ _ _ _ _ c.token_at.ensures c.in-Prop.is _ c.part.ensures (sym c.same.ensures ∙ c.if-same.false)

pub returns-in-Begin : goal.returns-in-Begin
returns-in-Begin c =
    sym
    (c.loop-next.invariant ∙
    ⊎_elim (λ e. look_step _ _ _ _ c.token_at.ensures e.2) (⊎_elim (λ e. look_step _ _ _ _ c.token_at.ensures e.1) (⊎_elim (λ e. look_step _ _ _ _ c.token_at.ensures e) (λ e. look_step _ _ _ _ c.token_at.ensures e))) c.in-Begin.is)
