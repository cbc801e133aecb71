use mathlib.Core.Path.{sym, ◌∙◌}
use native.Mathlib.Omega.{arith}
use Rattle.nodes.proofs.PathLaws.{path_rootless, path_empty, path_relative, path_root, path_steps, step_empty, step_none, step_last, step_more, goes_from, goes_on}
use Rattle.nodes.proofs.path_offset.Goals as goal

pub returns-in_err-root : goal.returns-in_err-root
returns-in_err-root c = c.from_residual.ensures ∙ path_rootless _ _ _ (sym c.kid_from.ensures ∙ c.in_err-root.was)

pub returns-then-path-eq0 : goal.returns-then-path-eq0
returns-then-path-eq0 c = path_empty _ _ _ c.if-path-eq0.true

pub returns-then-path-ne47 : goal.returns-then-path-ne47
returns-then-path-ne47 c = path_relative _ _ _ c.if-path-eq0.false c.if-path-ne47.true

pub returns-then-path-eq1 : goal.returns-then-path-eq1
returns-then-path-eq1 c =
    path_root _ _ _ c.if-path-eq0.false c.if-path-ne47.false _ (sym c.kid_from.ensures ∙ c.in_ok-root.was) c.if-path-eq1.true

pub loop-i-init : goal.loop-i-init
loop-i-init c =
    goes_from _ _ _ _ c.if-path-eq0.false
    (path_steps _ _ _ c.if-path-eq0.false c.if-path-ne47.false _ (sym c.kid_from.ensures ∙ c.in_ok-root.was) c.if-path-eq1.false)

pub returns-then-end-i : goal.returns-then-end-i
returns-then-end-i c =
    let l = c.loop-i in
    sym (l.invariant.same ∙ step_empty _ _ _ _ _ _ _ c.byte_from-end.ensures.is c.if-end-i.true)

pub returns-in_err-next : goal.returns-in_err-next
returns-in_err-next c =
    let l = c.loop-i in
    c.from_residual-in_err-next.ensures ∙
    sym
    (l.invariant.same ∙
    step_none _ _ _ _ _ _ _ c.byte_from-end.ensures.is c.if-end-i.false (c.byte_from-end.ensures.upto l.invariant.within) _ c.part.ensures _ c.subnode.ensures c.in_err-next.was)

pub returns-then-path-end : goal.returns-then-path-end
returns-then-path-end c =
    let l = c.loop-i in
    sym
    (l.invariant.same ∙
    step_last _ _ _ _ _ _ _ c.byte_from-end.ensures.is c.if-end-i.false (c.byte_from-end.ensures.upto l.invariant.within) _ c.part.ensures _ c.subnode.ensures _ c.in_ok-next.was c.if-path-end.true)

pub loop-i-smaller : goal.loop-i-smaller
loop-i-smaller c = let h = c.if-end-i.false in omega arith

pub loop-i-preserved : goal.loop-i-preserved
loop-i-preserved c =
    let l = c.loop-i in
    goes_on _ _ l.invariant c.if-end-i.false c.if-path-end.false
    (step_more _ _ _ _ _ _ _ c.byte_from-end.ensures.is c.if-end-i.false (c.byte_from-end.ensures.upto l.invariant.within) _ c.part.ensures _ c.subnode.ensures _ c.in_ok-next.was c.if-path-end.false)
