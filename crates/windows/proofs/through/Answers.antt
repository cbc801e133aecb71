use mathlib.Core.Path.{◌≡◌, sym, ◌∙◌}
use native.Mathlib.Omega.{arith}
use borrow.Author.Rules.{rules}
use Rattle.windows.proofs.WindowLaws.{on_all, on_unreadable, on_empty, on_past, on_row, row_below}
use Rattle.windows.proofs.through.Goals as goal

pub loop-range-init : goal.loop-range-init
loop-range-init c = (omega arith, on_all _ _ _ _)

pub returns-in-NoRange : goal.returns-in-NoRange
returns-in-NoRange c =
    sym (on_unreadable _ _ _ _ _ (sym c.range_row.ensures ∙ c.in-NoRange.is)) ∙ c.loop-range.invariant.1

pub returns-then-i-eq0 : goal.returns-then-i-eq0
returns-then-i-eq0 c =
    let z : c.loop-range.i ≡ 0 = c.if-i-eq0.true in
    let e = sym c.range_row.ensures ∙ c.in-PastRange.is in
    sym (on_empty _ _ _ _ (rw z at e)) ∙ (rw z at c.loop-range.invariant.1)

pub returns-in-PastRange : goal.returns-in-PastRange
returns-in-PastRange c =
    sym (on_past _ _ _ _ _ c.if-i-eq0.false (sym c.range_row.ensures ∙ c.in-PastRange.is)) ∙ c.loop-range.invariant.1

pub returns-in-Gives : goal.returns-in-Gives
returns-in-Gives c =
    let r = c.in-RangeAt.is in
    let e = sym c.range_row.ensures ∙ r in
    let l = c.loop-range in
    let q = sym c.fit_by.ensures ∙ c.in-Gives.is in
    sym (on_row _ _ _ _ _ _ _ e q) ∙ l.invariant.1

pub returns-in-Over : goal.returns-in-Over
returns-in-Over c =
    let r = c.in-RangeAt.is in
    let e = sym c.range_row.ensures ∙ r in
    let l = c.loop-range in
    let q = sym c.fit_by.ensures ∙ c.in-Over.is in
    sym (on_row _ _ _ _ _ _ _ e q) ∙ l.invariant.1

pub overflow_add-i : goal.overflow_add-i
overflow_add-i c =
    let r = c.in-RangeAt.is in
    let e = sym c.range_row.ensures ∙ r in
    let l = c.loop-range in
    let h = row_below _ _ _ _ _ _ e in
    search rules

pub loop-range-smaller : goal.loop-range-smaller
loop-range-smaller c =
    let r = c.in-RangeAt.is in
    let e = sym c.range_row.ensures ∙ r in
    let l = c.loop-range in
    let h = row_below _ _ _ _ _ _ e in
    omega arith

pub loop-range-preserved : goal.loop-range-preserved
loop-range-preserved c =
    let r = c.in-RangeAt.is in
    let e = sym c.range_row.ensures ∙ r in
    let l = c.loop-range in
    let h = row_below _ _ _ _ _ _ e in
    let q = sym c.fit_by.ensures ∙ c.in-Not.is in
    (omega arith, sym (on_row _ _ _ _ _ _ _ e q) ∙ l.invariant.1)
