-- `register_in` judges the kind, passes over what registers nothing, and inserts the rounded range.
use mathlib.Core.Path.{sym, ◌∙◌}
use native.Mathlib.Omega.{arith}
use Rattle.memory.proofs.MapLaws.{unknown_registered, null_registered, none_registered, empty_registered, some_registered}
use Rattle.memory.proofs.MemoryMap.register_in.Goals as goal

pub returns-in_default : goal.returns-in_default
returns-in_default c = unknown_registered 4096 _ _ (sym c.in_default.is ∙ c.kind_of.ensures)

pub returns-then-claim-number : goal.returns-then-claim-number
returns-then-claim-number c = null_registered 4096 _ _ _ (sym c.in-Some.is ∙ c.kind_of.ensures) (omega arith)

pub returns-then-claim-eq0 : goal.returns-then-claim-eq0
returns-then-claim-eq0 c = none_registered 4096 _ _ _ (sym c.in-Some.is ∙ c.kind_of.ensures) (λ z. omega arith) (omega arith)

pub returns-then-pages : goal.returns-then-pages
returns-then-pages c =
    let k = c in
    empty_registered 4096 _ _ _ (sym k.in-Some.is ∙ k.kind_of.ensures) (λ z. omega arith) (λ z. omega arith) _ c.round-pages.ensures (omega arith)

pub returns : goal.returns
returns c =
    let k = c in
    c.insert.ensures
    ∙ some_registered 4096 _ _ _ (sym k.in-Some.is ∙ k.kind_of.ensures) (λ z. omega arith) (λ z. omega arith) _ c.round-pages.ensures (omega arith)
