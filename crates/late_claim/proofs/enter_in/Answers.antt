-- `late_claim::enter_in` meets its contract: one law for each return (Entering). Assumes nothing.
use mathlib.Core.Path.{sym, ◌∙◌}
use Rattle.memory.proofs.Refusing.{refused}
use Rattle.late_claim.proofs.Entering.{enter_sizeless, enter_pageless, enter_crowded, enter_full, enter_done}
use Rattle.late_claim.proofs.enter_in.Goals as goal

pub returns-then-claim-eq0 : goal.returns-then-claim-eq0
returns-then-claim-eq0 c = enter_sizeless 4096 _ _ _ _ c.requires.checked c.if-claim-eq0.true

pub returns-then-pages : goal.returns-then-pages
returns-then-pages c = enter_pageless 4096 _ _ _ _ c.requires.checked c.if-claim-eq0.false (rw c.round.ensures at c.span-pages.ensures) c.if-pages.true

pub returns-then-crowded : goal.returns-then-crowded
returns-then-crowded c = enter_crowded 4096 _ _ _ _ c.requires.checked c.if-claim-eq0.false (rw c.round.ensures at c.span-pages.ensures) c.if-pages.false (sym c.crowded.ensures ∙ c.if-crowded.true) c.register_in.ensures c.refused.ensures

pub returns-in_default : goal.returns-in_default
returns-in_default c = enter_full 4096 _ _ _ _ c.requires.checked c.if-claim-eq0.false (rw c.round.ensures at c.span-pages.ensures) c.if-pages.false (sym c.crowded.ensures ∙ c.if-crowded.false) c.register_in-2.ensures (refused c.register_in-2.result c.in_default.not-Ok)

pub returns : goal.returns
returns c = enter_done 4096 _ _ _ _ c.requires.checked c.if-claim-eq0.false (rw c.round.ensures at c.span-pages.ensures) c.if-pages.false (sym c.crowded.ensures ∙ c.if-crowded.false) c.register_in-2.ensures c.in-Ok.is c.edit.ensures
