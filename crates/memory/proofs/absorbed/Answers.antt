-- `absorbed` is the union of two entries that touch and are of one kind.
use mathlib.Core.Path.{◌≡◌, sym, ◌∙◌}
use borrow.Author.Tests.{eq-eqb, ne_eqb}
use Rattle.std.specs.Prelude.{Bool, true, false, cond, None, Option}
use Rattle.entry.specs.declared.MemoryEntry.{MemoryEntry}
use Rattle.memory.specs.Map.{absorb}
use Rattle.memory.proofs.absorbed.Goals as goal

-- whatever the kinds, nothing comes of entries that do not touch
either : (b : Bool) → ◌≡◌ {A = Option MemoryEntry} None (cond b None None)
either true = λ i. None
either false = λ i. None

pub returns-in_err-both : goal.returns-in_err-both
unfolding absorb
returns-in_err-both c = rw (sym c.combine.ensures ∙ c.in_err-both.was, c.from_residual.ensures) (either _)

pub returns-then-new-held : goal.returns-then-new-held
unfolding absorb
returns-then-new-held c = rw (ne_eqb _ _ c.if-new-held.true)

pub returns : goal.returns
unfolding absorb
returns c = rw (eq-eqb _ _ c.if-new-held.false) (sym c.in_ok-both.was ∙ c.combine.ensures)
