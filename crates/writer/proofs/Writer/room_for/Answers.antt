-- `writer::Writer::room_for` meets its contract: a size that cannot be summed is over the limit (Refusals). Assumes nothing.
use Rattle.writer.proofs.Sizes.{room_over, bounds, final_bare, final_rooted}
use mathlib.Core.Path.{◌∙◌, ap}
use native.Mathlib.Omega.{arith}
use Prim.Native.Nat.{ℕ}
use Rattle.writer.specs.Writer.{room_answer}
use Rattle.writer.proofs.Writer.room_for.Goals as goal

pub returns-then-limit-self : goal.returns-then-limit-self
returns-then-limit-self c = let b = bounds c.args.self in room_over _ _ (omega (arith, c.then-limit-self.either))

pub returns-then-self-eq0 : goal.returns-then-self-eq0
returns-then-self-eq0 c = c.sized.ensures ∙ ap (λ (x : ℕ). room_answer x c.args.room) (final_bare c.args.self c.args.more c.if-self-eq0.true)

pub returns : goal.returns
returns c = c.sized-2.ensures ∙ ap (λ (x : ℕ). room_answer x c.args.room) (final_rooted c.args.self c.args.more c.if-self-eq0.false)
