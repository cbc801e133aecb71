-- `text::holds` meets its contract. The loop's invariant: the part is in the text exactly if it is from `i` on. Assumes nothing.
use Rattle.text.proofs.StringLaws.{Sought}
use Rattle.text.proofs.holds.Given as goal

abbrev pub invariant-loop-i : goal.invariant-loop-i
invariant-loop-i l = Sought l.text l.part l.i
