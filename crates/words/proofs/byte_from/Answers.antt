use native.Mathlib.Omega.{arith}
use Rattle.words.proofs.BytesLaws.{found_there, passed_there, finds_none}
use Rattle.words.proofs.byte_from.Goals as goal

pub returns-then-s-i : goal.returns-then-s-i
returns-then-s-i c = found_there _ _ _ _ _ c.loop-i.invariant c.loop-i-test.true (omega arith) (omega arith) c.if-s-i.true

pub loop-i-preserved : goal.loop-i-preserved
loop-i-preserved c = passed_there _ _ _ _ _ c.loop-i.invariant c.loop-i-test.true (omega arith) c.if-s-i.false

pub returns : goal.returns
returns c = rw c.max.ensures (finds_none _ _ _ _ _ c.loop-i.invariant c.loop-i-test.false c.loop-i.auto.i-end (omega arith))
