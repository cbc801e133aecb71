-- `writer::put_begin` meets its contract: its texts stand one behind the other, and are the bytes of the part (Laying). Assumes nothing.
use native.Mathlib.Omega.{arith}
use Rattle.flattened.specs.Parts.{begins}
use Rattle.flattened.proofs.PartLaws.{part_length}
use Rattle.pen.proofs.WritingLaws.{and_then_lem, as_text}
use Rattle.writer.proofs.Laying.{begin_bytes}
use Rattle.writer.proofs.put_begin.Goals as goal

pub returns : goal.returns
returns c = let n = c.args.name.now in as_text (begin_bytes n) (and_then_lem c.put32-a.ensures (and_then_lem c.put-b.ensures c.put_zeros.ensures.fits)) (omega (arith, part_length 0 (begins n)))
