-- `writer::put_property` meets its contract: its texts stand one behind the other, and are the bytes of the part (Laying). Assumes nothing.
use native.Mathlib.Omega.{arith}
use mathlib.Core.List.{[]}
use Rattle.flattened.specs.Parts.{property}
use Rattle.flattened.proofs.PartLaws.{part_length}
use Rattle.pen.proofs.WritingLaws.{and_then_lem, as_text}
use Rattle.writer.proofs.Laying.{property_bytes}
use Rattle.writer.proofs.put_property.Goals as goal

pub returns : goal.returns
returns c = let v = c.args.value.now in let a = c.args.name in as_text (property_bytes a v) (and_then_lem c.put32-a.ensures (and_then_lem c.put32-b.ensures (and_then_lem c.put32-c.ensures (and_then_lem c.put-d.ensures c.put_zeros.ensures.fits)))) (omega (arith, part_length a (property [] v)))
