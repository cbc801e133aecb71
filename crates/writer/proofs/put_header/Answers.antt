-- `writer::put_header` meets its contract: its ten numbers stand one behind the other. Assumes nothing.
use Rattle.flattened.specs.Blob.{header}
use Rattle.pen.proofs.WritingLaws.{and_then_lem, kept}
use Rattle.writer.proofs.Laying.{header_room}
use Rattle.writer.proofs.put_header.Goals as goal

pub returns : goal.returns
unfolding header
returns c = let a = c.args in and_then_lem c.put32-p1.ensures (and_then_lem c.put32-p2.ensures (and_then_lem c.put32-p3.ensures (and_then_lem c.put32-p4.ensures (and_then_lem c.put32-p5.ensures (and_then_lem c.put32-p6.ensures (and_then_lem c.put32-p7.ensures (and_then_lem c.put32-p8.ensures (and_then_lem c.put32-p9.ensures c.put32.ensures.fits)))))))) (header_room a.m a.b a.n _ c.requires.0)

pub shape_of-out : goal.shape_of-out
shape_of-out c = let a = c.args in kept (returns c) (header_room a.m a.b a.n _ c.requires.0)
