-- `writer::Writer::end_node` meets its contract: a call that is done has room (Accepting), and leaves what it must (Laying). Assumes nothing.
use Rattle.pen.proofs.LengthLaws.{bytes4_length}
use native.Mathlib.Omega.{arith}
use lib.ListN.{length}
use Rattle.flattened.specs.Parts.{ends, part_size, name_size}
use Rattle.writer.specs.Writer.{after}
use Rattle.writer.proofs.Accepting.{Room, part_room, end_inside}
use Rattle.writer.proofs.Laying.{refused, made, lay_end}
use Rattle.writer.proofs.Writer.end_node.Goals as goal
use Rattle.writer.proofs.Writer.end_node.Goals.{In_ok-judge_end}

-- there is room for what is put
room : (c : In_ok-judge_end) → Room c.args.self.now ends (length c.args.out.now)
room c = part_room c.args.self.now _ c.in_ok-judge_end.was ends c.judge_end.ensures

pub returns-in_err-judge_end : goal.returns-in_err-judge_end
returns-in_err-judge_end c = refused _ _ _ c.judge_end.ensures c.in_err-judge_end.was c.from_residual.result c.from_residual.ensures.1

pub overflow_add-self : goal.overflow_add-self
unfolding part_size name_size
overflow_add-self c = let r = room (goal.at.overflow_add-self c).In_ok-judge_end in omega arith

pub overflow_mul-self : goal.overflow_mul-self
unfolding part_size name_size
overflow_mul-self c = let r = room (goal.at.overflow_mul-self c).In_ok-judge_end in omega arith

pub overflow_add-self-2 : goal.overflow_add-self-2
unfolding part_size name_size
overflow_add-self-2 c = let r = room (goal.at.overflow_add-self-2 c).In_ok-judge_end in omega arith

pub overflow_add-self-3 : goal.overflow_add-self-3
unfolding part_size name_size
overflow_add-self-3 c = let r = room (goal.at.overflow_add-self-3 c).In_ok-judge_end in omega arith

pub overflow_sub-self : goal.overflow_sub-self
unfolding part_size name_size
overflow_sub-self c =
    let r = room (goal.at.overflow_sub-self c).In_ok-judge_end in
    let l = end_inside c.args.self.now _ c.in_ok-judge_end.was c.judge_end.ensures in
    omega arith

pub returns : goal.returns
unfolding after part_size name_size
returns c =
    let r = room (goal.at.returns c).In_ok-judge_end in
    made _ _ _ c.judge_end.ensures c.in_ok-judge_end.was (lay_end c.args.self.now (c.put32.ensures.fits (omega (arith, bytes4_length 2))))
