-- `writer::Writer::begin_node` meets its contract: a call that is done has room (Accepting), and leaves what it must (Laying). Assumes nothing.
use native.Mathlib.Omega.{arith}
use lib.ListN.{length}
use Rattle.flattened.specs.Parts.{begins, part_size, name_size}
use Rattle.writer.specs.Writer.{after}
use Rattle.writer.proofs.Accepting.{Room, part_room, begin_few}
use Rattle.writer.proofs.Laying.{refused, made, lay_begin}
use Rattle.writer.proofs.Writer.begin_node.Goals as goal
use Rattle.writer.proofs.Writer.begin_node.Goals.{In_ok-judge_begin}

-- there is room for what is put
room : (c : In_ok-judge_begin) → Room c.args.self.now (begins c.args.name.now) (length c.args.out.now)
room c = part_room c.args.self.now _ c.in_ok-judge_begin.was (begins c.args.name.now) c.judge_begin.ensures

pub returns-in_err-judge_begin : goal.returns-in_err-judge_begin
returns-in_err-judge_begin c = refused _ _ _ c.judge_begin.ensures c.in_err-judge_begin.was c.from_residual.result c.from_residual.ensures.1

pub overflow_add-self : goal.overflow_add-self
unfolding part_size name_size
overflow_add-self c = let r = room (goal.at.overflow_add-self c).In_ok-judge_begin in omega arith

pub overflow_mul-self : goal.overflow_mul-self
unfolding part_size name_size
overflow_mul-self c = let r = room (goal.at.overflow_mul-self c).In_ok-judge_begin in omega arith

pub overflow_add-self-2 : goal.overflow_add-self-2
unfolding part_size name_size
overflow_add-self-2 c = let r = room (goal.at.overflow_add-self-2 c).In_ok-judge_begin in omega arith

pub overflow_add-self-3 : goal.overflow_add-self-3
unfolding part_size name_size
overflow_add-self-3 c = let r = room (goal.at.overflow_add-self-3 c).In_ok-judge_begin in omega arith

pub put_begin-requires : goal.put_begin-requires
unfolding part_size name_size
put_begin-requires c = let r = room (goal.at.put_begin-requires c).In_ok-judge_begin in omega arith

pub overflow_add-self-7 : goal.overflow_add-self-7
unfolding part_size name_size
overflow_add-self-7 c = let r = room (goal.at.overflow_add-self-7 c).In_ok-judge_begin in omega arith

pub overflow_add-self-8 : goal.overflow_add-self-8
unfolding part_size name_size
overflow_add-self-8 c =
    let r = room (goal.at.overflow_add-self-8 c).In_ok-judge_begin in
    let l = begin_few c.args.self.now _ c.in_ok-judge_begin.was c.args.name.now c.judge_begin.ensures in
    omega arith

pub overflow_add-self-9 : goal.overflow_add-self-9
unfolding part_size name_size
overflow_add-self-9 c =
    let r = room (goal.at.overflow_add-self-9 c).In_ok-judge_begin in
    let l = begin_few c.args.self.now _ c.in_ok-judge_begin.was c.args.name.now c.judge_begin.ensures in
    omega arith

pub returns : goal.returns
unfolding after part_size name_size
returns c = made _ _ _ c.judge_begin.ensures c.in_ok-judge_begin.was (lay_begin c.args.self.now c.args.name.now c.put_begin.ensures)
