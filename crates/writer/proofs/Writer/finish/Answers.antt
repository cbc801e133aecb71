-- `writer::Writer::finish` meets its contract: a call that is done has room (Accepting), and leaves what it must (Laying). Assumes nothing.
use native.Mathlib.Omega.{arith}
use lib.ListN.{length}
use Rattle.writer.specs.Writer.{after}
use Rattle.writer.proofs.Accepting.{Ended, finish_room}
use Rattle.writer.proofs.Laying.{finish_refused, finish_made, lay_blob}
use Rattle.writer.proofs.Writer.finish.Goals as goal
use Rattle.writer.proofs.Writer.finish.Goals.{In_ok-judge_finish}

-- there is room for what is put
room : (c : In_ok-judge_finish) → Ended c.args.self.now (length c.args.out.now)
room c = finish_room c.args.self.now _ c.in_ok-judge_finish.was c.judge_finish.ensures

pub returns-in_err-judge_finish : goal.returns-in_err-judge_finish
returns-in_err-judge_finish c = finish_refused _ _ c.judge_finish.ensures c.in_err-judge_finish.was c.from_residual.result c.from_residual.ensures.1

pub overflow_add-m : goal.overflow_add-m
overflow_add-m c = let r = room (goal.at.overflow_add-m c).In_ok-judge_finish in omega arith

pub overflow_mul-m : goal.overflow_mul-m
overflow_mul-m c = let r = room (goal.at.overflow_mul-m c).In_ok-judge_finish in omega arith

pub overflow_add-b : goal.overflow_add-b
overflow_add-b c = let r = room (goal.at.overflow_add-b c).In_ok-judge_finish in omega arith

pub overflow_add-end : goal.overflow_add-end
overflow_add-end c = let r = room (goal.at.overflow_add-end c).In_ok-judge_finish in omega arith

pub overflow_add-end-2 : goal.overflow_add-end-2
overflow_add-end-2 c = let r = room (goal.at.overflow_add-end-2 c).In_ok-judge_finish in omega arith

pub overflow_add-end-3 : goal.overflow_add-end-3
overflow_add-end-3 c = let r = room (goal.at.overflow_add-end-3 c).In_ok-judge_finish in omega arith

pub overflow_add-past : goal.overflow_add-past
overflow_add-past c = let r = room (goal.at.overflow_add-past c).In_ok-judge_finish in omega arith

pub overflow_mul-self : goal.overflow_mul-self
overflow_mul-self c = let r = room (goal.at.overflow_mul-self c).In_ok-judge_finish in omega arith

pub overflow_add-self : goal.overflow_add-self
overflow_add-self c = let r = room (goal.at.overflow_add-self c).In_ok-judge_finish in omega arith

pub overflow_add-m-2 : goal.overflow_add-m-2
overflow_add-m-2 c = let r = room (goal.at.overflow_add-m-2 c).In_ok-judge_finish in omega arith

pub overflow_add-m-3 : goal.overflow_add-m-3
overflow_add-m-3 c = let r = room (goal.at.overflow_add-m-3 c).In_ok-judge_finish in omega arith

pub overflow_sub-out : goal.overflow_sub-out
overflow_sub-out c = let r = room (goal.at.overflow_sub-out c).In_ok-judge_finish in omega arith

pub put_header-requires : goal.put_header-requires
put_header-requires c = let r = room (goal.at.put_header-requires c).In_ok-judge_finish in omega arith

pub returns : goal.returns
unfolding after
returns c =
    let r = room (goal.at.returns c).In_ok-judge_finish in
    finish_made _ _ c.judge_finish.ensures c.in_ok-judge_finish.was
    (lay_blob c.args.self.now c.args.out.now r c.put_zeros.ensures c.put32.ensures c.turn_from.ensures c.put_zeros-2.ensures c.put_header.ensures)
