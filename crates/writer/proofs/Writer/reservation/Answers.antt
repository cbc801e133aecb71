-- `writer::Writer::reservation` meets its contract: a call that is done has room (Accepting), and leaves what it must (Laying). Assumes nothing.
use Rattle.pen.proofs.LengthLaws.{bytes8_length}
use Rattle.pen.proofs.WritingLaws.{and_then_lem}
use lib.ListN.{length, length-append}
use Rattle.pen.specs.Numbers.{bytes8}
use native.Mathlib.Omega.{arith}
use Rattle.writer.specs.Writer.{after}
use Rattle.writer.proofs.Accepting.{Entered, entry_room}
use Rattle.writer.proofs.Laying.{refused, made, lay_entry}
use Rattle.writer.proofs.Writer.reservation.Goals as goal
use Rattle.writer.proofs.Writer.reservation.Goals.{In_ok-judge_reservation}

-- there is room for what is put
room : (c : In_ok-judge_reservation) → Entered c.args.self.now (length c.args.out.now)
room c = entry_room c.args.self.now _ c.in_ok-judge_reservation.was c.args.address c.args.size c.judge_reservation.ensures

pub returns-in_err-judge_reservation : goal.returns-in_err-judge_reservation
returns-in_err-judge_reservation c = refused _ _ _ c.judge_reservation.ensures c.in_err-judge_reservation.was c.from_residual.result c.from_residual.ensures.1

pub overflow_mul-self : goal.overflow_mul-self
overflow_mul-self c = let r = room (goal.at.overflow_mul-self c).In_ok-judge_reservation in omega arith

pub overflow_add-self : goal.overflow_add-self
overflow_add-self c = let r = room (goal.at.overflow_add-self c).In_ok-judge_reservation in omega arith

pub returns : goal.returns
unfolding after
returns c =
    let w = c.args.self.now in
    let p = c.args.address in
    let z = c.args.size in
    let r = room (goal.at.returns c).In_ok-judge_reservation in
    made _ _ _ c.judge_reservation.ensures c.in_ok-judge_reservation.was
    (lay_entry w p z
    (and_then_lem c.put64-a.ensures c.put64-self.ensures.fits (omega (arith, length-append (bytes8 p) (bytes8 z), bytes8_length p, bytes8_length z))))
