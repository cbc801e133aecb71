-- `writer::Writer::property` meets its contract: a call that is done has room (Accepting), and leaves what it must (Laying). Assumes nothing.
use Rattle.flattened.proofs.PartLaws.{part_length}
use Rattle.pen.proofs.WritingLaws.{kept}
use mathlib.Core.List.{[]}
use native.Mathlib.Omega.{arith}
use lib.ListN.{length}
use Rattle.flattened.specs.Parts.{property, part_size, name_size}
use Rattle.writer.specs.Writer.{after}
use Rattle.writer.proofs.Accepting.{Room, part_room}
use Rattle.writer.proofs.Laying.{refused, made, lay_property}
use Rattle.writer.proofs.Writer.property.Goals as goal
use Rattle.writer.proofs.Writer.property.Goals.{In_ok-judge_property}

-- there is room for what is put
room : (c : In_ok-judge_property) → Room c.args.self.now (property c.args.name.now c.args.value.now) (length c.args.out.now)
room c = part_room c.args.self.now _ c.in_ok-judge_property.was (property c.args.name.now c.args.value.now) c.judge_property.ensures

pub returns-in_err-judge_property : goal.returns-in_err-judge_property
returns-in_err-judge_property c = refused _ _ _ c.judge_property.ensures c.in_err-judge_property.was c.from_residual.result c.from_residual.ensures.1

pub overflow_add-self : goal.overflow_add-self
unfolding part_size name_size
overflow_add-self c = let r = room (goal.at.overflow_add-self c).In_ok-judge_property in omega arith

pub overflow_mul-self : goal.overflow_mul-self
unfolding part_size name_size
overflow_mul-self c = let r = room (goal.at.overflow_mul-self c).In_ok-judge_property in omega arith

pub overflow_add-self-2 : goal.overflow_add-self-2
unfolding part_size name_size
overflow_add-self-2 c = let r = room (goal.at.overflow_add-self-2 c).In_ok-judge_property in omega arith

pub overflow_add-self-3 : goal.overflow_add-self-3
unfolding part_size name_size
overflow_add-self-3 c = let r = room (goal.at.overflow_add-self-3 c).In_ok-judge_property in omega arith

pub put_property-requires : goal.put_property-requires
unfolding part_size name_size
put_property-requires c = let r = room (goal.at.put_property-requires c).In_ok-judge_property in omega arith

pub overflow_sub-out : goal.overflow_sub-out
unfolding part_size name_size
overflow_sub-out c = let r = room (goal.at.overflow_sub-out c).In_ok-judge_property in omega arith

pub overflow_sub-out-2 : goal.overflow_sub-out-2
unfolding part_size name_size
overflow_sub-out-2 c = let r = room (goal.at.overflow_sub-out-2 c).In_ok-judge_property in omega arith

pub put_name-requires : goal.put_name-requires
unfolding part_size name_size
put_name-requires c = let r = room (goal.at.put_name-requires c).In_ok-judge_property in omega arith

pub overflow_add-self-6 : goal.overflow_add-self-6
unfolding part_size name_size
overflow_add-self-6 c = let r = room (goal.at.overflow_add-self-6 c).In_ok-judge_property in omega arith

pub overflow_add-self-7 : goal.overflow_add-self-7
unfolding part_size name_size
overflow_add-self-7 c = let r = room (goal.at.overflow_add-self-7 c).In_ok-judge_property in omega arith

pub overflow_add-self-8 : goal.overflow_add-self-8
unfolding part_size name_size
overflow_add-self-8 c = let r = room (goal.at.overflow_add-self-8 c).In_ok-judge_property in omega arith

pub returns : goal.returns
unfolding after part_size name_size
returns c =
    let w = c.args.self.now in
    let value = c.args.value.now in
    let r = room (goal.at.returns c).In_ok-judge_property in
    let same = kept c.put_property.ensures (omega (arith, part_length w.strings (property [] value))) in
    made _ _ _ c.judge_property.ensures c.in_ok-judge_property.was (lay_property w c.args.name.now value c.put_property.ensures same c.put_name.ensures)
