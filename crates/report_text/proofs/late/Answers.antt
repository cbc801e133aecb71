-- `late` meets its contract: by what the build reported, the text and the slots are those of the refusal or of the run (LateLaws). Assumes nothing.
use native.Mathlib.Omega.{arith}
use lib.ListN.{length-take}
use Rattle.page.proofs.Laws.{page}
use Rattle.pen.proofs.WritingLaws.{same_text}
use Rattle.report_text.proofs.TextLaws.{refused_length}
use Rattle.report_text.proofs.LateLaws.{start_made, text_refused, slots_refused, text_done, slots_done}
use Rattle.report_text.proofs.late.Goals as goal

pub slice_bounds-init_map-end : goal.slice_bounds-init_map-end
slice_bounds-init_map-end c = omega (arith, length-take c.file_end-end.result c.args.input.now, c.file_end-end.ensures.upper_bound)

pub claim_all-run-requires : goal.claim_all-run-requires
claim_all-run-requires c = start_made c.args.input.now c.file_end-end.ensures.value c.init_map-start.ensures page

pub returns-in-Err : goal.returns-in-Err
returns-in-Err c =
    let s = c.args.input.now in
    let end = c.file_end-end.ensures.value in
    let starts = c.init_map-start.ensures in
    let written = c.put_refusal.ensures (omega (arith, refused_length c.number.result)) in
    record {
      writes = same_text written (text_refused s end starts c.in-Err.is c.number.ensures);
      slots_after = slots_refused s end starts c.in-Err.is;
    }

pub returns-in-Ok : goal.returns-in-Ok
returns-in-Ok c =
    let s = c.args.input.now in
    let end = c.file_end-end.ensures.value in
    let starts = c.init_map-start.ensures in
    let run = c.claim_all-run.ensures in
    record {
      writes = same_text c.put_run.ensures (text_done s end starts c.in-Ok.is run);
      slots_after = slots_done s end starts c.in-Ok.is run;
    }
