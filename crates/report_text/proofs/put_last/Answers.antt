-- `put_last` meets its contract: the answer picks the line (LateLaws), whose texts stand one behind the other (WritingLaws). Assumes nothing.
use Rattle.report_text.specs.LateText.{made_line, refused_at_line}
use Rattle.report_text.proofs.LateLaws.{last_made, last_refused}
use Rattle.pen.proofs.WritingLaws.{lands_append, as_text}
use Rattle.figures.proofs.PutLaws.{labelled_lands}
use Rattle.report_text.proofs.put_last.Goals as goal

pub returns-in-Ok : goal.returns-in-Ok
unfolding made_line
returns-in-Ok c =
    let a = c.args in
    as_text (last_made a.answer a.index c.in-Ok.is) (lands_append (labelled_lands c.put_labelled-a.ensures) c.put.ensures.fits)

pub returns-in-Err : goal.returns-in-Err
unfolding refused_at_line
returns-in-Err c =
    let a = c.args in
    as_text
    (last_refused a.answer a.index c.in-Err.is c.number.ensures)
    (lands_append (labelled_lands c.put_labelled-a-in-Err.ensures) (lands_append (labelled_lands c.put_labelled-b.ensures) c.put-in-Err.ensures.fits))
