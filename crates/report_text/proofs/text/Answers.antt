-- `report_text::text` meets its contract: its lines stand one behind the other (WritingLaws), and the buffer has room for the longest text
-- (TextLaws). Assumes nothing.
use borrow.Author.Rules.{rules}
use mathlib.Core.Path.{◌≡◌}
use native.Mathlib.Omega.{arith}
use lib.ListN.{length}
use Rattle.report_text.proofs.TextLaws.{text_length, refused_text, done_text}
use Rattle.pen.proofs.WritingLaws.{lands_append, as_text}
use Rattle.report_text.proofs.text.Goals as goal

pub returns-in-Err : goal.returns-in-Err
returns-in-Err c =
    let a = c.args in
    let slots : length a.slots.now ≡ 1024 = search rules in
    as_text (refused_text a.slots.now c.in-Err.is c.number.ensures) c.put_refusal.ensures
    (omega (arith, text_length a.report a.slots.now slots))

pub returns-in-Ok : goal.returns-in-Ok
returns-in-Ok c =
    let a = c.args in
    let slots : length a.slots.now ≡ 1024 = search rules in
    as_text
    (done_text a.slots.now c.in-Ok.is slots c.listed.ensures.2)
    (lands_append c.put_count-a.ensures (lands_append c.put_areas-b.ensures c.put_pages.ensures))
    (omega (arith, text_length a.report a.slots.now slots))
