-- `put_run` meets its contract: its lines stand one behind the other, and the buffer has room for the longest text (LateLaws). Assumes nothing.
use mathlib.Core.Path.{◌≡◌}
use native.Mathlib.Omega.{arith}
use lib.ListN.{length}
use Rattle.pen.proofs.WritingLaws.{lands_append, as_text}
use Rattle.report_text.proofs.LateLaws.{lines_of_lem, run_length}
use borrow.Author.Rules.{rules}
use Rattle.report_text.proofs.put_run.Goals as goal

pub returns : goal.returns
returns c =
    let a = c.args in
    let slots : length a.slots.now ≡ 1024 = search rules in
    as_text
    (lines_of_lem a.count a.slots.now a.answer a.index slots c.listed.ensures.2)
    (lands_append c.put_count-a.ensures (lands_append c.put_areas-b.ensures c.put_last.ensures))
    (omega (arith, run_length a.count a.slots.now a.answer a.index slots))
