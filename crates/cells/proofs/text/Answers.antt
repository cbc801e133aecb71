-- `cells::text` meets its contract: the first zero byte is in the value, or there is none. Assumes nothing.
use mathlib.Core.Path.{sym}
use Rattle.cells.proofs.TextLaws.{text_in, text_past}
use Rattle.cells.proofs.text.Goals as goal

pub returns-then-end-v : goal.returns-then-end-v
returns-then-end-v c =
    let e = c.byte_from-end.ensures.is in
    rw e (sym (text_in _ (rw e at c.if-end-v.true)))

pub returns : goal.returns
returns c =
    let e = c.byte_from-end.ensures.is in
    sym (text_past _ (rw e at c.if-end-v.false))
