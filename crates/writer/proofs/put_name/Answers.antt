-- `writer::put_name` meets its contract: its texts stand one behind the other, and are the name turned round (Laying). Assumes nothing.
use native.Mathlib.Omega.{arith}
use mathlib.Core.List.{[], ◌∷◌, ◌++◌}
use lib.ListN.{length-reverse, length-append}
use Rattle.pen.proofs.WritingLaws.{and_then_lem, as_text}
use Rattle.writer.proofs.Laying.{name_bytes_lem}
use Rattle.writer.proofs.put_name.Goals as goal

pub returns : goal.returns
returns c = let n = c.args.name.now in as_text (name_bytes_lem n) (and_then_lem c.put_zeros-a.ensures c.put_turned.ensures.fits) (omega (arith, length-reverse (n ++ (0 ∷ [])), length-append n (0 ∷ [])))
