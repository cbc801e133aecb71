-- `pen::put64` meets its contract: its eight bytes are put. Assumes nothing.
use Rattle.pen.proofs.NumberLaws.{all_bytes}
use Rattle.pen.proofs.put64.Goals as goal

pub returns : goal.returns
returns c = rw (c.to_be_bytes.ensures, all_bytes) at c.put.ensures
