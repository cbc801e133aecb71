-- `pen::put32` meets its contract: its four bytes are put. Assumes nothing.
use Rattle.pen.proofs.NumberLaws.{low_bytes}
use Rattle.pen.proofs.put32.Goals as goal

pub returns : goal.returns
returns c = rw (c.to_be_bytes.ensures, low_bytes) at c.put.ensures
