-- `fdt::blocks_of` meets its contract: each number is the header's. Assumes nothing.
use Rattle.fdt.specs.Opening.{blocks_of}
use Rattle.fdt.proofs.blocks_of.Goals as goal

pub returns : goal.returns
unfolding blocks_of
returns c = let d = c in rw (d.be32.ensures.is, d.be32-2.ensures.is, d.be32-3.ensures.is, d.be32-4.ensures.is, c.be32-reservations.ensures.is)
