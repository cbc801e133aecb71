-- `fdt::prop_at` meets its contract: each way out is a law of TokLaws. Assumes nothing.
use native.Mathlib.Omega.{arith}
use Rattle.fdt.proofs.TokLaws.{prop_short, prop_long, prop_is, prop_nameless}
use Rattle.fdt.proofs.prop_at.Goals as goal

pub returns-then-left-lt12 : goal.returns-then-left-lt12
returns-then-left-lt12 c = prop_short _ _ _ (omega arith)

pub returns-then-left-len : goal.returns-then-left-len
returns-then-left-len c = prop_long _ _ _ _ c.be32-len.ensures.is (omega arith)

pub returns-then-end-tree : goal.returns-then-end-tree
returns-then-end-tree c = let d = c in prop_is _ _ _ _ _ _ d.be32-len.ensures.is (omega arith) d.be32-name.ensures.is d.byte_from-end.ensures.is c.if-end-tree.true

pub returns : goal.returns
returns c = let d = c in prop_nameless _ _ _ _ _ _ d.be32-len.ensures.is (omega arith) d.be32-name.ensures.is d.byte_from-end.ensures.is c.if-end-tree.false
