-- `fdt::token_at` meets its contract: each way out is a law of TokLaws. Assumes nothing.
use native.Mathlib.Omega.{arith}
use Rattle.fdt.proofs.TokLaws.{at_short, at_begin, at_nameless, at_end, at_prop, at_nop, at_fin, at_early, at_other}
use Rattle.fdt.proofs.token_at.Goals as goal

pub returns-then-tree-lt4 : goal.returns-then-tree-lt4
returns-then-tree-lt4 c = at_short _ _ _ (omega arith)

pub returns-then-tree-p : goal.returns-then-tree-p
returns-then-tree-p c = at_short _ _ _ (omega arith)

pub returns-then-end-tree : goal.returns-then-end-tree
returns-then-end-tree c = let d = c in at_begin _ _ _ _ (omega arith) d.be32.ensures.is _ d.in-1.is c.byte_from-end.ensures.is c.if-end-tree.true

pub returns-then-tree-p-eq4 : goal.returns-then-tree-p-eq4
returns-then-tree-p-eq4 c = at_fin _ _ _ _ (omega arith) c.be32.ensures.is c.in-9.is (omega arith)

pub returns-else-end-tree : goal.returns-else-end-tree
returns-else-end-tree c = let d = c in at_nameless _ _ _ _ (omega arith) d.be32.ensures.is _ d.in-1.is c.byte_from-end.ensures.is c.if-end-tree.false

pub returns-in-2 : goal.returns-in-2
returns-in-2 c = at_end _ _ _ _ (omega arith) c.be32.ensures.is c.in-2.is

pub returns-in-3 : goal.returns-in-3
returns-in-3 c = let d = c in at_prop _ _ _ _ (omega arith) d.be32.ensures.is _ d.in-3.is c.prop_at.ensures

pub returns-in-4 : goal.returns-in-4
returns-in-4 c = at_nop _ _ _ _ (omega arith) c.be32.ensures.is c.in-4.is

pub returns-else-tree-p-eq4 : goal.returns-else-tree-p-eq4
returns-else-tree-p-eq4 c = at_early _ _ _ _ (omega arith) c.be32.ensures.is c.in-9.is (λ q. c.if-tree-p-eq4.false (omega arith))

pub returns-in_default : goal.returns-in_default
returns-in_default c = let r = c.in_default.in_default-own.rest in at_other _ _ _ _ (omega arith) c.be32.ensures.is r.0.0.0.0.1 r.0.0.0.1 r.0.0.1 r.0.1 r.1
