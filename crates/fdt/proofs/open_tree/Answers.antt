-- `fdt::open_tree` meets its contract: each way out is a law of VerdictLaws. Assumes nothing.
use mathlib.Core.Path.{sym, ◌∙◌}
use native.Mathlib.Omega.{arith}
use Rattle.std.proofs.lemmas.Result.{err_from_is_err_and}
use Rattle.fdt.proofs.HeaderLaws.{good_header_lem}
use Rattle.fdt.proofs.VerdictLaws.{says_none, says_header, says_large, says_judged}
use Rattle.fdt.proofs.open_tree.Goals as goal

pub returns-then-s-eq0 : goal.returns-then-s-eq0
returns-then-s-eq0 c = says_none _ (omega arith)

pub returns-then-not-good_header : goal.returns-then-not-good_header
returns-then-not-good_header c = says_header _ c.if-s-eq0.false (sym c.good_header.ensures ∙ c.if-not-good_header.true)

pub be32-requires : goal.be32-requires
be32-requires c = let g = (good_header_lem _).0 (sym c.good_header.ensures ∙ c.if-not-good_header.false) in omega arith

pub returns-then-be32-gt1048576 : goal.returns-then-be32-gt1048576
returns-then-be32-gt1048576 c = let d = c in says_large _ d.if-s-eq0.false (sym d.good_header.ensures ∙ d.if-not-good_header.false) (omega arith)

pub blocks_of-found-requires : goal.blocks_of-found-requires
blocks_of-found-requires c = let d = c in let g = (good_header_lem _).0 (sym d.good_header.ensures ∙ d.if-not-good_header.false) in omega arith

pub returns-in_err-walk : goal.returns-in_err-walk
returns-in_err-walk c =
    let p = err_from_is_err_and c.from_residual.result c.from_residual.ensures.1 in
    rw (p.1, p.2)
    (says_judged _ c.if-s-eq0.false (sym c.good_header.ensures ∙ c.if-not-good_header.false) _ _ _ _ _ (omega arith)
    c.blocks_of-found.ensures c.part.ensures c.part-2.ensures c.walk.ensures c.in_err-walk.was)

pub returns : goal.returns
returns c =
    says_judged _ c.if-s-eq0.false (sym c.good_header.ensures ∙ c.if-not-good_header.false) _ _ _ _ _ (omega arith)
    c.blocks_of-found.ensures c.part.ensures c.part-2.ensures c.walk.ensures c.in_ok-walk.was
