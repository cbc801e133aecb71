-- `fdt::good_header` meets its contract: each test that fails is a field that no good header has. Assumes nothing.
use native.Mathlib.Omega.{arith}
use Rattle.fdt.proofs.HeaderLaws.{bad_header, aligned_decides}
use Rattle.fdt.proofs.good_header.Goals as goal

pub returns-then-s-lt40 : goal.returns-then-s-lt40
returns-then-s-lt40 c = bad_header _ (λ g. omega arith)

pub returns-then-be32-ne3490578157 : goal.returns-then-be32-ne3490578157
returns-then-be32-ne3490578157 c = bad_header _ (λ g. c.if-be32-ne3490578157.true (omega arith))

pub returns-then-total-lt40 : goal.returns-then-total-lt40
returns-then-total-lt40 c = bad_header _ (λ g. omega arith)

pub returns-then-s-total : goal.returns-then-s-total
returns-then-s-total c = bad_header _ (λ g. omega arith)

pub returns-then-be32-lt17 : goal.returns-then-be32-lt17
returns-then-be32-lt17 c = bad_header _ (λ g. omega arith)

pub returns-then-be32-gt17 : goal.returns-then-be32-gt17
returns-then-be32-gt17 c = bad_header _ (λ g. omega arith)

pub returns-then-structure-lt40 : goal.returns-then-structure-lt40
returns-then-structure-lt40 c = bad_header _ (λ g. omega arith)

pub returns-then-strings-lt40 : goal.returns-then-strings-lt40
returns-then-strings-lt40 c = bad_header _ (λ g. omega arith)

pub returns-then-total-structure : goal.returns-then-total-structure
returns-then-total-structure c = bad_header _ (λ g. omega arith)

pub returns-then-total-strings : goal.returns-then-total-strings
returns-then-total-strings c = bad_header _ (λ g. omega arith)

pub returns : goal.returns
returns c =
    rw c.be32-structure.ensures.is
    (aligned_decides _ (omega arith) (omega arith) (omega arith) (omega arith) (omega arith) (omega arith) (omega arith) (omega arith) (omega arith) (omega arith))
