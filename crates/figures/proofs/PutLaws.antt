-- Laws of a number's text put into a lent buffer: the same text by another name; and a word and a number where there is room for the
-- longest. Assumes nothing.
use mathlib.Core.Path.{◌≡◌, subst}
use mathlib.Core.List.{List}
use Prim.Native.Nat.{ℕ, ◌+◌, ◌≤◌}
use native.Mathlib.Omega.{arith}
use lib.ListN.{length, length-append}
use Rattle.pen.specs.Writing.{Writes, Lands, Put}
use Rattle.pen.proofs.WritingLaws.{and_then_lem}
use Rattle.figures.specs.Figures.{decimal_text, labelled, Labelled}
use Rattle.figures.proofs.DigitsLaws.{decimal_length}

pub same_put : {a : List ℕ} {at : ℕ} {x y b : List ℕ} {q : ℕ} → Put a at x b q → x ≡ y → Put a at y b q
same_put {a} {at} {x} {y} {b} {q} p e = subst (λ (l : List ℕ). Put a at l b q) e p

-- with room for the word and the digits both are there
pub labelled_lands : {out : List ℕ} {at : ℕ} {word : List ℕ} {n : ℕ} {out' : List ℕ} {r : ℕ} → Labelled out at word n out' r
    → Lands out at (labelled word n) out' r
labelled_lands l = and_then_lem l.first l.second.fits

-- a number has at most 20 digits, so that with room for so many behind the word both are there
pub labelled_fits : {out : List ℕ} {at : ℕ} {word : List ℕ} {n : ℕ} {out' : List ℕ} {r : ℕ} → Labelled out at word n out' r
    → at + length word + 20 ≤ length out → Writes out at (labelled word n) out' r
labelled_fits {out} {at} {word} {n} l room = labelled_lands l (omega (arith, length-append word (decimal_text n), decimal_length n))
