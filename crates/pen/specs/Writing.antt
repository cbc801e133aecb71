-- A text put into a lent buffer.
use Rattle.std.specs.Prelude.{◌≡◌, ℕ, ◌+◌, ◌≤◌, ◌<◌, Bool, true, false, List, length}
use Rattle.std.proofs.Math.Seq.{paste}

-- `text` stands in the buffer from `at` on, all else is as it was, and r is the place behind it
pub record Writes (out : List ℕ) (at : ℕ) (text out' : List ℕ) (r : ℕ) : Type 0 where
  pub put : out' ≡ paste out at text (length text)
  pub end : r ≡ at + length text

-- it is put there if there is room for it
abbrev pub Lands : List ℕ → ℕ → List ℕ → List ℕ → ℕ → Type 0
Lands out at text out' r = at + length text ≤ length out → Writes out at text out' r

-- so where there is room for the text from there on; where there is none, nothing is put, and r is the place itself
pub record Put (out : List ℕ) (at : ℕ) (text out' : List ℕ) (r : ℕ) : Type 0 where
  pub fits : at + length text ≤ length out → Writes out at text out' r
  pub short : length out < at + length text → (out' ≡ out) × (r ≡ at)

-- whether a buffer of so many bytes has room for n from `at` on
pub record HasRoom (at n long : ℕ) (r : Bool) : Type 0 where
  pub yes : r ≡ true → at + n ≤ long
  pub not_so : r ≡ false → long < at + n
