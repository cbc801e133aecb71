-- Numbers as text, byte for byte: document 01, "Order file and report".
use Rattle.std.specs.Prelude.{ℕ, zero, suc, ◌/◌, cond, List, ◌++◌, ltb}
use Rattle.io.specs.Digits.{last_digits}
use Rattle.pen.specs.Writing.{Put}

-- how many decimal digits a number has, if not more than k
unfoldable pub width_by : ℕ → ℕ → ℕ
width_by zero n = 0
width_by (suc k) n = cond (ltb n 10) 1 (suc (width_by k (n / 10)))

-- "decimal": no zero in front; a 64-bit number has at most 20 digits
unfoldable pub decimal_text : ℕ → List ℕ
decimal_text n = last_digits 10 (width_by 20 n) n

-- "16 hex digits"
unfoldable pub hex_text : ℕ → List ℕ
hex_text n = last_digits 16 16 n

-- a word and a number, decimal
abbrev pub labelled : List ℕ → ℕ → List ℕ
labelled word n = word ++ decimal_text n

-- the word put from `at` on and the digits behind it, each of the two where there is room for it
pub record Labelled (out : List ℕ) (at : ℕ) (word : List ℕ) (n : ℕ) (out' : List ℕ) (r : ℕ) : Type 0 where
  -- the buffer and the place between the two
  pub between : List ℕ
  pub behind : ℕ
  pub first : Put out at word between behind
  pub second : Put between behind (decimal_text n) out' r
