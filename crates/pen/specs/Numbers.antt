-- Numbers as big-endian bytes, and padding: Specification, chapter 5.
use Rattle.std.specs.Prelude.{ℕ, ◌-◌, ◌/◌, ◌%◌, List, [], ◌∷◌, ◌++◌, replicate}
use Rattle.words.specs.Bytes.{align4}

-- a number below 2^32 in four bytes, the highest first
unfoldable pub bytes4 : ℕ → List ℕ
bytes4 w = w / 256 / 256 / 256 % 256 ∷ w / 256 / 256 % 256 ∷ w / 256 % 256 ∷ w % 256 ∷ []

-- a number below 2^64 in eight
unfoldable pub bytes8 : ℕ → List ℕ
bytes8 w = bytes4 (w / 4294967296) ++ bytes4 (w % 4294967296)

-- the zero bytes from n up to the next multiple of 4
unfoldable pub padding : ℕ → List ℕ
padding n = replicate (align4 n - n) 0
