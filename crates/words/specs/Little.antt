-- Little-endian numbers in a list of bytes: the lowest byte stands first.
use Rattle.std.specs.Prelude.{◌≡◌, ℕ, ◌+◌, ◌*◌, ◌^◌, ◌<◌, List, get_or}

-- the number in the two bytes at a place; a byte past the end counts as 0
unfoldable pub half : List ℕ → ℕ → ℕ
half s at = get_or s at 0 + 256 * get_or s (at + 1) 0

-- the same in four bytes
unfoldable pub quarter : List ℕ → ℕ → ℕ
quarter s at = half s at + 65536 * half s (at + 2)

-- the same in eight bytes
unfoldable pub eight : List ℕ → ℕ → ℕ
eight s at = quarter s at + 2 ^ 32 * quarter s (at + 4)

-- ── What the readers give, and how large it is ──
pub record Half (s : List ℕ) (at r : ℕ) : Type 0 where
  pub is : r ≡ half s at
  pub small : r < 2 ^ 16

pub record Quarter (s : List ℕ) (at r : ℕ) : Type 0 where
  pub is : r ≡ quarter s at
  pub small : r < 2 ^ 32

pub record Eight (s : List ℕ) (at r : ℕ) : Type 0 where
  pub is : r ≡ eight s at
  pub small : r < 2 ^ 64
