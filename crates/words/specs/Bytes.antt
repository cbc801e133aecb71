-- Numbers, names and parts in a list of bytes.
use Rattle.std.specs.Prelude.{◌≡◌, ℕ, zero, suc, ◌+◌, ◌*◌, ◌/◌, ◌-◌, ◌^◌, ◌≤◌, ◌<◌, List, [], cond, length, get_or, take, drop, eqb, leb}

-- the big-endian number in the four bytes at a place; a byte past the end counts as 0
unfoldable pub word : List ℕ → ℕ → ℕ
word s at = ((get_or s at 0 * 256 + get_or s (at + 1) 0) * 256 + get_or s (at + 2) 0) * 256 + get_or s (at + 3) 0

-- the same in eight bytes
unfoldable pub double : List ℕ → ℕ → ℕ
double s at = word s at * 2 ^ 32 + word s (at + 4)

-- the first byte x among the n bytes from a place on, or the place after them where there is none
unfoldable pub byte_from : ℕ → List ℕ → ℕ → ℕ → ℕ
byte_from x s zero at = at
byte_from x s (suc n) at = cond (eqb (get_or s at 0) x) at (byte_from x s n (at + 1))

-- the first byte x from a place on, or the end of the list where there is none
abbrev pub first_byte : ℕ → List ℕ → ℕ → ℕ
first_byte x s at = byte_from x s (length s - at) at

-- where a string that begins at a place ends: at its first zero byte, or at the end of the list where there is none
abbrev pub string_end : List ℕ → ℕ → ℕ
string_end s at = first_byte 0 s at

-- the least multiple of 4 that is not below x
abbrev pub align4 : ℕ → ℕ
align4 x = (x + 3) / 4 * 4

-- the bytes from a up to, not including, b
abbrev pub bytes : List ℕ → ℕ → ℕ → List ℕ
bytes s a b = take (b - a) (drop a s)

-- n bytes from a place on, or none where the list does not have them all
unfoldable pub part_of : List ℕ → ℕ → ℕ → List ℕ
part_of s at n = cond (leb (at + n) (length s)) (take n (drop at s)) []

-- ── What the readers give, and how large it is ──
pub record Word (s : List ℕ) (at r : ℕ) : Type 0 where
  pub is : r ≡ word s at
  pub small : r < 2 ^ 32

pub record Double (s : List ℕ) (at r : ℕ) : Type 0 where
  pub is : r ≡ double s at
  pub small : r < 2 ^ 64

pub record Finds (x : ℕ) (s : List ℕ) (at r : ℕ) : Type 0 where
  pub is : r ≡ first_byte x s at
  pub from : at ≤ r
  pub upto : at ≤ length s → r ≤ length s
