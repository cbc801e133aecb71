-- Rounding, in the words of document 01, "Rounding and the map", for pages of p bytes. Nothing here says how large a page is.
use Rattle.std.specs.Prelude.{◌≡◌, cond, ℕ, ◌+◌, ◌-◌, ◌*◌, ◌/◌, ◌%◌, ◌^◌, ◌≤◌, ◌<◌, min, leb}

-- "Let T = 2^64 - 4096": the start of the last page
unfoldable pub top : ℕ → ℕ
top p = 2 ^ 64 - p

-- "Down is x/4096*4096."
unfoldable pub down : ℕ → ℕ → ℕ
down p x = x / p * p

-- x is a page's start
abbrev pub Aligned : ℕ → ℕ → Type 0
Aligned p x = x % p ≡ 0

-- "Up is the least multiple not below x, but T for every x above T.": what a number u must be to be that
pub record IsUp (p x u : ℕ) : Type 0 where
  pub multiple : Aligned p u
  pub above : top p < x → u ≡ top p
  pub enough : x ≤ top p → x ≤ u
  pub least : x ≤ top p → (y : ℕ) → Aligned p y → x ≤ y → u ≤ y

-- the number that is so, computed. Laws.up_is ties the two, and Laws.is_up says that no other number is so
unfoldable pub up : ℕ → ℕ → ℕ
up p x = cond (leb x (top p)) (down p (x + (p - 1))) (top p)

-- "An end is base + size, capped at 2^64 - 1."
unfoldable pub ending : ℕ → ℕ → ℕ
ending base size = min (base + size) (2 ^ 64 - 1)

-- a page size: it divides the address space
pub record Page (p : ℕ) : Type 0 where
  pub pos : 0 < p
  pub small : p ≤ 2 ^ 64
  pub whole : 2 ^ 64 % p ≡ 0
