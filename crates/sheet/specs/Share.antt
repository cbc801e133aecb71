-- The share: document 01, "Page sheet": "The share is either none or a double; none when no page is Free, positive zero when pages are Free
-- and none is usable. It is one division, rounded once".
use Rattle.std.specs.Prelude.{ℕ, zero, suc, ◌-◌, ◌^◌, min, pos, Float, Option, Some, None}
use Rattle.std.specs.Float.{Format, binary64}
use Rattle.std.specs.Float.Ieee.{div, of_int, to_bits}

-- usable / free: each count as a float, and one division
unfoldable pub quotient : Format → ℕ → ℕ → Float
unfolding div of_int
quotient f usable free = div f (of_int f (pos usable)) (of_int f (pos free))

-- "two counts below 2^52": no map has more pages, and a larger number counts as the largest of these
unfoldable pub counted : ℕ → ℕ
counted n = min n (2 ^ 52 - 1)

-- "none when no page is Free"
abbrev pub share_of : ℕ → ℕ → Option Float
share_of zero usable = None
share_of (suc free) usable = Some (quotient binary64 (counted usable) (counted (suc free)))

-- the share's 64 bits, as the report prints them
abbrev pub bits_of : Option Float → Option ℕ
bits_of None = None
bits_of (Some x) = Some (to_bits binary64 x)
