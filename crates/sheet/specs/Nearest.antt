-- "With value m/2^k and, when usable is not 0, 2^52 <= m < 2^53: twice the distance of m*Free from usable*2^k is at most Free."
use Rattle.std.specs.Prelude.{ℕ, ◌+◌, ◌-◌, ◌*◌, ◌^◌, ◌≤◌, ◌<◌, pos, Float, false}
use Rattle.std.specs.Float.{fin, Format}
use Rattle.std.specs.Float.Ieee.{prec, low}
use Rattle.std.specs.Float.Ieee.Exact.{HasValue}

-- |a - b|
abbrev pub distance : ℕ → ℕ → ℕ
distance a b = (a - b) + (b - a)

-- +0
abbrev pub plus_zero : Float
plus_zero = fin false 0 (pos 0)

-- x is m / 2^k with all the digits that the format keeps, and is nearest to usable / free
pub record Nearest (f : Format) (usable free : ℕ) (x : Float) : Type 0 where
  pub m : ℕ
  pub k : ℕ
  pub value : HasValue x false m (2 ^ k)
  pub full : 2 ^ (prec f - 1) ≤ m
  pub kept : m < 2 ^ prec f
  pub near : 2 * distance (m * free) (usable * 2 ^ k) ≤ free
  pub normal : k ≤ low f
