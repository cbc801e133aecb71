-- The two rules on one range, as the code tests them. Assumes nothing.
use mathlib.Core.Path.{◌≡◌}
use Prim.Native.Nat.{ℕ, ◌+◌, ◌-◌, ◌^◌, ◌≤◌, ◌<◌}
use borrow.Author.Tests.{le-leb, lt-leb, lt-ltb, le-ltb}
use Rattle.cells.specs.declared.Range.{Range}
use Rattle.windows.specs.declared.Fit.TheVariants.{Gives, Over, Not}
use Rattle.windows.specs.Window.{reach, last_byte, landing, fit_soc, fit_bus}

-- ── Landing ──
module _ (p o l : ℕ) where
  pub lands : p + o + l ≤ 2 ^ 64 - 1 → Gives (p + o) ≡ landing p o l
  unfolding landing
  lands h = rw (le-leb (p + o + l) (2 ^ 64 - 1) h)

  pub lands_not : 2 ^ 64 - 1 < p + o + l → Over ≡ landing p o l
  unfolding landing
  lands_not h = rw (lt-leb (p + o + l) (2 ^ 64 - 1) h)

-- ── The soc window ──
module _ (r : Range) (a n : ℕ) where
  pub below : a < r.child → Not ≡ fit_soc r a n
  unfolding fit_soc
  below h = rw (lt-leb r.child a h)

  pub bus_below : a < r.child → Not ≡ fit_bus r a n
  unfolding fit_bus
  bus_below h = rw (lt-leb r.child a h)

  module _ (from : r.child ≤ a) where
    -- l is the last byte
    pub past : (l : ℕ) → l ≡ last_byte a n → r.size < l - r.child → Not ≡ fit_soc r a n
    unfolding fit_soc
    past l e h = rw (le-leb r.child a from, ← e, lt-leb (l - r.child) r.size h)

    pub inside : (l : ℕ) → l ≡ last_byte a n → l - r.child ≤ r.size → landing r.parent (a - r.child) (reach n) ≡ fit_soc r a n
    unfolding fit_soc
    inside l e h = rw (le-leb r.child a from, ← e, le-leb (l - r.child) r.size h)

    -- ── Translation ──
    pub bus_past : r.size ≤ a - r.child → Not ≡ fit_bus r a n
    unfolding fit_bus
    bus_past h = rw (le-leb r.child a from, le-ltb (a - r.child) r.size h)

    -- m is how far the last byte lies past the first
    module _ (m : ℕ) (e : m ≡ reach n) (starts : a - r.child < r.size) where
      pub bus_long : r.size - (a - r.child) ≤ m → Not ≡ fit_bus r a n
      unfolding fit_bus
      bus_long h = rw (le-leb r.child a from, lt-ltb (a - r.child) r.size starts, ← e, le-ltb m (r.size - (a - r.child)) h)

      pub bus_inside : m < r.size - (a - r.child) → landing r.parent (a - r.child) 0 ≡ fit_bus r a n
      unfolding fit_bus
      bus_inside h = rw (le-leb r.child a from, lt-ltb (a - r.child) r.size starts, ← e, lt-ltb m (r.size - (a - r.child)) h)
