-- The shape of a finished table: demand 3.
use mathlib.Core.List.{List, Memᴰ}
use Rattle.std.specs.Prelude.{ℕ, ◌≤◌}
use Rattle.page.specs.Round.{top, Aligned}
use Rattle.areas.specs.declared.Interval.{Interval}
use Rattle.areas.specs.Interval.{Ascending}

-- whole pages, that end at T at most
pub record WholePages (p : ℕ) (r : Interval) : Type 0 where
  pub from : Aligned p r.lo
  pub to : Aligned p r.hi
  pub low : r.hi ≤ top p

-- "Areas ascend, are nonempty whole pages, and never touch."
pub record Shape (p : ℕ) (areas : List Interval) : Type 0 where
  pub ascend : Ascending areas
  pub pages : (r : Interval) → Memᴰ r areas → WholePages p r
