-- What a late claim takes: request L3 of document 02, "the rounded claim".
use Rattle.std.specs.Prelude.{◌≡◌, ℕ, ◌<◌}
use Rattle.entry.specs.declared.Claim.{Claim}
use Rattle.entry.specs.Claim.{rounded}
use Rattle.memory.specs.Map.{Something}
use Rattle.areas.specs.declared.Interval.{Interval}
use Rattle.areas.specs.Interval.{Inside}
use Rattle.areas.specs.Areas.{span}
use Rattle.lent_areas.specs.declared.MemoryArea.{MemoryArea}

-- the claim takes the address x: it registers something, and x lies in its pages
pub record Takes (p x : ℕ) (c : Claim) : Type 0 where
  pub something : Something p c
  pub inside : Inside x (span (rounded p c))

-- "An area that the claim does not overlap"
abbrev pub Untouched : ℕ → Claim → Interval → Type 0
Untouched p c r = (x : ℕ) → Inside x r → Takes p x c → ⊥

-- one of the first n slots has this base and this size: "keeps its base and size, though its slot may move"
pub record KeptIn (slot : ℕ → MemoryArea) (n : ℕ) (a : MemoryArea) : Type 0 where
  pub at : ℕ
  pub within : at < n
  pub same : slot at ≡ a
