-- Demand 3 on what a caller holds after a build: so many slots, each with a base and a size.
use Rattle.std.specs.Prelude.{List, ◌↔◌, ℕ, suc, ◌+◌, ◌≤◌, ◌<◌, get_or, Option}
use Rattle.page.specs.Round.{top, Aligned}
use Rattle.entry.specs.declared.Claim.{Claim}
use Rattle.lent_areas.specs.declared.MemoryArea.{MemoryArea}
use Rattle.lent_areas.specs.Row.{area_at}
use Rattle.demand3.specs.Rule.{Rule}

-- slot i of lent numbers: "A slot is a whole pair"
abbrev pub number_slot : List ℕ → ℕ → MemoryArea
number_slot l i = area_at l i

-- slot i of a lent row of area records
abbrev pub record_slot : List MemoryArea → ℕ → MemoryArea
record_slot row i = get_or row i (record { base = 0; size = 0 })

-- the address x "lies in a listed area": in that of one of the first n slots
pub record ListedIn (slot : ℕ → MemoryArea) (n x : ℕ) : Type 0 where
  pub at : ℕ
  pub within : at < n
  pub from : (slot at).base ≤ x
  pub to : x < (slot at).base + (slot at).size

-- "nonempty whole pages". A base and its size end at T at most, so that their sum is below 2^64
pub record WholeSlot (p : ℕ) (a : MemoryArea) : Type 0 where
  pub some : 0 < a.size
  pub from : Aligned p a.base
  pub to : Aligned p (a.base + a.size)
  pub low : a.base + a.size ≤ top p

-- the first n slots are as demand 3 says of the registrations cs
pub record SlotsRight (p : ℕ) (low high : Option ℕ) (cs : List Claim) (slot : ℕ → MemoryArea) (n : ℕ) : Type 0 where
  -- "An address lies in a listed area exactly when .."
  pub rule : (x : ℕ) → ListedIn slot n x ↔ Rule p low high cs x
  -- "Areas ascend, are nonempty whole pages, and never touch."
  pub whole : (i : ℕ) → i < n → WholeSlot p (slot i)
  pub apart : (i : ℕ) → suc i < n → (slot i).base + (slot i).size < (slot (suc i)).base
