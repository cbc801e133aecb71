-- When a late claim is refused: request L3 of document 02, "Refusals, in order: 1, 13 .., 14 .., 2, 3".
use Rattle.std.specs.Prelude.{◌≡◌, List, ◌⊎◌, ℕ, suc, ◌+◌, ◌≤◌, ◌<◌}
use Rattle.entry.specs.declared.BootloaderMemoryKind.TheVariants.{Null, Free}
use Rattle.entry.specs.Kind.{number_of, IsKind}
use Rattle.entry.specs.declared.Claim.{Claim}
use Rattle.memory.specs.declared.MemoryMap.{MemoryMap}
use Rattle.areas.specs.Table.{slots_in}
use Rattle.demand3.specs.Slots.{number_slot, WholeSlot}
use Rattle.late_claim.specs.Late.{late_number, late_of}

-- the number that a late claim is answered with
abbrev pub late_gives : ℕ → MemoryMap → Claim → ℕ → List ℕ → ℕ
late_gives p m c n l = late_number (late_of p m c n l).answer

-- "kind Null or Free"
abbrev pub NullOrFree : Claim → Type 0
NullOrFree c = (c.kind ≡ number_of Null) ⊎ (c.kind ≡ number_of Free)

-- "of any kind but Null and Free"
pub record LateKind (c : Claim) : Type 0 where
  pub known : IsKind c.kind
  pub other : NullOrFree c → ⊥

-- what 14 asks of the first n slots of the numbers l, slot by slot
pub record TableStands (p n : ℕ) (l : List ℕ) : Type 0 where
  -- not "count above the slots"
  pub count : n ≤ slots_in l
  -- "aligned, nonempty, .. ending at or below T"
  pub whole : (i : ℕ) → i < n → WholeSlot p (number_slot l i)
  -- "ascending, .. apart without touching"
  pub apart : (i : ℕ) → suc i < n → (number_slot l i).base + (number_slot l i).size < (number_slot l (suc i)).base
