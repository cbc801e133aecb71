-- When a registration and a list are refused: document 01, "Rounding and the map" and "Numbers a caller gets back".
use Rattle.std.specs.Prelude.{◌≡◌, ℕ, ◌<◌, Ok}
use mathlib.Core.List.{List, ◌∷◌, ◌++◌, Memᴰ}
use Rattle.entry.specs.Kind.{IsKind}
use Rattle.entry.specs.declared.Claim.{Claim}
use Rattle.entry.specs.Claim.{rounded}
use Rattle.memory.specs.declared.MemoryMap.{MemoryMap}
use Rattle.memory.specs.Map.{slots_of, at, Absorbs, Something}
use Rattle.memory.specs.Run.{registered_all}

-- every claim has one of the seven kinds; one has none
abbrev pub Kinds : List Claim → Type 0
Kinds cs = (c : Claim) → Memᴰ c cs → IsKind c.kind

abbrev pub Kindless : Claim → Type 0
Kindless c = IsKind c.kind → ⊥

-- "It is refused exactly when it is nonempty, 512 entries are held and none of its kind overlaps or touches it."
pub record Refused (p : ℕ) (m : MemoryMap) (c : Claim) : Type 0 where
  pub nonempty : Something p c
  pub full : m.size ≡ 512
  pub alone : (j : ℕ) → j < m.size → Absorbs (rounded p c) (at (slots_of m) j) → ⊥

-- a run meets the refusal of a full map: what came before was accepted, and the next is refused for want of a slot
pub record Overflows (p : ℕ) (m : MemoryMap) (cs : List Claim) : Type 0 where
  pub before : List Claim
  pub next : Claim
  pub after : List Claim
  pub run : cs ≡ before ++ (next ∷ after)
  pub accepted : (registered_all p m before).answer ≡ Ok tt
  pub refused : Refused p (registered_all p m before).map next
