-- Demand 3, stated from the registrations and not from the map.
use Rattle.std.specs.Prelude.{◌≡◌, ◌↔◌, ℕ, ◌-◌, ◌^◌, ◌≤◌, ◌<◌, Option, Ok}
use mathlib.Core.List.{List, Memᴰ}
use Rattle.page.specs.Round.{down, up}
use Rattle.entry.specs.declared.BootloaderMemoryKind.TheVariants.{Null, Free}
use Rattle.entry.specs.Kind.{number_of}
use Rattle.entry.specs.Entry.{Has}
use Rattle.entry.specs.declared.Claim.{Claim}
use Rattle.entry.specs.Claim.{inward, outward}
use Rattle.memory.specs.declared.MemoryMap.{MemoryMap}
use Rattle.memory.specs.Map.{blank}
use Rattle.memory.specs.Run.{registered_all}
use Rattle.runs.specs.Sets.{Some}
use Rattle.areas.specs.declared.Interval.{Interval}
use Rattle.areas.specs.Areas.{or_else, limit_of, areas_of}

-- "If no call is refused": the run from the empty map, one registration after the other, is done
abbrev pub Accepted : ℕ → List Claim → Type 0
Accepted p cs = (registered_all p blank cs).answer ≡ Ok tt

-- the map after the run, and its finished areas
abbrev pub map_after : ℕ → List Claim → MemoryMap
map_after p cs = (registered_all p blank cs).map

abbrev pub areas_after : ℕ → Option ℕ → Option ℕ → List Claim → List Interval
areas_after p low high cs = areas_of p low high (map_after p cs)

-- "inside some single Free registration rounded inward by itself"; "Size 0 .. register nothing"
pub record FreeOver (p x : ℕ) (c : Claim) : Type 0 where
  pub kind : c.kind ≡ number_of Free
  pub sized : c.size ≡ 0 → ⊥
  pub covers : Has x (inward p c)

-- a "registration of another kind rounded outward"; "Size 0 and Null register nothing"
pub record OtherOver (p x : ℕ) (c : Claim) : Type 0 where
  pub kind : c.kind ≡ number_of Free → ⊥
  pub proper : c.kind ≡ number_of Null → ⊥
  pub sized : c.size ≡ 0 → ⊥
  pub covers : Has x (outward p c)

-- "An address lies in a listed area exactly when it is inside the limits rounded inward, inside some single Free
-- registration rounded inward by itself, and inside no registration of another kind rounded outward."
pub record Rule (p : ℕ) (low high : Option ℕ) (cs : List Claim) (x : ℕ) : Type 0 where
  pub from : up p (or_else low 0) ≤ x
  pub to : x < down p (or_else high (2 ^ 64 - 1))
  pub free : Some (FreeOver p x) cs
  pub others : Some (OtherOver p x) cs → ⊥

-- "Deal the registrations of all sources together in any order": the same registrations, however they are dealt
abbrev pub SameClaims : List Claim → List Claim → Type 0
SameClaims cs ds = (c : Claim) → Memᴰ c cs ↔ Memᴰ c ds

-- "under the same limits": two pairs that round to the same, as a missing low does with 0, and a missing high with any in the top page
-- (Demand.missing_low, missing-high)
abbrev pub SameLimits : ℕ → Option ℕ → Option ℕ → Option ℕ → Option ℕ → Type 0
SameLimits p low high low' high' = limit_of p low high ≡ limit_of p low' high'
