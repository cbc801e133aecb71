-- A map as plain sets, one for each kind: document 01, "Rounding and the map".
use Rattle.std.specs.Prelude.{◌≡◌, ℕ, ◌<◌}
use mathlib.Core.List.{List, Memᴰ}
use Rattle.entry.specs.declared.MemoryEntry.{MemoryEntry}
use Rattle.entry.specs.declared.BootloaderMemoryKind.TheVariants.{Null}
use Rattle.entry.specs.Kind.{number_of}
use Rattle.entry.specs.Entry.{Has}
use Rattle.entry.specs.declared.Claim.{Claim}
use Rattle.entry.specs.Claim.{rounded}
use Rattle.memory.specs.declared.MemoryMap.{MemoryMap}
use Rattle.memory.specs.Map.{slots_of, at}

-- some held entry is Q
pub record Held (Q : MemoryEntry → Type 0) (m : MemoryMap) : Type 0 where
  pub slot : ℕ
  pub held : slot < m.size
  pub found : Q (at (slots_of m) slot)

-- the entry has the kind k and the address x
pub record Of (k x : ℕ) (e : MemoryEntry) : Type 0 where
  pub kind : e.kind ≡ k
  pub has : Has x e

-- the address x is covered by kind k
abbrev pub Covered : ℕ → ℕ → MemoryMap → Type 0
Covered k x m = Held (Of k x) m

-- a registration of kind k with size not 0 that covers x, rounded; "Null .. registers nothing"
pub record Registers (p k x : ℕ) (c : Claim) : Type 0 where
  pub proper : c.kind ≡ number_of Null → ⊥
  pub sized : c.size ≡ 0 → ⊥
  pub covers : Of k x (rounded p c)

-- some registration of the run is so
pub record Some (P : Claim → Type 0) (cs : List Claim) : Type 0 where
  pub claim : Claim
  pub among : Memᴰ claim cs
  pub is : P claim
