-- What every map has that is made by our calls: it starts empty, and only they change it (document 01, "Rounding and the map").
-- This is all that a contract asks of a caller. MapLaws.registered_made, ListLaws.listed_made, PickedLaws.picked_made and
-- CallLaws.tree_made say that every call hands back such a map.
use Rattle.std.specs.Prelude.{◌≡◌, ℕ, ◌<◌, ◌≤◌, length}
use Rattle.page.specs.Round.{top, Aligned}
use Rattle.entry.specs.declared.MemoryEntry.{MemoryEntry}
use Rattle.entry.specs.declared.BootloaderMemoryKind.TheVariants.{Null}
use Rattle.entry.specs.Kind.{number_of, IsKind}
use Rattle.memory.specs.declared.MemoryMap.{MemoryMap}
use Rattle.memory.specs.Map.{Slots, slots_of, at, Absorbs}

-- the slots are 512
abbrev pub Full : Slots → Type 0
Full l = length l ≡ 512

-- a held entry: whole pages, not empty, up to the last page's start at most, of one of the kinds, and not of Null
pub record Good (p : ℕ) (e : MemoryEntry) : Type 0 where
  pub some : e.start < e.end
  pub from : Aligned p e.start
  pub to : Aligned p e.end
  pub low : e.end ≤ top p
  pub known : IsKind e.kind
  pub proper : e.kind ≡ number_of Null → ⊥

-- the slots and their count; each held entry is good; and no two of one kind overlap or touch
pub record Made (p : ℕ) (m : MemoryMap) : Type 0 where
  pub slots : Full (slots_of m)
  pub room : m.size ≤ 512
  pub each : (j : ℕ) → j < m.size → Good p (at (slots_of m) j)
  pub apart : (a b : ℕ) → a < m.size → b < m.size → (a ≡ b → ⊥) → Absorbs (at (slots_of m) a) (at (slots_of m) b) → ⊥
