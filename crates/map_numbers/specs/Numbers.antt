-- A map as 1,537 numbers: the start of each of the 512 slots, the end of each, the kind of each, and how many are held.
use Rattle.std.specs.Prelude.{List, [], ◌∷◌, ◌++◌, map, ℕ, zero, suc, ◌+◌, get_or}
use Rattle.entry.specs.declared.MemoryEntry.{MemoryEntry}
use Rattle.entry.specs.Entry.{entry}
use Rattle.memory.specs.declared.MemoryMap.{MemoryMap}
use Rattle.memory.specs.Map.{Slots, map_of}

-- the entry of slot i in such numbers
abbrev pub entry_in : List ℕ → ℕ → MemoryEntry
entry_in l i = entry (get_or l i 0) (get_or l (512 + i) 0) (get_or l (1024 + i) 0)

-- n slots, from slot i on
unfoldable pub slots_in : List ℕ → ℕ → ℕ → Slots
slots_in l zero i = []
slots_in l (suc n) i = entry_in l i ∷ slots_in l n (i + 1)

-- the map in such numbers
unfoldable pub map_in : List ℕ → MemoryMap
map_in l = map_of (slots_in l 512 0) (get_or l 1536 0)

-- the starts of some slots, their ends and their kinds
abbrev pub starts : Slots → List ℕ
starts es = map (λ e. e.start) es

abbrev pub ends : Slots → List ℕ
ends es = map (λ e. e.end) es

abbrev pub kinds : Slots → List ℕ
kinds es = map (λ e. e.kind) es

-- the numbers of a map: of its slots, and how many are held
abbrev pub numbers : Slots → ℕ → List ℕ
numbers es n = starts es ++ (ends es ++ (kinds es ++ (n ∷ [])))

unfoldable pub numbers_of : MemoryMap → List ℕ
numbers_of m = numbers m.entries m.size
