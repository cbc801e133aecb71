-- What a map lists: the held entries of a kind, or those of every other kind, in the order in which they are held.
use Rattle.std.specs.Prelude.{◌≡◌, Bool, cond, not, List, [], ◌∷◌, ℕ, zero, suc, ◌+◌, ◌<◌, eqb, length, Option, Some, None}
use Rattle.entry.specs.declared.MemoryEntry.{MemoryEntry}
use Rattle.memory.specs.declared.MemoryMap.{MemoryMap}
use Rattle.memory.specs.Map.{Slots, slots_of, at, put, blank, refilled}

-- n entries of some slots, from slot i on
unfoldable pub entries_from : Slots → ℕ → ℕ → List MemoryEntry
entries_from l zero i = []
entries_from l (suc n) i = at l i ∷ entries_from l n (i + 1)

-- the entries that a map holds, in order
abbrev pub held : MemoryMap → List MemoryEntry
held m = entries_from (slots_of m) m.size 0

-- whether a kind is the one asked for, or, where that one is not wanted, any other
abbrev pub wants_kind : ℕ → Bool → ℕ → Bool
wants_kind kind wanted k = cond wanted (eqb k kind) (not (eqb k kind))

abbrev pub wants : ℕ → Bool → MemoryEntry → Bool
wants kind wanted e = wants_kind kind wanted e.kind

-- those entries of a list that pass a test
unfoldable pub those : (MemoryEntry → Bool) → List MemoryEntry → List MemoryEntry
those t [] = []
those t (e ∷ l) = cond (t e) (e ∷ those t l) (those t l)

-- entries put into slots, from slot i on
unfoldable pub laid : Slots → ℕ → List MemoryEntry → Slots
laid l i [] = l
laid l i (e ∷ es) = laid (put l i e) (i + 1) es

-- a map that holds just these entries
unfoldable pub holding : List MemoryEntry → MemoryMap
holding es = refilled blank (laid (slots_of blank) 0 es) (length es)

unfoldable pub picked : ℕ → Bool → MemoryMap → MemoryMap
picked kind wanted m = holding (those (wants kind wanted) (held m))

-- the first entry of a list that passes a test
unfoldable pub first : (MemoryEntry → Bool) → List MemoryEntry → Option MemoryEntry
first t [] = None
first t (e ∷ l) = cond (t e) (Some e) (first t l)

unfoldable pub first_of : ℕ → MemoryMap → Option MemoryEntry
first_of kind m = first (λ e. eqb e.kind kind) (held m)

-- ── What `first_of` means, said of the slots ("`MemoryMap::register` and its listings"; the Rust's `kernel` finds the first) ──
-- e is the first held entry of a kind: it stands in a held slot, it is of that kind, and no entry before it is
pub record FirstHeld (kind : ℕ) (m : MemoryMap) (e : MemoryEntry) : Type 0 where
  pub slot : ℕ
  pub below : slot < m.size
  pub there : at (slots_of m) slot ≡ e
  pub is : e.kind ≡ kind
  pub none : (j : ℕ) → j < slot → (at (slots_of m) j).kind ≡ kind → ⊥

-- no held entry is of that kind
abbrev pub NoneHeld : ℕ → MemoryMap → Type 0
NoneHeld kind m = (j : ℕ) → j < m.size → (at (slots_of m) j).kind ≡ kind → ⊥
