-- The memory map, and what a registration does to it: document 01, "Rounding and the map".
use Rattle.numbers.specs.Number.{number_by}
use Rattle.memory.specs.declared.MapRefusal.TheVariants.{UnknownKind, MapFull}
use Rattle.memory.specs.declared.MapRefusal.{MapRefusal}
use Rattle.entry.specs.declared.BootloaderMemoryKind.{BootloaderMemoryKind}
use Rattle.std.specs.Prelude.{◌≡◌, Bool, cond, ◌||◌, List, ℕ, zero, suc, ◌+◌, ◌<◌, leb, eqb, get_or, set, replicate, Option, Some, None, Result, Ok, Err}
use Rattle.entry.specs.declared.MemoryEntry.{MemoryEntry}
use Rattle.entry.specs.declared.BootloaderMemoryKind.TheVariants.{Null}
use Rattle.entry.specs.Kind.{number_of, IsKind, kind_of}
use Rattle.entry.specs.Entry.{entry, Touch, join}
use Rattle.entry.specs.declared.Claim.{Claim}
use Rattle.entry.specs.Claim.{rounded}
use Rattle.memory.specs.declared.MemoryMap.{MemoryMap}
use Rattle.memory.specs.declared.Registered.{Registered}

-- "Numbers a caller gets back"
abbrev pub refusal_number : MapRefusal → ℕ
refusal_number UnknownKind = 1
refusal_number MapFull = 2

abbrev pub answer_number : Result Unit MapRefusal → ℕ
answer_number = number_by refusal_number

-- the slots of a map: an entry in each
abbrev pub Slots : Type 0
Slots = List MemoryEntry

-- what stands in a slot that was never held
abbrev pub vacant : MemoryEntry
vacant = entry 0 0 0

unfoldable pub at : Slots → ℕ → MemoryEntry
at l j = get_or l j vacant

unfoldable pub put : Slots → ℕ → MemoryEntry → Slots
put l j e = set l j e

abbrev pub slots_of : MemoryMap → Slots
slots_of m = m.entries

abbrev pub map_of : Slots → ℕ → MemoryMap
map_of l n = record { entries = l; size = n }

-- the map with other slots and another count, and all else as it was
abbrev pub refilled : MemoryMap → Slots → ℕ → MemoryMap
refilled m l n = map_of l n

-- "The map has 512 entries. It starts empty"
unfoldable pub blank : MemoryMap
blank = map_of (replicate 512 vacant) 0

abbrev pub answered : MemoryMap → Result Unit MapRefusal → Registered
answered m a = record { map = m; answer = a }

-- "each held entry of its kind that overlaps or touches it"
pub record Absorbs (new held : MemoryEntry) : Type 0 where
  pub kinds : new.kind ≡ held.kind
  pub near : Touch new held

-- the union of the two where that is so
unfoldable pub absorb : MemoryEntry → MemoryEntry → Option MemoryEntry
absorb new held = cond (eqb new.kind held.kind) (join new held) None

-- a pass over the held entries under way: the new entry so far, the slots, and the next slot to look at.
-- How many slots are left to look at stands beside it
pub record Pass : Type 0 where
  pub new : MemoryEntry
  pub slots : Slots
  pub index : ℕ

-- "the last entry moves into the emptied slot, and that slot is looked at again": the last is k slots further on
abbrev pub step : ℕ → Pass → Option MemoryEntry → Pass
step k s (Some both) = record { new = both; slots = put s.slots s.index (at s.slots (s.index + k)); index = s.index }
step k s None = record { new = s.new; slots = s.slots; index = s.index + 1 }

-- one look at a slot: k slots are left to look at after it, whichever way it goes
unfoldable pub look : ℕ → Pass → Pass
look k s = step k s (absorb s.new (at s.slots s.index))

-- "A new entry absorbs each held entry of its kind that overlaps or touches it"
unfoldable pub pass : ℕ → Pass → Pass
pass zero s = s
pass (suc k) s = pass k (look k s)

unfoldable pub begin : MemoryMap → MemoryEntry → Pass
begin m e = record { new = e; slots = slots_of m; index = 0 }

-- "Then the new entry goes last."
unfoldable pub ended : MemoryMap → Pass → MemoryMap
ended m s = refilled m (put s.slots s.index s.new) (s.index + 1)

-- where no slot is left for it: the map as it was
unfoldable pub placed : MemoryMap → Pass → Registered
placed m s = cond (leb 512 s.index) (answered m (Err MapFull)) (answered (ended m s) (Ok tt))

unfoldable pub inserted : MemoryMap → MemoryEntry → Registered
inserted m e = placed m (pass m.size (begin m e))

-- a claim that registers something: "nonempty", before rounding and after, and of one of the seven kinds but Null
pub record Something (p : ℕ) (c : Claim) : Type 0 where
  pub known : IsKind c.kind
  pub proper : c.kind ≡ number_of Null → ⊥
  pub sized : c.size ≡ 0 → ⊥
  pub some : (rounded p c).start < (rounded p c).end

-- "Null or size 0 registers nothing." "Empty after rounding: done, and nothing happens."
unfoldable pub nothing : ℕ → Claim → Bool
nothing p c = eqb c.kind (number_of Null) || (eqb c.size 0 || leb (rounded p c).end (rounded p c).start)

-- the kind is judged first, "size 0 included"
abbrev pub judged : Option BootloaderMemoryKind → MemoryMap → Registered → Registered
judged None m r = answered m (Err UnknownKind)
judged (Some k) m r = r

unfoldable pub registered : ℕ → MemoryMap → Claim → Registered
registered p m c =
    judged (kind_of c.kind) m (cond (nothing p c) (answered m (Ok tt)) (inserted m (rounded p c)))
