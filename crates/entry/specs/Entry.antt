-- Two entries: what they share, and what they make when nothing lies between them.
use Rattle.std.specs.Prelude.{Bool, cond, ◌&&◌, ℕ, ◌≤◌, ◌<◌, min, max, leb, ltb, Option, Some, None}
use Rattle.entry.specs.declared.MemoryEntry.{MemoryEntry}

abbrev pub entry : ℕ → ℕ → ℕ → MemoryEntry
entry start end kind = record { start = start; end = end; kind = kind }

-- the address x lies in the entry: at its start or above, and below its end
pub record Has (x : ℕ) (e : MemoryEntry) : Type 0 where
  pub from : e.start ≤ x
  pub to : x < e.end

-- the addresses that lie in both, of the first's kind
unfoldable pub overlap : MemoryEntry → MemoryEntry → MemoryEntry
overlap a b = entry (max a.start b.start) (min a.end b.end) a.kind

unfoldable pub meet : MemoryEntry → MemoryEntry → Option MemoryEntry
meet a b = cond (ltb (overlap a b).start (overlap a b).end) (Some (overlap a b)) None

-- "overlaps or touches": neither ends before the other starts
pub record Touch (a b : MemoryEntry) : Type 0 where
  pub low : a.start ≤ b.end
  pub high : b.start ≤ a.end

-- the same as a test
abbrev pub touching : MemoryEntry → MemoryEntry → Bool
touching a b = leb a.start b.end && leb b.start a.end

-- the least entry over both, of the first's kind
unfoldable pub union : MemoryEntry → MemoryEntry → MemoryEntry
union a b = entry (min a.start b.start) (max a.end b.end) a.kind

unfoldable pub join : MemoryEntry → MemoryEntry → Option MemoryEntry
join a b = cond (touching a b) (Some (union a b)) None
