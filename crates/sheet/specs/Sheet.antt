-- The page sheet: document 01, "A page sheet of two counts and a share: Free pages inside the limits, usable pages, and usable over Free."
use Rattle.std.specs.Prelude.{ℕ, zero, suc, ◌+◌, ◌-◌, ◌/◌, ◌^◌, min, List, [], ◌∷◌, get_or, length, Option, Some, None}
use Rattle.entry.specs.declared.MemoryEntry.{MemoryEntry}
use Rattle.entry.specs.Entry.{meet}
use Rattle.memory.specs.declared.MemoryMap.{MemoryMap}
use Rattle.listing.specs.Listing.{held}
use Rattle.areas.specs.declared.Interval.{Interval}
use Rattle.areas.specs.Areas.{limit_of, free_of, areas_of}
use Rattle.sheet.specs.declared.PageSheet.{PageSheet}
use Rattle.sheet.specs.Share.{share_of}

-- how many pages lie from one address up to another
abbrev pub pages_in : ℕ → ℕ → ℕ → ℕ
pages_in p from to = (to - from) / p

abbrev pub pages_of : ℕ → Option MemoryEntry → ℕ
pages_of p (Some e) = pages_in p e.start e.end
pages_of p None = 0

-- "Free pages inside the limits": of each Free entry, cut to the limits
unfoldable pub free_in : ℕ → MemoryEntry → List MemoryEntry → ℕ
free_in p limits [] = 0
free_in p limits (f ∷ fs) = pages_of p (meet f limits) + free_in p limits fs

unfoldable pub free_pages : ℕ → Option ℕ → Option ℕ → MemoryMap → ℕ
free_pages p low high m = free_in p (limit_of p low high) (free_of (held m))

-- "usable pages": of the finished areas
unfoldable pub usable_in : ℕ → List Interval → ℕ
usable_in p [] = 0
usable_in p (r ∷ l) = pages_in p r.lo r.hi + usable_in p l

abbrev pub sheet_of : ℕ → ℕ → PageSheet
sheet_of free usable = record { free = free; usable = usable; share = share_of free usable }

-- the sheet of a map under some limits
unfoldable pub map_sheet : ℕ → Option ℕ → Option ℕ → MemoryMap → PageSheet
map_sheet p low high m = sheet_of (free_pages p low high m) (usable_in p (areas_of p low high m))

-- ── The same from a finished table ──

-- the pages of n areas, base and size, from slot i on, capped
unfoldable pub slot_pages : ℕ → List ℕ → ℕ → ℕ → ℕ
slot_pages p l zero i = 0
slot_pages p l (suc n) i = min (get_or l (i + i + 1) 0 / p + slot_pages p l n (i + 1)) (2 ^ 64 - 1)

-- n areas, or as many as there are slots
abbrev pub slots_to : List ℕ → ℕ → ℕ
slots_to l n = min n (length l / 2)
