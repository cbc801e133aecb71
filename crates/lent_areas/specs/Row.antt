-- The finished areas in a lent row of area records: document 01, "Areas" and "a thin build over &mut [MemoryArea] that copies the finished
-- areas into slots and leaves the rest".
use Rattle.areas.specs.declared.AreasRefusal.{AreasRefusal}
use Rattle.std.specs.Prelude.{◌≡◌, ℕ, ◌+◌, ◌-◌, List, map, length, get_or, Option, Result}
use Rattle.memory.specs.declared.MemoryMap.{MemoryMap}
use Rattle.areas.specs.declared.Interval.{Interval}
use Rattle.areas.specs.Areas.{areas_of}
use Rattle.areas.specs.Table.{Form, answer_for, lent_after}
use Rattle.lent_areas.specs.declared.MemoryArea.{MemoryArea}

-- "Areas are (base, size)"
abbrev pub area_of : Interval → MemoryArea
area_of r = record { base = r.lo; size = r.hi - r.lo }

-- a slot is one record, and all of a row are slots
abbrev pub records : Form MemoryArea
records = record { slots = λ row. length row; items = λ n. n; written = λ areas. map area_of areas }

abbrev pub row_answer : List Interval → List MemoryArea → Result ℕ AreasRefusal
row_answer areas row = answer_for (records.slots row) areas

abbrev pub row_of : List Interval → List MemoryArea → List MemoryArea
row_of areas row = lent_after records areas row

-- a build on a lent row, that is row' afterwards
pub record BuildsRow (p : ℕ) (m : MemoryMap) (low high : Option ℕ) (row row' : List MemoryArea) (r : Result ℕ AreasRefusal) : Type 0 where
  pub answer : r ≡ row_answer (areas_of p low high m) row
  pub areas : row' ≡ row_of (areas_of p low high m) row

-- ── A step of the code ──

-- area i of a table of numbers
abbrev pub area_at : List ℕ → ℕ → MemoryArea
area_at l i = record { base = get_or l (i + i) 0; size = get_or l (i + i + 1) 0 }
