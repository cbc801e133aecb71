-- What the timed build and the timed late claim answer.
use Rattle.areas.specs.declared.AreasRefusal.{AreasRefusal}
use Rattle.std.specs.Prelude.{◌≡◌, List, ℕ, None, Result}
use Rattle.std.specs.Result.{result_unwrap_or}
use Rattle.entry.specs.declared.Claim.{Claim}
use Rattle.memory.specs.declared.MemoryMap.{MemoryMap}
use Rattle.areas.specs.Areas.{areas_of}
use Rattle.areas.specs.Table.{answer_of, table_of}
use Rattle.late_claim.specs.Late.{late_of}

-- the number of areas, or 0 where they are too many
abbrev pub count_of : Result ℕ AreasRefusal → ℕ
count_of r = result_unwrap_or r 0

-- a build without limits
pub record BuildsFree (p : ℕ) (m : MemoryMap) (l l' : List ℕ) (n : ℕ) : Type 0 where
  pub count : n ≡ count_of (answer_of (areas_of p None None m) l)
  pub table : l' ≡ table_of (areas_of p None None m) l

-- a late claim: the count and the slots after it
pub record LateIs (p : ℕ) (m : MemoryMap) (c : Claim) (n : ℕ) (l l' : List ℕ) (n' : ℕ) : Type 0 where
  pub count : n' ≡ (late_of p m c n l).count
  pub table : l' ≡ (late_of p m c n l).table
