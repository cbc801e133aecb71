-- Where a table comes from: request L3 of document 02, "by a build or by earlier late claims".
use Rattle.std.specs.Prelude.{◌≡◌, List, [], ◌∷◌, ◌++◌, ℕ, ◌≤◌, Option, Ok}
use Rattle.entry.specs.declared.Claim.{Claim}
use Rattle.memory.specs.declared.MemoryMap.{MemoryMap}
use Rattle.memory.specs.Made.{Made}
use Rattle.areas.specs.Areas.{areas_of}
use Rattle.areas.specs.Table.{slots_in, Builds}
use Rattle.demand3.specs.Rule.{Accepted, map_after}
use Rattle.lent_table.specs.Table.{table_in}
use Rattle.late_claim.specs.Late.{late_of}
use Rattle.late_theorems.specs.Refusals.{late_gives}

-- "If that table came from this map and these limits, by a build or by earlier late claims": n slots of the numbers l
pub data Came (p : ℕ) (low high : Option ℕ) : MemoryMap → ℕ → List ℕ → Type 0 where
  built : {m : MemoryMap} {n : ℕ} {l l' : List ℕ} → Made p m → Builds p m low high l l' (Ok n) → Came p low high m n l'
  later : {m : MemoryMap} {n : ℕ} {l : List ℕ} (c : Claim) → Came p low high m n l
      → Came p low high (late_of p m c n l).map (late_of p m c n l).count (late_of p m c n l).table

-- the used slots are the areas of the map under the limits
pub record Is (p : ℕ) (low high : Option ℕ) (m : MemoryMap) (n : ℕ) (l : List ℕ) : Type 0 where
  pub made : Made p m
  pub room : n ≤ slots_in l
  pub areas : table_in n l ≡ areas_of p low high m

-- "Of a table that came from its map and limits so, demand 3 reads late claims as registrations": all of them in one list, none refused
pub data Dealt (p : ℕ) (low high : Option ℕ) : List Claim → MemoryMap → ℕ → List ℕ → Type 0 where
  sources : {cs : List Claim} {n : ℕ} {l l' : List ℕ} → Accepted p cs → Builds p (map_after p cs) low high l l' (Ok n)
      → Dealt p low high cs (map_after p cs) n l'
  late : {cs : List Claim} {m : MemoryMap} {n : ℕ} {l : List ℕ} (c : Claim) → Dealt p low high cs m n l → late_gives p m c n l ≡ 0
      → Dealt p low high (cs ++ (c ∷ [])) (late_of p m c n l).map (late_of p m c n l).count (late_of p m c n l).table
