-- The map in the caller's memory, and a late claim's answer in plain fields: request L3 of document 02.
use Rattle.startup.specs.declared.Refusal.{Refusal}
use Rattle.startup.specs.declared.Summary.{Summary}
use Rattle.std.specs.Prelude.{List, ℕ, Result, Ok, Err}
use Rattle.memory.specs.declared.MemoryMap.{MemoryMap}
use Rattle.late_claim.specs.Late.{late_number, After}
use Rattle.map_numbers.specs.Numbers.{numbers_of}
use Rattle.startup.specs.Report.{report_of}
use Rattle.startup.specs.Start.{map_left}
use Rattle.service.specs.declared.WharfthrumLate.{WharfthrumLate}

-- the map m where the build is done; where it is refused the numbers k stay as they were
abbrev pub numbers_left : Result Summary Refusal → MemoryMap → List ℕ → List ℕ
numbers_left (Ok x) m k = numbers_of m
numbers_left (Err r) m k = k

-- THE MAP'S MEMORY after a build of the order file s with lent slots l, where it held the numbers k
unfoldable pub memory_after : ℕ → List ℕ → List ℕ → List ℕ → List ℕ
memory_after p s l k = numbers_left (report_of p s l) (map_left p s l) k

-- the number, and how many slots are used
abbrev pub plain_late : After → WharfthrumLate
plain_late a = record { number = late_number a.answer; count = a.count }
