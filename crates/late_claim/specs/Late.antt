-- What a late claim does, whole: request L3 of document 02.
use Rattle.numbers.specs.Number.{number_by}
use Rattle.late_claim.specs.declared.LateRefusal.TheVariants.{UnknownKind, NotLate, BadTable, MapFull, TooManyAreas}
use Rattle.late_claim.specs.declared.LateRefusal.{LateRefusal}
use Rattle.entry.specs.declared.BootloaderMemoryKind.{BootloaderMemoryKind}
use Rattle.std.specs.Prelude.{◌≡◌, List, Bool, cond, ◌||◌, ℕ, eqb, length, Option, Some, None, Result, Ok, Err}
use Rattle.entry.specs.declared.BootloaderMemoryKind.TheVariants.{Null, Free}
use Rattle.entry.specs.Kind.{number_of, kind_of}
use Rattle.entry.specs.declared.Claim.{Claim}
use Rattle.entry.specs.Claim.{rounded}
use Rattle.memory.specs.declared.MemoryMap.{MemoryMap}
use Rattle.memory.specs.Map.{nothing, registered}
use Rattle.memory.specs.Made.{Made}
use Rattle.memory.specs.Run.{is_done}
use Rattle.areas.specs.declared.Interval.{Interval}
use Rattle.areas.specs.Areas.{span}
use Rattle.areas.specs.Table.{fits}
use Rattle.lent_table.specs.Table.{table_in, good_table, table_with}
use Rattle.lent_table.specs.Less.{less}
use Rattle.late_claim.specs.declared.Late.{Late}

-- "Refusals, in order: 1, 13 .., 14 .., 2, 3"; "0 is done." (document 01)
abbrev pub late_refusal_number : LateRefusal → ℕ
late_refusal_number UnknownKind = 1
late_refusal_number NotLate = 13
late_refusal_number BadTable = 14
late_refusal_number MapFull = 2
late_refusal_number TooManyAreas = 3

abbrev pub late_number : Result Unit LateRefusal → ℕ
late_number = number_by late_refusal_number

-- ── What is left, and what is refused ──
-- "its areas less the rounded claim"; a claim that registers nothing takes nothing away
unfoldable pub less_claim : ℕ → Claim → List Interval → List Interval
less_claim p c areas = cond (nothing p c) areas (less (span (rounded p c)) areas)

-- of the n areas in the numbers l
abbrev pub areas_left : ℕ → Claim → ℕ → List ℕ → List Interval
areas_left p c n l = less_claim p c (table_in n l)

-- "13 kind Null or Free"
unfoldable pub never : ℕ → Bool
never kind = eqb kind (number_of Null) || eqb kind (number_of Free)

-- 1 comes first
abbrev pub kind_first : Option BootloaderMemoryKind → Result Unit LateRefusal → Result Unit LateRefusal
kind_first None a = Err UnknownKind
kind_first (Some k) a = a

-- 1, 13, 14
unfoldable pub judged : ℕ → ℕ → ℕ → List ℕ → Result Unit LateRefusal
judged p kind n l = kind_first (kind_of kind) (cond (never kind) (Err NotLate) (cond (good_table p n l) (Ok tt) (Err BadTable)))

-- then 2, 3
unfoldable pub entering : ℕ → MemoryMap → Claim → ℕ → List ℕ → Result Unit LateRefusal
entering p m c n l = cond (is_done (registered p m c).answer) (cond (fits (areas_left p c n l) l) (Ok tt) (Err TooManyAreas)) (Err MapFull)

-- ── What is there afterwards ──
-- the map, how many slots are used, the lent numbers, and the answer
pub record After : Type 0 where
  pub map : MemoryMap
  pub count : ℕ
  pub table : List ℕ
  pub answer : Result Unit LateRefusal

abbrev pub on_done : {A : Type 0} → Result Unit LateRefusal → A → A → A
on_done (Ok _) x y = x
on_done (Err _) x y = y

-- refusals "all leave map and table unchanged"
abbrev pub unchanged : MemoryMap → ℕ → List ℕ → Result Unit LateRefusal → After
unchanged m n l a = record { map = m; count = n; table = l; answer = a }

-- "enter the map and edit the table where it stands"
abbrev pub entered : ℕ → MemoryMap → Claim → ℕ → List ℕ → After
entered p m c n l =
    record {
      map = (registered p m c).map;
      count = length (areas_left p c n l);
      table = table_with (areas_left p c n l) n l;
      answer = Ok tt;
    }

-- after 1, 13 and 14 are checked
unfoldable pub enter_of : ℕ → MemoryMap → Claim → ℕ → List ℕ → After
enter_of p m c n l = on_done (entering p m c n l) (entered p m c n l) (unchanged m n l (entering p m c n l))

-- A LATE CLAIM c on the map m and on the numbers l, of which n slots are used
unfoldable pub late_of : ℕ → MemoryMap → Claim → ℕ → List ℕ → After
late_of p m c n l = on_done (judged p c.kind n l) (enter_of p m c n l) (unchanged m n l (judged p c.kind n l))

-- ── What the calls hand back, as that ──
abbrev pub after : Late → List ℕ → After
after r l = record { map = r.map; count = r.count; table = l; answer = r.answer }

-- in place: a refusal leaves as many slots in use as there were
abbrev pub after_in : MemoryMap → ℕ → List ℕ → Result ℕ LateRefusal → After
after_in m n l (Ok k) = record { map = m; count = k; table = l; answer = Ok tt }
after_in m n l (Err r) = record { map = m; count = n; table = l; answer = Err r }

-- what entering asks: a map made by our calls, and that 1, 13 and 14 are checked
pub record Enters (p : ℕ) (m : MemoryMap) (kind n : ℕ) (l : List ℕ) : Type 0 where
  pub made : Made p m
  pub checked : judged p kind n l ≡ Ok tt
