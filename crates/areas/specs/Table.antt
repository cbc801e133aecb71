-- The finished table in lent slots, and what a build answers: document 01, "Areas" and "Numbers a caller gets back".
use Rattle.numbers.specs.Number.{number_by}
use Rattle.areas.specs.declared.AreasRefusal.TheVariants.{TooManyAreas}
use Rattle.areas.specs.declared.AreasRefusal.{AreasRefusal}
use Rattle.std.specs.Prelude.{◌≡◌, List, [], ◌∷◌, ◌++◌, Bool, cond, ℕ, ◌+◌, ◌-◌, ◌/◌, leb, length, drop, Option, Result, Ok, Err}
use Rattle.memory.specs.declared.MemoryMap.{MemoryMap}
use Rattle.areas.specs.declared.Interval.{Interval}
use Rattle.areas.specs.Areas.{areas_of}

abbrev pub refusal_number : AreasRefusal → ℕ
refusal_number TooManyAreas = 3

abbrev pub built_number : Result ℕ AreasRefusal → ℕ
built_number = number_by refusal_number

-- ── For any form of slots ──

-- A form of slots, in a lent list of items: how many whole slots the list has, how many of its items so many slots are, and the areas as
-- items. There are two: numbers (below), and records (lent_areas/specs/Row).
pub record Form (A : Type 0) : Type 0 where
  pub slots : List A → ℕ
  pub items : ℕ → ℕ
  pub written : List Interval → List A

-- "Refused exactly when there are more areas than slots."
abbrev pub answer_for : ℕ → List Interval → Result ℕ AreasRefusal
answer_for slots areas = cond (leb (length areas) slots) (Ok (length areas)) (Err TooManyAreas)

-- "all past the count is untouched"; a refused build "writes nothing"
abbrev pub lent_after : {A : Type 0} → Form A → List Interval → List A → List A
lent_after f areas l = cond (leb (length areas) (f.slots l)) (f.written areas ++ drop (f.items (length areas)) l) l

-- a build of these areas into lent items l, that are l' afterwards
pub record BuildsIn {A : Type 0} (f : Form A) (areas : List Interval) (l l' : List A) (r : Result ℕ AreasRefusal) : Type 0 where
  pub answer : r ≡ answer_for (f.slots l) areas
  pub after : l' ≡ lent_after f areas l

-- ── Numbers: "number slots first" ──

-- "Areas are (base, size)": their numbers, one after the other
unfoldable pub flat : List Interval → List ℕ
flat [] = []
flat (p ∷ ps) = p.lo ∷ (p.hi - p.lo) ∷ flat ps

-- "A slot is a whole pair": an odd last number is none
abbrev pub slots_in : List ℕ → ℕ
slots_in l = length l / 2

abbrev pub numbers : Form ℕ
numbers = record { slots = slots_in; items = λ n. n + n; written = flat }

abbrev pub fits : List Interval → List ℕ → Bool
fits areas l = leb (length areas) (slots_in l)

unfoldable pub answer_of : List Interval → List ℕ → Result ℕ AreasRefusal
answer_of areas l = answer_for (numbers.slots l) areas

unfoldable pub table_of : List Interval → List ℕ → List ℕ
table_of areas l = lent_after numbers areas l

-- a build on lent numbers l, that are l' afterwards
pub record Builds (p : ℕ) (m : MemoryMap) (low high : Option ℕ) (l l' : List ℕ) (r : Result ℕ AreasRefusal) : Type 0 where
  pub answer : r ≡ answer_of (areas_of p low high m) l
  pub table : l' ≡ table_of (areas_of p low high m) l
