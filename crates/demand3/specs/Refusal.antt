-- Refusal 3, on its number, and what is written: stated once for every form of slots.
use Rattle.areas.specs.declared.AreasRefusal.{AreasRefusal}
use Rattle.std.specs.Prelude.{◌≡◌, List, ◌++◌, ◌↔◌, ℕ, ◌≤◌, ◌<◌, length, drop, Result, Ok}
use Rattle.areas.specs.declared.Interval.{Interval}
use Rattle.areas.specs.Table.{built_number, Form}

-- what a build of these areas into lent items l answers, where they are l' afterwards
pub record Answers {A : Type 0} (f : Form A) (areas : List Interval) (l l' : List A) (r : Result ℕ AreasRefusal) : Type 0 where
  -- 3: "Refused exactly when there are more areas than slots."
  pub refused : (built_number r ≡ 3) ↔ (f.slots l < length areas)
  -- "0 is done."
  pub done : (built_number r ≡ 0) ↔ (length areas ≤ f.slots l)
  -- "A refused .. build .. writes nothing."
  pub nothing : built_number r ≡ 3 → l' ≡ l
  -- a build that is done counts the areas, and has written them; "all past the count is untouched"
  pub count : built_number r ≡ 0 → r ≡ Ok (length areas)
  pub writes : built_number r ≡ 0 → l' ≡ f.written areas ++ drop (f.items (length areas)) l
