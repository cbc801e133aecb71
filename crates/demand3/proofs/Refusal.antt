-- Refusal 3, exactly when; that a refused build writes nothing; and what any other writes. Assumes nothing.
use Rattle.areas.specs.declared.AreasRefusal.TheVariants.{TooManyAreas}
use Rattle.areas.specs.declared.AreasRefusal.{AreasRefusal}
use Rattle.std.specs.Prelude.{Option, ℕ, Result, Ok, Err}
use mathlib.Core.Path.{◌≡◌, refl, ◌∙◌}
use mathlib.Core.Bool.{Bool, true, false, cond}
use mathlib.Core.List.{List}
use mathlib.Core.Logic.{◌↔◌, ◌⊎◌, inl, inr}
use Prim.Native.Nat.{ℕ, ◌≤◌, ◌<◌}
use native.Mathlib.Omega.{arith}
use lib.Dec.{leb}
use lib.ListN.{length}
use borrow.Author.Tests.{le-leb, lt-leb, leb-true, leb-false}
use Rattle.numbers.specs.Number.{Names}
use Rattle.numbers.proofs.Given.{given}
use Rattle.memory.specs.declared.MemoryMap.{MemoryMap}
use Rattle.areas.specs.declared.Interval.{Interval}
use Rattle.areas.specs.Areas.{areas_of}
use Rattle.areas.specs.Table.{built_number, Form, answer_for, BuildsIn, numbers, answer_of, table_of, Builds}
use Rattle.lent_areas.specs.declared.MemoryArea.{MemoryArea}
use Rattle.lent_areas.specs.Row.{records, BuildsRow}
use Rattle.demand3.specs.Refusal.{Answers}

-- 3 is the number of one case, and 0 of the other
pub built_names : Names built_number
built_names = record { back = λ _. Err TooManyAreas; named = go }
  where
    go : (r : Result ℕ AreasRefusal) → (built_number r ≡ 0) ⊎ (Err TooManyAreas ≡ r)
    go (Ok n) = inl refl
    go (Err TooManyAreas) = inr refl

-- ── So many slots ──
module _ (slots : ℕ) (areas : List Interval) where
  many : (answer_for slots areas ≡ Err TooManyAreas) ↔ (slots < length areas)
  many = (go (leb (length areas) slots) refl, λ h. rw (lt-leb _ _ h))
    where
      go : (t : Bool) → leb (length areas) slots ≡ t → cond t (Ok (length areas)) (Err TooManyAreas) ≡ Err TooManyAreas → slots < length areas
      go true e q = let z : ◌≡◌ {A = ℕ} 0 1 = cc in omega arith
      go false e q = leb-false _ _ e

  number_3 : (built_number (answer_for slots areas) ≡ 3) ↔ (slots < length areas)
  number_3 = given built_names (Err TooManyAreas) (λ e. omega arith) many

  number_0 : (built_number (answer_for slots areas) ≡ 0) ↔ (length areas ≤ slots)
  number_0 = (go (leb (length areas) slots) refl, λ h. rw (le-leb _ _ h))
    where
      go : (t : Bool) → leb (length areas) slots ≡ t → built_number (cond t (Ok (length areas)) (Err TooManyAreas)) ≡ 0 → length areas ≤ slots
      go true e q = leb-true _ _ e
      go false e q = omega arith

-- THEOREM, refusal 3 and what is written: in any form of slots
pub answers : {A : Type 0} {f : Form A} {areas : List Interval} {l l' : List A} {r : Result ℕ AreasRefusal} → BuildsIn f areas l l' r → Answers f areas l l' r
answers {A} {f} {areas} {l} {l'} {r} b =
    let three : (built_number r ≡ 3) ↔ (f.slots l < length areas) = rw b.answer (number_3 (f.slots l) areas) in
    let zero : (built_number r ≡ 0) ↔ (length areas ≤ f.slots l) = rw b.answer (number_0 (f.slots l) areas) in
    record {
      refused = three;
      done = zero;
      nothing = λ e. b.after ∙ rw (lt-leb _ _ (three.0 e));
      count = λ e. b.answer ∙ rw (le-leb _ _ (zero.0 e));
      writes = λ e. b.after ∙ rw (le-leb _ _ (zero.0 e));
    }

-- ── The two forms that there are, from what the contracts of the two `build` state ──
module _ {p : ℕ} {m : MemoryMap} {low high : Option ℕ} {r : Result ℕ AreasRefusal} where
  pub in_numbers : {l l' : List ℕ} → Builds p m low high l l' r → BuildsIn numbers (areas_of p low high m) l l' r
  unfolding answer_of table_of
  in_numbers b = record { answer = b.answer; after = b.table }

  pub in_records : {row row' : List MemoryArea} → BuildsRow p m low high row row' r → BuildsIn records (areas_of p low high m) row row' r
  in_records b = record { answer = b.answer; after = b.areas }

  -- into lent numbers
  pub build_answers : {l l' : List ℕ} → Builds p m low high l l' r → Answers numbers (areas_of p low high m) l l' r
  build_answers b = answers (in_numbers b)

  -- into a lent row of records
  pub row_answers : {row row' : List MemoryArea} → BuildsRow p m low high row row' r → Answers records (areas_of p low high m) row row' r
  row_answers b = answers (in_records b)
