-- The number of an answer: document 01, "Where an answer is an enum, a definition gives this paper's number and values for each case of the
-- enum. The promises use that definition." A theorem says `(number answer ≡ 4) ↔ ..`, and is proved from the case that has the number.
use Rattle.std.specs.Prelude.{◌≡◌, ◌⊎◌, ℕ, Result, Ok, Err}

-- "0 is done"; and of every other number one case can be named: no two refusals have the same
pub record Names {A : Type 0} (number : A → ℕ) : Type 0 where
  pub back : ℕ → A
  pub named : (a : A) → (number a ≡ 0) ⊎ (back (number a) ≡ a)

-- the number of a result, by the numbers of its refusals
abbrev pub number_by : {A E : Type 0} → (E → ℕ) → Result A E → ℕ
number_by f (Ok _) = 0
number_by f (Err e) = f e
