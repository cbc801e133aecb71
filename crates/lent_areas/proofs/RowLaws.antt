-- The finished areas in a row of records: the table of numbers that the areas are built in has room for all of them, and storing the first
-- pairs of such a table gives the row that is asked for. Assumes nothing.
use Rattle.areas.specs.declared.AreasRefusal.TheVariants.{TooManyAreas}
use Rattle.areas.specs.declared.AreasRefusal.{AreasRefusal}
use Rattle.std.specs.Prelude.{Option, ℕ, Result, Ok, Err}
use mathlib.Core.Path.{◌≡◌, refl, sym, ap, ap₂, ◌∙◌}
use mathlib.Core.List.{List, [], ◌∷◌, ◌++◌, map}
use mathlib.Core.Bool.{Bool, true, false, cond}
use Prim.Native.Nat.{ℕ, zero, suc, ◌+◌, ◌/◌, ◌≤◌, ◌<◌}
use native.Mathlib.Omega.{arith}
use lib.Dec.{leb}
use lib.ListN.{length, set, take, drop, get_or, length-set, length-map, get_or-map}
use lib.Seq.{length-take-le, take-suc, take_all, drop-cons, append_snoc, set_at, take-append-le, get_or-take}
use borrow.Author.Tests.{le-leb, lt-leb}
use Rattle.memory.specs.declared.MemoryMap.{MemoryMap}
use Rattle.memory.specs.Made.{Made}
use Rattle.areas.specs.declared.Interval.{Interval}
use Rattle.areas.specs.Interval.{interval}
use Rattle.areas.specs.Areas.{areas_of}
use Rattle.areas.specs.Table.{flat, answer_of, table_of}
use Rattle.areas.proofs.MadeLaws.{areas_of_few}
use Rattle.areas.proofs.Writing.{flat_length}
use Rattle.lent_areas.specs.declared.MemoryArea.{MemoryArea}
use Rattle.lent_areas.specs.Row.{area_of, area_at, row_answer, row_of}

-- ── The row with areas stored ──

-- the row with the first n pairs of a table in its slots
abbrev pub laid : List MemoryArea → List ℕ → ℕ → List MemoryArea
laid row slots zero = row
laid row slots (suc n) = set (laid row slots n) n (area_at slots n)

pub length_laid : (row : List MemoryArea) (slots : List ℕ) (n : ℕ) → length (laid row slots n) ≡ length row
length_laid row slots zero = refl
length_laid row slots (suc n) = length-set (laid row slots n) n (area_at slots n) ∙ length_laid row slots n

-- what stands for an area past the last
abbrev pub none : Interval
none = interval 0 0

-- pair i of the areas' numbers is area i
pub flat_at : (areas : List Interval) (i : ℕ) → i < length areas → area_at (flat areas) i ≡ area_of (get_or areas i none)
unfolding flat
flat_at [] i h = absurd (omega arith)
flat_at (r ∷ areas) zero h = refl
flat_at (r ∷ areas) (suc i) h =
    let twice : suc i + suc i ≡ suc (suc (i + i)) = omega arith in
    let after : suc i + suc i + 1 ≡ suc (suc (i + i + 1)) = omega arith in
    ap₂ (λ (j k : ℕ). record { base = get_or (flat (r ∷ areas)) j 0; size = get_or (flat (r ∷ areas)) k 0 }) twice after ∙ flat_at areas i (omega arith)

-- only the front is read
front_at : (slots : List ℕ) (n i : ℕ) → i < n → area_at (take (n + n) slots) i ≡ area_at slots i
front_at slots n i h = rw (get_or-take (n + n) slots (i + i) 0 (omega arith), get_or-take (n + n) slots (i + i + 1) 0 (omega arith))

module _ (areas : List Interval) (row : List MemoryArea) (slots : List ℕ) (fits : length areas ≤ length row)
    (front : take (length areas + length areas) slots ≡ take (length areas + length areas) (flat areas)) where
  pair_is : (i : ℕ) → i < length areas → area_at slots i ≡ area_of (get_or areas i none)
  pair_is i h =
      sym (front_at slots (length areas) i h) ∙ ap (λ (l : List ℕ). area_at l i) front ∙ front_at (flat areas) (length areas) i h ∙ flat_at areas i h

  -- once the first k are stored
  laid_front : (k : ℕ) → k ≤ length areas → laid row slots k ≡ take k (map area_of areas) ++ drop k row
  laid_front zero h = refl
  laid_front (suc k) h =
      let some : MemoryArea = record { base = 0; size = 0 } in
      let in_areas : k < length (map area_of areas) = omega (arith, length-map areas area_of) in
      let in_row : k < length row = omega arith in
      let here : length (take k (map area_of areas)) ≡ k = length-take-le k (map area_of areas) (omega (arith, length-map areas area_of)) in
      ap (λ (l : List MemoryArea). set l k (area_at slots k)) (laid_front k (omega arith) ∙ ap (λ (l : List MemoryArea). take k (map area_of areas) ++ l) (drop-cons row k some in_row))
      ∙ set_at (take k (map area_of areas)) (get_or row k some) (drop (suc k) row) (area_at slots k) k here
      ∙ ap (λ (a : MemoryArea). take k (map area_of areas) ++ a ∷ drop (suc k) row) (pair_is k (omega arith) ∙ sym (get_or-map area_of areas k none))
      ∙ sym (append_snoc (take k (map area_of areas)) (get_or (map area_of areas) k (area_of none)) (drop (suc k) row))
      ∙ ap (λ (l : List MemoryArea). l ++ drop (suc k) row) (sym (take-suc (map area_of areas) k (area_of none) in_areas))

  pub laid_is_row : laid row slots (length areas) ≡ map area_of areas ++ drop (length areas) row
  laid_is_row =
      laid_front (length areas) (omega arith)
      ∙ ap (λ (l : List MemoryArea). l ++ drop (length areas) row) (take_all (length areas) (map area_of areas) (omega (arith, length-map areas area_of)))

-- ── The table that the areas are built in ──

pub few_areas : {p : ℕ} {m : MemoryMap} → Made p m → (low high : Option ℕ) → length (areas_of p low high m) ≤ 512
few_areas made low high = omega (arith, areas_of_few made low high, made.room)

module _ (areas : List Interval) (few : length areas ≤ 512) (l : List ℕ) (size : length l ≡ 1024) where
  all_fit : leb (length areas) (length l / 2) ≡ true
  all_fit = le-leb (length areas) (length l / 2) (omega (arith, few))

  answered : answer_of areas l ≡ Ok (length areas)
  unfolding answer_of
  answered = ap (λ (b : Bool). cond b (Ok (length areas)) (Err TooManyAreas)) all_fit

  written : table_of areas l ≡ flat areas ++ drop (length areas + length areas) l
  unfolding table_of
  written = ap (λ (b : Bool). cond b (flat areas ++ drop (length areas + length areas) l) l) all_fit

  -- it has a slot for each of them
  pub never_refused : {r : AreasRefusal} → Err r ≡ answer_of areas l → ⊥
  never_refused e = let clash : ◌≡◌ {A = ℕ} 1 0 = ap refused (e ∙ answered) in omega arith
    where
      refused : Result ℕ AreasRefusal → ℕ
      refused (Ok _) = 0
      refused (Err _) = 1

  module _ {n : ℕ} (e : Ok n ≡ answer_of areas l) where
    count_is : n ≡ length areas
    count_is = ap count_of (e ∙ answered)
      where
        count_of : Result ℕ AreasRefusal → ℕ
        count_of (Ok k) = k
        count_of (Err _) = 0

    pub most : n ≤ 512
    most = omega (arith, few, count_is)

    -- the row has fewer slots than there are areas
    pub refuses : (row : List MemoryArea) → length row < n → (Err TooManyAreas ≡ row_answer areas row) × (row ≡ row_of areas row)
    refuses row h =
        let over : leb (length areas) (length row) ≡ false = lt-leb (length areas) (length row) (omega (arith, count_is)) in
        (rw over, rw over)

    -- the row has a slot for each
    pub finishes : (row : List MemoryArea) {l' : List ℕ} → n ≤ length row → l' ≡ table_of areas l
        → (Ok n ≡ row_answer areas row) × (laid row l' n ≡ row_of areas row)
    finishes row {l'} h t =
        let within : leb (length areas) (length row) ≡ true = le-leb (length areas) (length row) (omega (arith, count_is)) in (
          rw within (ap Ok count_is),
          rw within (ap (laid row l') count_is
              ∙ laid_is_row areas row l' (omega (arith, count_is))
              (ap (take (length areas + length areas)) (t ∙ written)
              ∙ take-append-le (length areas + length areas) (flat areas) (drop (length areas + length areas) l) (omega (arith, flat_length areas)))),
        )
