-- `trim_front` and `cut_rest`: what lies below hi is taken away from the areas from a slot on, and those that are left move down. Assumes nothing.
use mathlib.Core.Path.{◌≡◌, refl, ap, sym, ◌∙◌}
use mathlib.Core.List.{List, [], ◌∷◌, ◌++◌}
use mathlib.Core.Bool.{Bool, true, false, cond}
use Prim.Native.Nat.{ℕ, suc, ◌+◌, ◌-◌, ◌≤◌, ◌<◌}
use native.Mathlib.Omega.{arith}
use native.Mathlib.Nat.{le_refl}
use lib.Dec.{leb}
use lib.ListN.{length, get_or, set, take, drop, replicate, length-append, length-drop, take-append-drop}
use lib.Seq.{length-take-le}
use borrow.Author.Tests.{le-leb, lt-leb}
use Rattle.areas.specs.declared.Interval.{Interval}
use Rattle.areas.specs.Interval.{interval}
use Rattle.areas.specs.Table.{flat}
use Rattle.areas.proofs.Writing.{flat_length}
use Rattle.lent_table.specs.Edit.{lead, front, above}
use Rattle.lent_table.specs.Steps.{Past, Cleared, Slid, Trimmed, Rested}
use Rattle.lent_table.proofs.TableLaws.{flat_append}
use Rattle.lent_table.proofs.SlotLaws.{double, here, base_is, size_is, set_both}

-- ── trim_front ──
module _ (l : List ℕ) (j n hi : ℕ) where
  pub trimmed_end : n ≤ j → Trimmed l j n hi l
  unfolding Trimmed front
  trimmed_end h pre [] post lp ln e = e
  trimmed_end h pre (r ∷ xs) post lp ln e = absurd (omega arith)

  pub trimmed_same : hi ≤ get_or l (j + j) 0 → Trimmed l j n hi l
  unfolding Trimmed front
  trimmed_same h pre [] post lp ln e = e
  trimmed_same h pre (r ∷ xs) post lp ln e = rw (le-leb hi r.lo (omega (arith, base_is l j pre r xs post lp e))) e

  pub trimmed_set : j < n → get_or l (j + j) 0 < hi
      → Trimmed l j n hi (set (set l (j + j) hi) (j + j + 1) (get_or l (j + j + 1) 0 - (hi - get_or l (j + j) 0)))
  unfolding Trimmed front flat
  trimmed_set lt h pre [] post lp ln e = absurd (omega arith)
  trimmed_set lt h pre (r ∷ xs) post lp ln e =
      let b : get_or l (j + j) 0 ≡ r.lo = base_is l j pre r xs post lp e in
      let z : get_or l (j + j + 1) 0 ≡ r.hi - r.lo = size_is l j pre r xs post lp e in
      let v : get_or l (j + j + 1) 0 - (hi - get_or l (j + j) 0) ≡ r.hi - hi = omega arith in
      rw (lt-leb hi r.lo (omega arith))
      (set_both l j pre r xs post lp e hi (get_or l (j + j + 1) 0 - (hi - get_or l (j + j) 0))
      ∙ ap (λ (w : ℕ). flat pre ++ (hi ∷ w ∷ (flat xs ++ post))) v)

-- ── cut_rest ──
pub lead_le : (x : ℕ) (l : List Interval) → lead x l ≤ length l
unfolding lead
lead_le x [] = le_refl 0
lead_le x (r ∷ l) = go (leb r.hi x) (lead_le x l)
  where
    go : (t : Bool) → lead x l ≤ length l → cond t (suc (lead x l)) 0 ≤ suc (length l)
    go true h = omega arith
    go false h = omega arith

front_length : (hi : ℕ) (l : List Interval) → length (front hi l) ≡ length l
unfolding front
front_length hi [] = refl
front_length hi (r ∷ l) = go (leb hi r.lo)
  where
    go : (t : Bool) → length (cond t (r ∷ l) (interval hi r.hi ∷ l)) ≡ suc (length l)
    go true = refl
    go false = refl

pub above_length : (hi : ℕ) (l : List Interval) → length (above hi l) ≡ length l - lead hi l
unfolding above
above_length hi l = front_length hi (drop (lead hi l) l) ∙ length-drop (lead hi l) l

pub rested : {l : List ℕ} (l₁ l₂ l₃ : List ℕ) {i n hi j : ℕ} → Past l i n hi j → Trimmed l j n hi l₁ → Cleared l₁ (i + i) (j + j) l₂ → Slid l₂ (i + i) (j + j) (n + n) l₃
    → Rested l i n hi l₃ (i + (n - j))
unfolding Rested Trimmed Cleared Slid
rested {l} l₁ l₂ l₃ {i} {n} {hi} {j} past trimmed cleared slid pre xs post lp ln up e =
    let k = lead hi xs in
    let ys = above hi xs in
    let j= : j ≡ i + k = past.count ∙ ap (λ (m : List Interval). i + lead hi m) (here l i n pre xs post lp ln e up) in
    let k≤ : k ≤ length xs = lead_le hi xs in
    let lt : length (take k xs) ≡ k = length-take-le k xs k≤ in
    let whole : l ≡ flat (pre ++ take k xs) ++ (flat (drop k xs) ++ post) =
    e ∙ ap (λ (m : List ℕ). flat pre ++ m)
    (ap (λ (m : List Interval). flat m ++ post) (sym (take-append-drop k xs)) ∙ flat_append (take k xs) (drop k xs) post)
    ∙ sym (flat_append pre (take k xs) (flat (drop k xs) ++ post)) in
    let one : l₁ ≡ flat pre ++ (flat (take k xs) ++ (flat ys ++ post)) =
    trimmed (pre ++ take k xs) (drop k xs) post (omega (arith, length-append pre (take k xs))) (omega (arith, length-drop k xs)) whole
    ∙ unfold above in (flat_append pre (take k xs) (flat (above hi xs) ++ post)) in
    let gap : length (flat (take k xs)) ≡ k + k = double (take k xs) k lt in
    let two : l₂ ≡ flat pre ++ (replicate (length (flat (take k xs))) 0 ++ (flat ys ++ post)) =
    cleared (flat pre) (flat (take k xs)) (flat ys ++ post) (double pre i lp) (omega arith) one in
    let many : length ys ≡ length xs - k = above_length hi xs in
    let three : l₃ ≡ flat pre ++ (flat ys ++ (replicate (length (flat (take k xs))) 0 ++ post)) =
    slid (flat pre) (flat ys) post (length (flat (take k xs))) (double pre i lp) (omega arith) (omega (arith, flat_length ys)) two in
    record {
      count = omega arith;
      slots = three ∙ ap (λ (g : ℕ). flat pre ++ (flat ys ++ (replicate g 0 ++ post))) gap;
    }
