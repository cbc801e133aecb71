-- The loop of `usable_pages`: the pages summed so far, with those of the areas still to come, are the pages of them all, capped.
-- Assumes nothing.
use mathlib.Core.Path.{◌≡◌, ◌∙◌}
use mathlib.Core.List.{List}
use Prim.Native.Nat.{ℕ, zero, suc, ◌+◌, ◌-◌, ◌/◌, ◌^◌, ◌≤◌, ◌<◌, min}
use native.Mathlib.Omega.{arith}
use lib.ListN.{get_or}
use Rattle.page.specs.Round.{ending}
use Rattle.sheet.specs.Sheet.{slot_pages}

-- two capped sums, from the one end or from the other
cap_twice : (a x s m : ℕ) → min (min (a + x) m + s) m ≡ min (a + min (x + s) m) m
cap_twice a x s m = omega arith

slots_few : (p : ℕ) (l : List ℕ) (n i : ℕ) → slot_pages p l n i ≤ 2 ^ 64 - 1
unfolding slot_pages
slots_few p l zero i = omega arith
slots_few p l (suc n) i = omega arith

pub record Summing (p : ℕ) (l : List ℕ) (n pages i : ℕ) : Type 0 where
  pub slot : i ≤ n
  pub capped : pages ≤ 2 ^ 64 - 1
  pub sum : min (pages + slot_pages p l (n - i) i) (2 ^ 64 - 1) ≡ slot_pages p l n 0

pub begins : (p : ℕ) (l : List ℕ) (n : ℕ) → Summing p l n 0 0
begins p l n =
    let all : n - 0 ≡ n = omega arith in
    record { slot = omega arith; capped = omega arith; sum = rw all (omega (arith, slots_few p l n 0)) }

module _ {p : ℕ} {l : List ℕ} {n pages i : ℕ} (inv : Summing p l n pages i) where
  none_left : n ≤ i → slot_pages p l (n - i) i ≡ 0
  unfolding slot_pages
  none_left h = let z : n - i ≡ 0 = omega arith in rw z

  -- after the last area
  pub ends : n ≤ i → pages ≡ slot_pages p l n 0
  ends h = omega (arith, none_left h, inv.sum, inv.capped)

  module _ (lt : i < n) where
    next : slot_pages p l (n - i) i ≡ min (get_or l (i + i + 1) 0 / p + slot_pages p l (n - (i + 1)) (i + 1)) (2 ^ 64 - 1)
    unfolding slot_pages
    next = let s : n - i ≡ suc (n - (i + 1)) = omega arith in rw s

    pub adds : {pages' : ℕ} → pages' ≡ ending pages (get_or l (i + i + 1) 0 / p) → Summing p l n pages' (i + 1)
    unfolding ending
    adds e = record {
      slot = omega arith;
      capped = omega arith;
      sum = rw e (cap_twice pages (get_or l (i + i + 1) 0 / p) (slot_pages p l (n - (i + 1)) (i + 1)) (2 ^ 64 - 1) ∙ rw next at inv.sum);
    }
