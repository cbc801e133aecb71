-- The numbers when other areas take the place of those in a table: the used slots, those that fall out of use, and all past both.
-- Assumes nothing.
use mathlib.Core.Path.{◌≡◌, refl, ap, sym, ◌∙◌}
use mathlib.Core.List.{List, ◌++◌}
use Prim.Native.Nat.{ℕ, ◌+◌, ◌-◌, ◌≤◌, ◌<◌, max}
use native.Mathlib.Omega.{arith}
use lib.ListN.{length, get_or, drop, replicate, length-append, length-drop, length-replicate, get_or-replicate, get_or-append}
use lib.Seq.{get_or-append-add, get_or-drop}
use Rattle.areas.specs.declared.Interval.{Interval}
use Rattle.areas.specs.Steps.{Solid}
use Rattle.areas.specs.Table.{flat, slots_in}
use Rattle.areas.proofs.Writing.{flat_length}
use Rattle.lent_table.specs.Table.{table_in, table_with}
use Rattle.lent_table.proofs.TableLaws.{flat_table}

module _ (areas : List Interval) (n : ℕ) (l : List ℕ) where
  abbrev rest : List ℕ
  rest = replicate (n + n - (length areas + length areas)) 0 ++ drop (max (n + n) (length areas + length areas)) l

  with_is : table_with areas n l ≡ flat areas ++ rest
  unfolding table_with
  with_is = refl

  -- the used slots
  pub with_table : Solid areas → table_in (length areas) (table_with areas n l) ≡ areas
  with_table s = ap (λ (m : List ℕ). table_in (length areas) m) with_is ∙ flat_table areas rest s

  pub with_length : n ≤ slots_in l → length areas ≤ slots_in l → length (table_with areas n l) ≡ length l
  with_length h i =
      ap length with_is
      ∙ omega (
        arith,
        length-append (flat areas) rest,
        flat_length areas,
        length-append (replicate (n + n - (length areas + length areas)) 0) (drop (max (n + n) (length areas + length areas)) l),
        length-replicate {A = ℕ} (n + n - (length areas + length areas)) 0,
        length-drop (max (n + n) (length areas + length areas)) l,
      )

  -- a place past the used slots
  past_front : (i : ℕ) → length areas + length areas ≤ i → get_or (table_with areas n l) i 0 ≡ get_or rest (i - (length areas + length areas)) 0
  past_front i h =
      let e : length (flat areas) + (i - (length areas + length areas)) ≡ i = omega (arith, flat_length areas) in
      ap (λ (m : List ℕ). get_or m i 0) with_is ∙ ap (λ (j : ℕ). get_or (flat areas ++ rest) j 0) (sym e)
      ∙ get_or-append-add (flat areas) rest (i - (length areas + length areas)) 0

  -- "Slots that fall out of use become zero."
  pub with_zero : (i : ℕ) → length areas + length areas ≤ i → i < n + n → get_or (table_with areas n l) i 0 ≡ 0
  with_zero i h lt =
      past_front i h
      ∙ get_or-append (replicate (n + n - (length areas + length areas)) 0) (drop (max (n + n) (length areas + length areas)) l) 0 (i - (length areas + length areas))
      (omega (arith, length-replicate {A = ℕ} (n + n - (length areas + length areas)) 0))
      ∙ get_or-replicate (n + n - (length areas + length areas)) (i - (length areas + length areas)) 0 0 (omega arith)

  -- all past both is as it was
  pub with_past : (i : ℕ) → length areas + length areas ≤ i → n + n ≤ i → get_or (table_with areas n l) i 0 ≡ get_or l i 0
  with_past i h le =
      let g = n + n - (length areas + length areas) in
      let d = max (n + n) (length areas + length areas) in
      let z : length (replicate {A = ℕ} g 0) + (i - d) ≡ i - (length areas + length areas) = omega (arith, length-replicate {A = ℕ} g 0) in
      let y : d + (i - d) ≡ i = omega arith in
      past_front i h ∙ ap (λ (j : ℕ). get_or rest j 0) (sym z)
      ∙ get_or-append-add (replicate g 0) (drop d l) (i - d) 0 ∙ get_or-drop d l (i - d) 0 ∙ ap (λ (j : ℕ). get_or l j 0) y
