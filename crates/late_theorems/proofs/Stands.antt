-- A table in lent numbers, slot by slot and as a list of areas: what lies in it, and what 14 asks, is the same of both. For every page
-- size. Assumes nothing.
use mathlib.Core.Path.{◌≡◌, refl, ap, ap₂, sym, ◌∙◌}
use mathlib.Core.Bool.{true}
use mathlib.Core.List.Memᴰ
use mathlib.Core.List.{List, [], ◌∷◌, Memᴰ}
use mathlib.Core.Logic.{◌↔◌, ⊎_elim}
use Prim.Native.Nat.{ℕ, zero, suc, ◌+◌, ◌≤◌, ◌<◌}
use native.Mathlib.Omega.{arith}
use lib.ListN.{length, get_or}
use Rattle.areas.specs.declared.Interval.{Interval}
use Rattle.areas.specs.Interval.{interval, Listed, Above}
use Rattle.areas.specs.Shape.{WholePages}
use Rattle.areas.specs.Table.{slots_in}
use Rattle.lent_areas.specs.declared.MemoryArea.{MemoryArea}
use Rattle.demand3.specs.Slots.{number_slot, ListedIn}
use Rattle.demand3.proofs.Slots.{nth, nth_among, held_listed, held_whole, held_apart}
use Rattle.lent_table.specs.Table.{table_in, GoodTable, good_table}
use Rattle.lent_table.proofs.TableLaws.{table_length, span_at, good_exactly}
use Rattle.late_theorems.specs.Refusals.{TableStands}
use Rattle.late_theorems.specs.Takes.{KeptIn}

-- ── Slots ──
table_nth : (n : ℕ) (l : List ℕ) → n + n ≤ length l → (i : ℕ) → i < n → span_at l i ≡ nth (table_in n l) i
unfolding table_in
table_nth zero l room i h = absurd (omega arith)
table_nth (suc n) [] room i h = absurd (omega arith)
table_nth (suc n) (a ∷ []) room i h = absurd (omega arith)
table_nth (suc n) (a ∷ b ∷ l) room zero h = refl
table_nth (suc n) (a ∷ b ∷ l) room (suc i) h =
    let twice : suc i + suc i ≡ suc (suc (i + i)) = omega arith in
    let after : suc i + suc i + 1 ≡ suc (suc (i + i + 1)) = omega arith in
    ap₂ (λ (j k : ℕ). interval (get_or (a ∷ b ∷ l) j 0) (get_or (a ∷ b ∷ l) j 0 + get_or (a ∷ b ∷ l) k 0)) twice after ∙ table_nth n l (omega arith) i (omega arith)

module _ (n : ℕ) (l : List ℕ) (room : n ≤ slots_in l) where
  pub table_size : length (table_in n l) ≡ n
  table_size = table_length n l (omega arith)

  pub table_slots : (i : ℕ) → i < length (table_in n l) → span_at l i ≡ nth (table_in n l) i
  table_slots i h = table_nth n l (omega arith) i (omega (arith, table_size))

  pub slot_among : (i : ℕ) → i < n → Memᴰ (span_at l i) (table_in n l)
  slot_among i h = rw (table_slots i (omega (arith, table_size))) (nth_among (table_in n l) i (omega (arith, table_size)))

  -- an address lies in a slot where it lies in an area
  pub table_listed : (x : ℕ) → ListedIn (number_slot l) n x ↔ Listed x (table_in n l)
  table_listed x = rw table_size at (held_listed (table_in n l) (number_slot l) table_slots x)

-- ── From slots to areas ──
-- intervals that are nonempty, and each of which ends before the next, ascend
nth_above : (xs : List Interval) (a : ℕ) → (0 < length xs → a ≤ (nth xs 0).lo) → ((i : ℕ) → i < length xs → (nth xs i).lo < (nth xs i).hi)
    → ((i : ℕ) → suc i < length xs → (nth xs i).hi < (nth xs (suc i)).lo) → Above a xs
nth_above [] a from some apart = tt
nth_above (r ∷ xs) a from some apart =
    (from (omega arith), some 0 (omega arith), nth_above xs (suc r.hi) (λ h. apart 0 (omega arith)) (λ i h. some (suc i) (omega arith)) (λ i h. apart (suc i) (omega arith)))

-- what holds of the i-th for each i holds of each
nth_each : (P : Interval → Type 0) (xs : List Interval) → ((i : ℕ) → i < length xs → P (nth xs i)) → (r : Interval) → Memᴰ r xs → P r
nth_each P [] f r m = absurd (Memᴰ.not-nil m)
nth_each P (s ∷ xs) f r m =
    ⊎_elim (λ e. rw e (f 0 (omega arith))) (λ j. nth_each P xs (λ i h. f (suc i) (omega arith)) r j) (Memᴰ.cases_cons m)

-- an area of the table is in a slot
pub table_kept : (n : ℕ) (l : List ℕ) → n ≤ slots_in l → (a : MemoryArea) → Memᴰ (interval a.base (a.base + a.size)) (table_in n l) → KeptIn (number_slot l) n a
table_kept n l room a m =
    nth_each (λ r. r ≡ interval a.base (a.base + a.size) → KeptIn (number_slot l) n a) (table_in n l)
    (λ i h e. record { at = i; within = omega (arith, table_size n l room); same = same_area (number_slot l i) a (table_slots n l room i h ∙ e) })
    (interval a.base (a.base + a.size)) m refl
  where
    same_area : (b c : MemoryArea) → interval b.base (b.base + b.size) ≡ interval c.base (c.base + c.size) → b ≡ c
    same_area b c e =
        let base : b.base ≡ c.base = ap (λ (r : Interval). r.lo) e in
        let end : b.base + b.size ≡ c.base + c.size = ap (λ (r : Interval). r.hi) e in
        let size : b.size ≡ c.size = omega arith in
        ap₂ (λ (i j : ℕ). record { base = i; size = j }) base size

-- ── 14 ──
-- "areas not ascending, aligned, nonempty, apart without touching and ending at or below T": of the areas, and of each slot's two numbers
pub stands_good : (p n : ℕ) (l : List ℕ) → GoodTable p n l ↔ TableStands p n l
stands_good p n l = (there, back)
  where
    there : GoodTable p n l → TableStands p n l
    there g =
        let room = g.room in
        let size = table_size n l room in
        record {
          count = room;
          whole = λ i h. held_whole (table_in n l) (number_slot l) (table_slots n l room) g.shape i (omega arith);
          apart = λ i h. held_apart (table_in n l) (number_slot l) (table_slots n l room) g.shape i (omega arith);
        }

    back : TableStands p n l → GoodTable p n l
    back s =
        let room = s.count in
        let size = table_size n l room in
        let is : (i : ℕ) → i < length (table_in n l) → span_at l i ≡ nth (table_in n l) i = table_slots n l room in
        record {
          room = room;
          shape = record {
            ascend = nth_above (table_in n l) 0 (λ h. omega arith)
                (λ i h. rw (sym (is i h)) (omega (arith, (s.whole i (omega arith)).some)))
                (λ i h. rw (sym (is i (omega arith)), sym (is (suc i) h)) (s.apart i (omega arith)));
            pages = nth_each (WholePages p) (table_in n l) (λ i h. let w = s.whole i (omega arith) in rw (sym (is i h)) (record { from = w.from; to = w.to; low = w.low }));
          };
        }

-- THEOREM, 14 in the request's words: the test is passed exactly by a table whose slots stand
pub table_exactly : (p n : ℕ) (l : List ℕ) → (good_table p n l ≡ true) ↔ TableStands p n l
table_exactly p n l = (λ e. (stands_good p n l).0 ((good_exactly p n l).0 e), λ s. (good_exactly p n l).1 ((stands_good p n l).1 s))
