-- Demand 3 on the slots that a caller holds: proved once, for any slots of which number i reaches over the i-th area, and then for lent
-- numbers and for a lent row of records. Assumes nothing.
use Rattle.std.specs.Prelude.{Option, ℕ, Ok}
use mathlib.Core.Path.{◌≡◌, refl, ◌∙◌, ap}
use mathlib.Core.List.{List, [], ◌∷◌, ◌++◌, map, Memᴰ}
use mathlib.Core.Logic.{◌↔◌, inl, inr}
use Prim.Native.Nat.{ℕ, zero, suc, ◌+◌, ◌-◌, ◌≤◌, ◌<◌}
use native.Mathlib.Omega.{arith}
use lib.ListN.{length, get_or, length-map, get_or-append, get_or-map}
use Rattle.page.specs.Round.{Page}
use Rattle.entry.specs.declared.Claim.{Claim}
use Rattle.areas.specs.declared.Interval.{Interval}
use Rattle.areas.specs.Interval.{interval, Inside, Listed, Above}
use Rattle.areas.specs.Shape.{Shape}
use Rattle.areas.specs.Table.{Form, BuildsIn, flat, numbers, Builds}
use Rattle.areas.proofs.Writing.{flat_length}
use Rattle.lent_areas.specs.declared.MemoryArea.{MemoryArea}
use Rattle.lent_areas.specs.Row.{area_of, area_at, records, BuildsRow}
use Rattle.lent_areas.proofs.RowLaws.{none, flat_at}
use Rattle.demand3.specs.Rule.{Accepted, map_after, areas_after, Rule}
use Rattle.demand3.specs.Slots.{number_slot, record_slot, ListedIn, WholeSlot, SlotsRight}
use Rattle.demand3.proofs.Demand.{address_rule, areas_shape}
use Rattle.demand3.proofs.Refusal.{answers, in_numbers, in_records}

-- ── The i-th interval of a list ──
abbrev pub nth : List Interval → ℕ → Interval
nth l i = get_or l i none

-- an address lies in a list where it lies in the i-th
nth_listed : (l : List Interval) (i x : ℕ) → i < length l → Inside x (nth l i) → Listed x l
nth_listed [] i x h s = absurd (omega arith)
nth_listed (r ∷ l) zero x h s = inl s
nth_listed (r ∷ l) (suc i) x h s = inr (nth_listed l i x (omega arith) s)

record Found (l : List Interval) (x : ℕ) : Type 0 where
  at : ℕ
  within : at < length l
  inside : Inside x (nth l at)

listed_nth : (l : List Interval) (x : ℕ) → Listed x l → Found l x
listed_nth [] x i = absurd i
listed_nth (r ∷ l) x (inl s) = record { at = 0; within = omega arith; inside = s }
listed_nth (r ∷ l) x (inr j) = let f = listed_nth l x j in record { at = suc f.at; within = omega (arith, f.within); inside = f.inside }

pub nth_among : (l : List Interval) (i : ℕ) → i < length l → Memᴰ (nth l i) l
nth_among [] i h = absurd (omega arith)
nth_among (r ∷ l) zero h = Memᴰ.head refl
nth_among (r ∷ l) (suc i) h = Memᴰ.tail (nth_among l i (omega arith))

-- it is nonempty, and the next starts past its end
nth_some : (l : List Interval) (a i : ℕ) → Above a l → i < length l → (a ≤ (nth l i).lo) × ((nth l i).lo < (nth l i).hi)
nth_some [] a i s h = absurd (omega arith)
nth_some (r ∷ l) a zero s h = (s.0, s.1)
nth_some (r ∷ l) a (suc i) s h = let t = nth_some l (suc r.hi) i s.2 (omega arith) in (omega (arith, t.0, s.0, s.1), t.1)

nth_apart : (l : List Interval) (a i : ℕ) → Above a l → suc i < length l → (nth l i).hi < (nth l (suc i)).lo
nth_apart [] a i s h = absurd (omega arith)
nth_apart (r ∷ l) a zero s h = omega (arith, (nth_some l (suc r.hi) 0 s.2 (omega arith)).0)
nth_apart (r ∷ l) a (suc i) s h = nth_apart l (suc r.hi) i s.2 (omega arith)

-- ── Slots that hold the areas ──
module _ (areas : List Interval) (slot : ℕ → MemoryArea)
    (is : (i : ℕ) → i < length areas → interval (slot i).base ((slot i).base + (slot i).size) ≡ nth areas i) where
  base_is : (i : ℕ) → i < length areas → (slot i).base ≡ (nth areas i).lo
  base_is i h = ap (λ (r : Interval). r.lo) (is i h)

  end_is : (i : ℕ) → i < length areas → (slot i).base + (slot i).size ≡ (nth areas i).hi
  end_is i h = ap (λ (r : Interval). r.hi) (is i h)

  pub held_listed : (x : ℕ) → ListedIn slot (length areas) x ↔ Listed x areas
  held_listed x = (
    λ s. nth_listed areas s.at x s.within (omega (arith, s.from, base_is s.at s.within), omega (arith, s.to, end_is s.at s.within)),
    λ i. let f = listed_nth areas x i in
        record {
          at = f.at;
          within = f.within;
          from = omega (arith, f.inside.0, base_is f.at f.within);
          to = omega (arith, f.inside.1, end_is f.at f.within);
        },
  )

  module _ {p : ℕ} (shape : Shape p areas) where
    pub held_whole : (i : ℕ) → i < length areas → WholeSlot p (slot i)
    held_whole i h =
        let w = shape.pages (nth areas i) (nth_among areas i h) in
        record {
          some = omega (arith, (nth_some areas 0 i shape.ascend h).1, base_is i h, end_is i h);
          from = rw (base_is i h) w.from;
          to = rw (end_is i h) w.to;
          low = rw (end_is i h) w.low;
        }

    pub held_apart : (i : ℕ) → suc i < length areas → (slot i).base + (slot i).size < (slot (suc i)).base
    held_apart i h = omega (arith, nth_apart areas 0 i shape.ascend h, end_is i (omega arith), base_is (suc i) h)

    pub held_right : {low high : Option ℕ} {cs : List Claim} → ((x : ℕ) → Listed x areas ↔ Rule p low high cs x) → SlotsRight p low high cs slot (length areas)
    held_right rule =
        record {
          rule = λ x. let l = held_listed x in let r = rule x in (λ s. r.0 (l.0 s), λ s. l.1 (r.1 s));
          whole = held_whole;
          apart = held_apart;
        }

-- a base and a size that are an area's reach as far as it does
reaches : {p : ℕ} {areas : List Interval} → Shape p areas → (a : MemoryArea) (i : ℕ) → i < length areas → a ≡ area_of (nth areas i)
    → interval a.base (a.base + a.size) ≡ nth areas i
reaches {p} {areas} shape a i h e =
    let some = (nth_some areas 0 i shape.ascend h).1 in
    let to : (nth areas i).lo + ((nth areas i).hi - (nth areas i).lo) ≡ (nth areas i).hi = omega arith in
    ap (λ (b : MemoryArea). interval b.base (b.base + b.size)) e ∙ ap (λ (k : ℕ). interval (nth areas i).lo k) to

-- ── A build that is done ──
module _ {A : Type 0} (f : Form A) (slot : List A → ℕ → MemoryArea)
    (reads : (areas : List Interval) (rest : List A) (i : ℕ) → i < length areas → slot (f.written areas ++ rest) i ≡ area_of (nth areas i)) where
  built_right : (p : ℕ) (low high : Option ℕ) (cs : List Claim) → Page p → Accepted p cs → {l l' : List A} {n : ℕ}
      → BuildsIn f (areas_after p low high cs) l l' (Ok n) → SlotsRight p low high cs (slot l') n
  built_right p low high cs g done {l} {l'} {n} b =
      let areas = areas_after p low high cs in
      let a = answers b in
      let count : n ≡ length areas = cc (a.count refl) in
      let shape = areas_shape p low high cs g in
      rw (count, a.writes refl)
      (held_right areas _ (λ i h. reaches shape _ i h (reads areas _ i h)) shape (address_rule p low high cs g done))

numbers_read : (areas : List Interval) (rest : List ℕ) (i : ℕ) → i < length areas → area_at (flat areas ++ rest) i ≡ area_of (nth areas i)
numbers_read areas rest i h =
    let n = flat_length areas in
    rw (get_or-append (flat areas) rest 0 (i + i) (omega (arith, n)), get_or-append (flat areas) rest 0 (i + i + 1) (omega (arith, n)))
    (flat_at areas i h)

records_read : (areas : List Interval) (rest : List MemoryArea) (i : ℕ) → i < length areas → record_slot (map area_of areas ++ rest) i ≡ area_of (nth areas i)
records_read areas rest i h =
    get_or-append (map area_of areas) rest (area_of none) i (omega (arith, length-map areas area_of)) ∙ get_or-map area_of areas i none

module _ (p : ℕ) (low high : Option ℕ) (cs : List Claim) (g : Page p) (done : Accepted p cs) {n : ℕ} where
  -- THEOREM 5, demand 3 on the slots: after a build that is done, the address rule holds of the numbers in the first n slots, which are
  -- nonempty whole pages, do not wrap, ascend and never touch
  pub build_slots : {l l' : List ℕ} → Builds p (map_after p cs) low high l l' (Ok n) → SlotsRight p low high cs (number_slot l') n
  build_slots b = built_right numbers number_slot numbers_read p low high cs g done (in_numbers b)

  -- the same of the first n records of a lent row
  pub row_slots : {row row' : List MemoryArea} → BuildsRow p (map_after p cs) low high row row' (Ok n) → SlotsRight p low high cs (record_slot row') n
  row_slots b = built_right records record_slot records_read p low high cs g done (in_records b)
