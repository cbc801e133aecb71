-- A late claim that is done, on any table that passes 14: request L3 of document 02, "For any other table that passes 14, they are its areas
-- less the rounded claim." For every page size. Assumes nothing.
use Rattle.std.specs.Prelude.{Ok}
use mathlib.Core.Path.{◌≡◌, refl, ap, sym, ◌∙◌}
use mathlib.Core.Bool.{true}
use mathlib.Core.List.Memᴰ
use mathlib.Core.List.{List, [], ◌∷◌, Memᴰ}
use mathlib.Core.Logic.{◌↔◌, ⊎_elim}
use Prim.Native.Nat.{ℕ, ◌+◌, ◌/◌, ◌≤◌, ◌<◌}
use lib.ListN.{length, get_or}
use Rattle.page.specs.Round.{Page}
use Rattle.entry.specs.declared.Claim.{Claim}
use Rattle.memory.specs.declared.MemoryMap.{MemoryMap}
use Rattle.memory.specs.Map.{Something, nothing}
use Rattle.areas.specs.declared.Interval.{Interval}
use Rattle.areas.specs.Interval.{Listed}
use Rattle.areas.specs.Steps.{Solid}
use Rattle.areas.specs.Table.{slots_in}
use Rattle.demand3.specs.Slots.{number_slot, ListedIn}
use Rattle.lent_table.specs.Table.{table_in, GoodTable}
use Rattle.lent_table.proofs.LessLaws.{above_solid}
use Rattle.lent_table.proofs.TableLaws.{span_at}
use Rattle.late_claim.specs.Late.{less_claim, areas_left, unchanged, late_of}
use Rattle.late_claim.proofs.Claiming.{late_enters}
use Rattle.late_claim.proofs.Entering.{enter_nothing}
use Rattle.late_theorems.specs.Refusals.{late_gives, LateKind, TableStands}
use Rattle.late_theorems.specs.Takes.{Takes, Untouched, KeptIn}
use Rattle.late_theorems.proofs.Stands.{stands_good, slot_among, table_listed, table_kept}
use Rattle.late_theorems.proofs.Ways.{Unrefused, unrefused, late_checked}
use Rattle.late_theorems.proofs.Taking.{nothing_ways, claim_ascends, claim_listed, claim_keeps, claim_shape}
use Rattle.late_theorems.proofs.Numbers.{with_table, with_length, with_zero, with_past}

solid_some : (l : List Interval) → Solid l → (r : Interval) → Memᴰ r l → r.lo < r.hi
solid_some [] s r i = absurd (Memᴰ.not-nil i)
solid_some (q ∷ l) s r i = ⊎_elim (λ e. rw e s.0) (λ j. solid_some l s.1 r j) (Memᴰ.cases_cons i)

module _ (p : ℕ) (m : MemoryMap) (c : Claim) (n : ℕ) (l : List ℕ) (done : late_gives p m c n l ≡ 0) where
  why : Unrefused p m c n l
  why = unrefused p m c n l done

  good : GoodTable p n l
  good = (stands_good p n l).1 why.stands

  before_solid : Solid (table_in n l)
  before_solid = above_solid (table_in n l) 0 good.shape.ascend

  left_solid : Solid (areas_left p c n l)
  left_solid = above_solid (areas_left p c n l) 0 (claim_ascends p c why.kind.known (table_in n l) good.shape.ascend)

  -- THEOREM, any table: "they are its areas less the rounded claim"
  pub left_list : table_in (late_of p m c n l).count (late_of p m c n l).table ≡ less_claim p c (table_in n l)
  left_list = rw why.is (with_table (areas_left p c n l) n l left_solid)

  -- so an address is listed exactly when it was and the claim does not take it
  pub left_listed : (x : ℕ) → Listed x (table_in (late_of p m c n l).count (late_of p m c n l).table) ↔ (Listed x (table_in n l) × (Takes p x c → ⊥))
  left_listed x = rw left_list (claim_listed p c why.kind.known (table_in n l) before_solid x)

  -- "An area that the claim does not overlap keeps its base and size, though its slot may move."
  pub left_keeps : (r : Interval) → Memᴰ r (table_in n l) → Untouched p c r → Memᴰ r (table_in (late_of p m c n l).count (late_of p m c n l).table)
  left_keeps r i off = rw left_list (claim_keeps p c why.kind.known (table_in n l) before_solid r i (solid_some (table_in n l) before_solid r i) off)

  -- the same numbers are lent
  pub same_slots : length (late_of p m c n l).table ≡ length l
  same_slots = rw why.is (with_length (areas_left p c n l) n l why.stands.count why.enough)

  pub left_room : (late_of p m c n l).count ≤ slots_in (late_of p m c n l).table
  left_room =
      let e : slots_in (late_of p m c n l).table ≡ slots_in l = ap (λ (k : ℕ). k / 2) same_slots in
      rw e (rw why.is why.enough)

  -- so the table passes 14 again
  pub good_again : Page p → TableStands p (late_of p m c n l).count (late_of p m c n l).table
  good_again g =
      (stands_good p (late_of p m c n l).count (late_of p m c n l).table).0
      (record { room = left_room; shape = rw left_list (claim_shape p c why.kind.known g (table_in n l) good.shape) })

  -- "Slots that fall out of use become zero."
  pub zero_slots : (i : ℕ) → (late_of p m c n l).count + (late_of p m c n l).count ≤ i → i < n + n → get_or (late_of p m c n l).table i 0 ≡ 0
  zero_slots = rw why.is (with_zero (areas_left p c n l) n l)

  -- all past both counts is as it was
  pub past_slots : (i : ℕ) → (late_of p m c n l).count + (late_of p m c n l).count ≤ i → n + n ≤ i → get_or (late_of p m c n l).table i 0 ≡ get_or l i 0
  past_slots = rw why.is (with_past (areas_left p c n l) n l)

  -- the same of slots
  pub slot_keeps : (i : ℕ) → i < n → Untouched p c (span_at l i) → KeptIn (number_slot (late_of p m c n l).table) (late_of p m c n l).count (number_slot l i)
  slot_keeps i h off =
      table_kept (late_of p m c n l).count (late_of p m c n l).table left_room (number_slot l i)
      (left_keeps (span_at l i) (slot_among n l why.stands.count i h) off)

  -- what is listed, in slots' words
  pub left_slots : (x : ℕ) → ListedIn (number_slot (late_of p m c n l).table) (late_of p m c n l).count x ↔ (ListedIn (number_slot l) n x × (Takes p x c → ⊥))
  left_slots x =
      let new = table_listed (late_of p m c n l).count (late_of p m c n l).table left_room x in
      let old = table_listed n l why.stands.count x in
      let both = left_listed x in (
        λ s. let t = both.0 (new.0 s) in (old.1 t.0, t.1),
        λ t. new.1 (both.1 (old.0 t.0, t.1)),
      )

-- THEOREM, a claim that registers nothing: it is done and changes nothing
module _ (p : ℕ) (m : MemoryMap) (c : Claim) (n : ℕ) (l : List ℕ) (kind : LateKind c) (stands : TableStands p n l) where
  pub nothing_claimed : (Something p c → ⊥) → late_of p m c n l ≡ unchanged m n l (Ok tt)
  nothing_claimed none =
      let is : nothing p c ≡ true = nothing_ways p c (λ t. t ≡ true) (λ _. refl) (λ f. absurd (none (f kind.known))) in
      late_enters p m c n l (late_checked p m c n l kind stands) ∙ sym (enter_nothing p m c n l (late_checked p m c n l kind stands) is)

  -- "Size 0, once 1, 13 and 14 are checked, is done and changes nothing."
  pub size_0 : c.size ≡ 0 → late_of p m c n l ≡ unchanged m n l (Ok tt)
  size_0 e = nothing_claimed (λ s. s.sized e)
