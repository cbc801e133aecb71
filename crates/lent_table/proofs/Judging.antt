-- `good_area`, `good_table`, `ends_by` and `past`: each return, and the turns of the two loops. Assumes nothing.
use mathlib.Core.Path.{◌≡◌, refl, ap, sym, ◌∙◌}
use mathlib.Core.List.{List, ◌∷◌}
use mathlib.Core.Bool.{Bool, true, false, ◌&&◌}
use Prim.Native.Nat.{ℕ, suc, ◌+◌, ◌-◌, ◌%◌, ◌/◌, ◌≤◌, ◌<◌}
use native.Mathlib.Omega.{arith}
use native.Mathlib.Numerals.{add-one}
use lib.Dec.{leb, eqb}
use lib.ListN.{length}
use borrow.Author.Tests.{le-leb, lt-leb, leb-true, leb-false, eqb-true, eqb-false}
use Rattle.page.specs.Round.{top, Aligned}
use Rattle.areas.specs.declared.Interval.{Interval}
use Rattle.lent_table.specs.Table.{table_in, good_area, good_from, good_table}
use Rattle.lent_table.specs.Edit.{lead}
use Rattle.lent_table.specs.Steps.{Past}
use Rattle.lent_table.proofs.TableLaws.{from_slot, span_at, slot_more, slot_end, GoodArea, area_says, area_passes}

-- ── ends_by ──
pub ends_past : (base size x : ℕ) → x < base → false ≡ leb (base + size) x
ends_past base size x h = sym (lt-leb (base + size) x (omega arith))

pub ends_at : (base size x : ℕ) → base ≤ x → leb size (x - base) ≡ leb (base + size) x
ends_at base size x h = go (leb size (x - base)) refl
  where
    go : (t : Bool) → leb size (x - base) ≡ t → t ≡ leb (base + size) x
    go true e = sym (le-leb (base + size) x (omega (arith, leb-true size (x - base) e)))
    go false e = sym (lt-leb (base + size) x (omega (arith, leb-false size (x - base) e)))

-- ── good_area ──
pub area_fails : (p a : ℕ) (r : Interval) → (GoodArea p a r → ⊥) → false ≡ good_area p a r
area_fails p a r f = go (good_area p a r) refl
  where
    go : (t : Bool) → good_area p a r ≡ t → false ≡ t
    go true e = absurd (f (area_says p a r e))
    go false e = refl

pub area_last : (p a : ℕ) (r : Interval) → a ≤ r.lo → r.lo < r.hi → Aligned p r.lo → r.hi ≤ top p → eqb (r.hi % p) 0 ≡ good_area p a r
area_last p a r h s e t = go (eqb (r.hi % p) 0) refl
  where
    go : (b : Bool) → eqb (r.hi % p) 0 ≡ b → b ≡ good_area p a r
    go true q = sym (area_passes p a r (record { from = h; some = s; pages = record { from = e; to = eqb-true _ _ q; low = t } }))
    go false q = area_fails p a r (λ g. eqb-false _ _ q g.pages.to)

-- ── good_table ──
pub table_short : (p n : ℕ) (l : List ℕ) → length l / 2 < n → false ≡ good_table p n l
unfolding good_table
table_short p n l h = rw (lt-leb n (length l / 2) h)

-- what the loop has: the verdict is that on the areas from here on
pub record Judging (p n : ℕ) (l : List ℕ) (least k : ℕ) : Type 0 where
  pub room : n + n ≤ length l
  pub verdict : good_table p n l ≡ good_from p least (from_slot l n k)

pub judges : (p n : ℕ) (l : List ℕ) → n ≤ length l / 2 → Judging p n l 0 0
unfolding good_table
judges p n l h = record { room = omega arith; verdict = rw (le-leb n (length l / 2) h) (ap (λ (i : ℕ). good_from p 0 (table_in i l)) (omega arith)) }

module _ {p n : ℕ} {l : List ℕ} {least k : ℕ} (inv : Judging p n l least k) where
  turn : k < n → good_table p n l ≡ (good_area p least (span_at l k) && good_from p (suc (span_at l k).hi) (from_slot l n (k + 1)))
  unfolding good_from
  turn h = inv.verdict ∙ rw (slot_more l n k h inv.room)

  pub judges_bad : k < n → good_area p least (span_at l k) ≡ false → false ≡ good_table p n l
  judges_bad h e = sym (turn h ∙ rw e)

  pub judges_on : k < n → good_area p least (span_at l k) ≡ true → Judging p n l ((span_at l k).hi + 1) (k + 1)
  judges_on h e = record { room = inv.room; verdict = turn h ∙ rw e (ap (λ (i : ℕ). good_from p i (from_slot l n (k + 1))) (sym (add-one (span_at l k).hi))) }

  pub judges_end : n ≤ k → true ≡ good_table p n l
  unfolding good_from
  judges_end h = sym (inv.verdict ∙ rw (slot_end l n k h))

-- ── past ──
lead_more : (x : ℕ) (r : Interval) (l : List Interval) → leb r.hi x ≡ true → lead x (r ∷ l) ≡ suc (lead x l)
unfolding lead
lead_more x r l e = rw e

lead_stop : (x : ℕ) (r : Interval) (l : List Interval) → leb r.hi x ≡ false → lead x (r ∷ l) ≡ 0
unfolding lead
lead_stop x r l e = rw e

pub record Passing (l : List ℕ) (from n x k : ℕ) : Type 0 where
  pub room : n + n ≤ length l
  pub low : from ≤ k
  pub high : k ≤ n
  pub goal : from + lead x (from_slot l n from) ≡ k + lead x (from_slot l n k)

pub passes : {l : List ℕ} {from n : ℕ} (x : ℕ) → (from ≤ n) × (n + n ≤ length l) → Passing l from n x from
passes x h = record { room = h.1; low = omega arith; high = h.0; goal = refl }

module _ {l : List ℕ} {from n x k : ℕ} (inv : Passing l from n x k) where
  pub passes_on : k < n → leb (span_at l k).hi x ≡ true → Passing l from n x (k + 1)
  passes_on h e =
      let f : lead x (from_slot l n k) ≡ suc (lead x (from_slot l n (k + 1))) =
      ap (λ (m : List Interval). lead x m) (slot_more l n k h inv.room) ∙ lead_more x (span_at l k) (from_slot l n (k + 1)) e in
      record { room = inv.room; low = omega (arith, inv.low); high = omega arith; goal = omega (arith, inv.goal) }

  pub passes_stop : k < n → leb (span_at l k).hi x ≡ false → Past l from n x k
  passes_stop h e =
      let f : lead x (from_slot l n k) ≡ 0 =
      ap (λ (m : List Interval). lead x m) (slot_more l n k h inv.room) ∙ lead_stop x (span_at l k) (from_slot l n (k + 1)) e in
      record { low = inv.low; high = inv.high; count = omega (arith, inv.goal); stop = λ i. leb-false (span_at l k).hi x e }

  pub passes_end : n ≤ k → Past l from n x n
  unfolding lead
  passes_end h =
      let f : lead x (from_slot l n k) ≡ 0 = ap (λ (m : List Interval). lead x m) (slot_end l n k h) in
      record { low = omega (arith, inv.low, inv.high); high = omega arith; count = omega (arith, inv.goal, inv.high); stop = λ i. absurd (omega arith) }
