-- The table in lent numbers: slot by slot, as a part of the numbers, and that the test for it says what it should. Assumes nothing.
use mathlib.Core.Path.{◌≡◌, refl, ap, ap₂, sym, ◌∙◌}
use mathlib.Core.List.Memᴰ
use mathlib.Core.List.{List, [], ◌∷◌, ◌++◌, Memᴰ}
use mathlib.Core.Bool.{Bool, true, false, ◌&&◌, true≢false}
use mathlib.Core.Logic.{⊎_elim, ◌↔◌}
use Prim.Native.Nat.{ℕ, zero, suc, ◌+◌, ◌-◌, ◌%◌, ◌≤◌, ◌<◌}
use native.Mathlib.Omega.{arith}
use lib.Dec.{leb, ltb, eqb}
use lib.ListN.{length, get_or, drop}
use lib.Seq.{drop-cons}
use borrow.Author.Tests.{le-leb, lt-ltb, eq-eqb, leb-true, ltb-true, eqb-true}
use Rattle.areas.specs.declared.Interval.{Interval}
use Rattle.areas.specs.Interval.{interval, Above}
use Rattle.areas.specs.Shape.{WholePages}
use Rattle.areas.specs.Steps.{Solid}
use Rattle.areas.specs.Table.{flat, slots_in}
use Rattle.lent_table.specs.Table.{table_in, GoodTable, good_area, good_from, good_table}
use Rattle.lent_table.specs.Steps.{Upward}

pub table_none : (l : List ℕ) → table_in 0 l ≡ []
unfolding table_in
table_none l = refl

table_two : (n a b : ℕ) (l : List ℕ) → table_in (suc n) (a ∷ b ∷ l) ≡ interval a (a + b) ∷ table_in n l
unfolding table_in
table_two n a b l = refl

pub table_length : (n : ℕ) (l : List ℕ) → n + n ≤ length l → length (table_in n l) ≡ n
unfolding table_in
table_length zero l h = refl
table_length (suc n) [] h = absurd (omega arith)
table_length (suc n) (a ∷ []) h = absurd (omega arith)
table_length (suc n) (a ∷ b ∷ l) h = ap suc (table_length n l (omega arith))

-- what is read was written so
pub table_flat : (n : ℕ) (l : List ℕ) → n + n ≤ length l → l ≡ flat (table_in n l) ++ drop (n + n) l
unfolding table_in flat
table_flat zero l h = refl
table_flat (suc n) [] h = absurd (omega arith)
table_flat (suc n) (a ∷ []) h = absurd (omega arith)
table_flat (suc n) (a ∷ b ∷ l) h =
    let s : b ≡ a + b - a = omega arith in
    let t : suc n + suc n ≡ suc (suc (n + n)) = omega arith in
    ap₂ (λ (i : ℕ) (m : List ℕ). a ∷ i ∷ m) s (table_flat n l (omega arith)) ∙ rw t

-- what is read from numbers does not end before it starts
pub table_upward : (n : ℕ) (l : List ℕ) → Upward (table_in n l)
unfolding table_in
table_upward zero l = tt
table_upward (suc n) [] = tt
table_upward (suc n) (a ∷ []) = tt
table_upward (suc n) (a ∷ b ∷ l) = (omega arith, table_upward n l)

pub upward_drop : (k : ℕ) (l : List Interval) → Upward l → Upward (drop k l)
upward_drop zero l u = u
upward_drop (suc k) [] u = u
upward_drop (suc k) (r ∷ l) u = upward_drop k l u.1

-- what is written reads so
pub flat_reads : (xs : List Interval) (post : List ℕ) → Upward xs → table_in (length xs) (flat xs ++ post) ≡ xs
unfolding table_in flat
flat_reads [] post u = refl
flat_reads (r ∷ xs) post u =
    let e : r.lo + (r.hi - r.lo) ≡ r.hi = omega (arith, u.0) in
    ap₂ (λ (i : ℕ) (m : List Interval). interval r.lo i ∷ m) e (flat_reads xs post u.1)

pub flat_table : (xs : List Interval) (post : List ℕ) → Solid xs → table_in (length xs) (flat xs ++ post) ≡ xs
flat_table xs post s = flat_reads xs post (upward xs s)
  where
    upward : (l : List Interval) → Solid l → Upward l
    upward [] s = tt
    upward (r ∷ l) s = (omega (arith, s.0), upward l s.1)

pub flat_append : (a b : List Interval) (c : List ℕ) → flat (a ++ b) ++ c ≡ flat a ++ (flat b ++ c)
unfolding flat
flat_append [] b c = refl
flat_append (r ∷ a) b c = ap (λ (m : List ℕ). r.lo ∷ (r.hi - r.lo) ∷ m) (flat_append a b c)

-- the areas from slot k on, up to slot n
abbrev pub from_slot : List ℕ → ℕ → ℕ → List Interval
from_slot l n k = table_in (n - k) (drop (k + k) l)

abbrev pub span_at : List ℕ → ℕ → Interval
span_at l k = interval (get_or l (k + k) 0) (get_or l (k + k) 0 + get_or l (k + k + 1) 0)

module _ (l : List ℕ) (n : ℕ) where
  pub slot_more : (k : ℕ) → k < n → n + n ≤ length l → from_slot l n k ≡ span_at l k ∷ from_slot l n (k + 1)
  slot_more k h room =
      let one : drop (k + k) l ≡ get_or l (k + k) 0 ∷ drop (suc (k + k)) l = drop-cons l (k + k) 0 (omega arith) in
      let two : drop (suc (k + k)) l ≡ get_or l (suc (k + k)) 0 ∷ drop (suc (suc (k + k))) l = drop-cons l (suc (k + k)) 0 (omega arith) in
      let c : n - k ≡ suc (n - (k + 1)) = omega arith in
      let d : suc (suc (k + k)) ≡ (k + 1) + (k + 1) = omega arith in
      let e : suc (k + k) ≡ k + k + 1 = omega arith in
      ap₂ (λ (i : ℕ) (m : List ℕ). table_in i m) c (one ∙ ap (λ (m : List ℕ). get_or l (k + k) 0 ∷ m) two)
      ∙ table_two (n - (k + 1)) (get_or l (k + k) 0) (get_or l (suc (k + k)) 0) (drop (suc (suc (k + k))) l)
      ∙ ap₂ (λ (i j : ℕ). interval (get_or l (k + k) 0) (get_or l (k + k) 0 + get_or l i 0) ∷ table_in (n - (k + 1)) (drop j l)) e d

  pub slot_end : (k : ℕ) → n ≤ k → from_slot l n k ≡ []
  slot_end k h =
      let z : n - k ≡ 0 = omega arith in
      ap (λ (i : ℕ). table_in i (drop (k + k) l)) z ∙ table_none (drop (k + k) l)

-- ── The test ──
and_left : (a b : Bool) → (a && b) ≡ true → a ≡ true
and_left true b e = refl
and_left false b e = absurd (true≢false (sym e))

and_right : (a b : Bool) → (a && b) ≡ true → b ≡ true
and_right true b e = e
and_right false b e = absurd (true≢false (sym e))

and_both : (a b : Bool) → a ≡ true → b ≡ true → (a && b) ≡ true
and_both a b e f = rw (e, f)

-- a good area
pub record GoodArea (p a : ℕ) (r : Interval) : Type 0 where
  pub from : a ≤ r.lo
  pub some : r.lo < r.hi
  pub pages : WholePages p r

module _ (p a : ℕ) (r : Interval) where
  pub area_says : good_area p a r ≡ true → GoodArea p a r
  unfolding good_area
  area_says e =
      let e₁ = and_right (leb a r.lo) _ e in
      let e₂ = and_right (ltb r.lo r.hi) _ e₁ in
      let e₃ = and_right (eqb (r.lo % p) 0) _ e₂ in
      record {
        from = leb-true _ _ (and_left (leb a r.lo) _ e);
        some = ltb-true _ _ (and_left (ltb r.lo r.hi) _ e₁);
        pages = record {
          from = eqb-true _ _ (and_left (eqb (r.lo % p) 0) _ e₂);
          to = eqb-true _ _ (and_left (eqb (r.hi % p) 0) _ e₃);
          low = leb-true _ _ (and_right (eqb (r.hi % p) 0) _ e₃);
        };
      }

  pub area_passes : GoodArea p a r → good_area p a r ≡ true
  unfolding good_area
  area_passes g =
      and_both _ _ (le-leb _ _ g.from) (and_both _ _ (lt-ltb _ _ g.some) (and_both _ _ (eq-eqb _ _ g.pages.from)
      (and_both _ _ (eq-eqb _ _ g.pages.to) (le-leb _ _ g.pages.low))))

pub from_says : (p a : ℕ) (l : List Interval) → good_from p a l ≡ true → Above a l × ((r : Interval) → Memᴰ r l → WholePages p r)
unfolding good_from
from_says p a [] e = (tt, λ r m. absurd (Memᴰ.not-nil m))
from_says p a (s ∷ l) e =
    let g = area_says p a s (and_left (good_area p a s) _ e) in
    let more = from_says p (suc s.hi) l (and_right (good_area p a s) _ e) in (
      (g.from, g.some, more.0),
      λ r m. ⊎_elim (λ q. rw q g.pages) (λ i. more.1 r i) (Memᴰ.cases_cons m),
    )

from_passes : (p a : ℕ) (l : List Interval) → Above a l → ((r : Interval) → Memᴰ r l → WholePages p r) → good_from p a l ≡ true
unfolding good_from
from_passes p a [] h f = refl
from_passes p a (s ∷ l) h f =
    and_both _ _ (area_passes p a s (record { from = h.0; some = h.1; pages = f s (Memᴰ.head refl) }))
    (from_passes p (suc s.hi) l h.2 (λ r m. f r (Memᴰ.tail m)))

-- the test is passed exactly by the good tables
pub good_exactly : (p n : ℕ) (l : List ℕ) → (good_table p n l ≡ true) ↔ GoodTable p n l
unfolding good_table
good_exactly p n l = (
  λ e.
      let f = from_says p 0 (table_in n l) (and_right (leb n (slots_in l)) _ e) in
      record { room = leb-true _ _ (and_left (leb n (slots_in l)) _ e); shape = record { ascend = f.0; pages = f.1 } },
  λ g. and_both _ _ (le-leb _ _ g.room) (from_passes p 0 (table_in n l) g.shape.ascend g.shape.pages),
)
