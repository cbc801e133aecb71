-- A finished table as a caller lends it: the areas in its first slots, whether they can be a table, and the numbers when other areas take
-- their place: request L3 of document 02.
use Rattle.std.specs.Prelude.{List, [], ◌∷◌, ◌++◌, Bool, true, ◌&&◌, ℕ, zero, suc, ◌+◌, ◌-◌, ◌%◌, ◌≤◌, max, leb, ltb, eqb, length, drop, replicate}
use Rattle.page.specs.Round.{top}
use Rattle.areas.specs.declared.Interval.{Interval}
use Rattle.areas.specs.Interval.{interval}
use Rattle.areas.specs.Shape.{Shape}
use Rattle.areas.specs.Table.{flat, slots_in}

-- ── The areas in it ──
-- the areas in the first n slots of some numbers: document 01, "Areas are (base, size)". What is written reads so (TableLaws.flat_table),
-- and what is read was written so (TableLaws.table_flat)
unfoldable pub table_in : ℕ → List ℕ → List Interval
table_in zero l = []
table_in (suc n) [] = []
table_in (suc n) (a ∷ []) = []
table_in (suc n) (a ∷ b ∷ l) = interval a (a + b) ∷ table_in n l

-- ── Refusal 14 ──
-- a table that is not "count above the slots, or areas not ascending, aligned, nonempty, apart without touching and ending at or below T":
-- what demand 3 says of the areas of a build. In late_theorems the same is said of each slot's two numbers (Refusals.TableStands)
pub record GoodTable (p n : ℕ) (l : List ℕ) : Type 0 where
  pub room : n ≤ slots_in l
  pub shape : Shape p (table_in n l)

-- the test for it (TableLaws.good_exactly): an area that starts at a or above, nonempty, of whole pages, up to T
unfoldable pub good_area : ℕ → ℕ → Interval → Bool
good_area p a r =
    leb a r.lo && (ltb r.lo r.hi && (eqb (r.lo % p) 0 && (eqb (r.hi % p) 0 && leb r.hi (top p))))

-- each starts past the end of the one before
unfoldable pub good_from : ℕ → ℕ → List Interval → Bool
good_from p a [] = true
good_from p a (r ∷ l) = good_area p a r && good_from p (suc r.hi) l

unfoldable pub good_table : ℕ → ℕ → List ℕ → Bool
good_table p n l = leb n (slots_in l) && good_from p 0 (table_in n l)

-- ── Other areas in it ──
-- the numbers when these areas take the place of the n that were there: the used slots; "Slots that fall out of use become zero"; and all
-- past both counts as it was
unfoldable pub table_with : List Interval → ℕ → List ℕ → List ℕ
table_with areas n l =
    flat areas ++ (replicate (n + n - (length areas + length areas)) 0 ++ drop (max (n + n) (length areas + length areas)) l)
