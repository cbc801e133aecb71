-- What an edit promises, for any numbers that a caller lends: what comes of going through the areas once. Of areas that ascend that is the
-- areas less the range, Less.less (CutLaws.cut_less).
use Rattle.std.specs.Prelude.{List, [], ◌∷◌, ◌++◌, Bool, cond, not, ◌&&◌, ℕ, suc, leb, ltb, length, take, drop}
use Rattle.areas.specs.declared.Interval.{Interval}
use Rattle.areas.specs.Interval.{interval}
use Rattle.areas.specs.Table.{slots_in, fits}
use Rattle.lent_table.specs.Table.{table_in, table_with}

-- ── The areas ──
-- how many areas at the front end at x or below
unfoldable pub lead : ℕ → List Interval → ℕ
lead x [] = 0
lead x (r ∷ l) = cond (leb r.hi x) (suc (lead x l)) 0

-- the first area, which ends past hi, from hi on
unfoldable pub front : ℕ → List Interval → List Interval
front hi [] = []
front hi (r ∷ l) = cond (leb hi r.lo) (r ∷ l) (interval hi r.hi ∷ l)

-- the areas without what lies below hi: those that end there are gone
unfoldable pub above : ℕ → List Interval → List Interval
above hi xs = front hi (drop (lead hi xs) xs)

-- the areas from the first on that ends past the range's start: it starts behind the range, or in it, or it ends in it, or it becomes two
unfoldable pub cut_here : Interval → List Interval → List Interval
cut_here c [] = []
cut_here c (r ∷ l) =
    cond (leb c.hi r.lo) (r ∷ l)
    (cond (leb c.lo r.lo) (above c.hi (r ∷ l))
    (cond (leb r.hi c.hi) (interval r.lo c.lo ∷ above c.hi l)
    (interval r.lo c.lo ∷ interval c.hi r.hi ∷ l)))

-- all before it stay
unfoldable pub cut_from : Interval → List Interval → List Interval
cut_from c xs = take (lead c.lo xs) xs ++ cut_here c (drop (lead c.lo xs) xs)

-- ── The calls ──
-- there is something to take away, and the n slots are there
unfoldable pub takes : Interval → ℕ → List ℕ → Bool
takes c n l = ltb c.lo c.hi && leb n (slots_in l)

-- crowded: no slot for each area that is left
unfoldable pub crowds : Interval → ℕ → List ℕ → Bool
crowds c n l = takes c n l && not (fits (cut_from c (table_in n l)) l)

-- the lent numbers, and how many slots of them are used
pub record Lent : Type 0 where
  pub count : ℕ
  pub numbers : List ℕ

abbrev pub lent : ℕ → List ℕ → Lent
lent n l = record { count = n; numbers = l }

-- edit: where nothing can be taken away, or there is no slot for each area that is left, all stays as it is
unfoldable pub edited : Interval → ℕ → List ℕ → Lent
edited c n l =
    cond (takes c n l && fits (cut_from c (table_in n l)) l)
    (lent (length (cut_from c (table_in n l))) (table_with (cut_from c (table_in n l)) n l))
    (lent n l)
