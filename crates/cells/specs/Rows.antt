-- The rows of `reg` and `ranges` in a property's value: Specification, sections 2.3.6 and 2.3.8, and document 01, "The tree".
use Rattle.std.specs.Prelude.{ℕ, zero, suc, ◌+◌, ◌/◌, ◌%◌, List, [], ◌∷◌, Bool, true, false, cond, ◌||◌, length, eqb}
use Rattle.words.specs.Bytes.{word, double}
use Rattle.cells.specs.declared.CellCount.{CellCount}
use Rattle.cells.specs.Count.{address_width, size_width}
use Rattle.cells.specs.declared.Region.{Region}
use Rattle.cells.specs.declared.Range.{Range}
use Rattle.cells.specs.declared.RegRow.{RegRow}
use Rattle.cells.specs.declared.RegRow.TheVariants.{NoReg, PastReg, RegAt}
use Rattle.cells.specs.declared.RangeRow.{RangeRow}
use Rattle.cells.specs.declared.RangeRow.TheVariants.{NoRange, PastRange, RangeAt}

-- the number in w bytes at a place: 4 or 8
abbrev pub number_at : List ℕ → ℕ → ℕ → ℕ
number_at v w at = cond (eqb w 4) (word v at) (double v at)

-- a value that cannot be read, or its rows: none in an empty value
pub data Table (A : Type 0) : Type 0 where
  unreadable : Table A
  rows : List A → Table A

-- `reg`: "an arbitrary number of pairs of address and length", in x and z bytes
abbrev pub region_at : List ℕ → ℕ → ℕ → ℕ → Region
region_at v x z at = record { address = number_at v x at; size = number_at v z (at + x) }

-- `ranges`: child address, parent address and length, in x, y and z bytes
abbrev pub range_at : List ℕ → ℕ → ℕ → ℕ → ℕ → Range
range_at v x y z at = record { child = number_at v x at; parent = number_at v y (at + x); size = number_at v z (at + x + y) }

-- k rows of w bytes each, from a place on
unfoldable pub rows_from : {A : Type 0} → (ℕ → A) → ℕ → ℕ → ℕ → List A
rows_from row w zero at = []
rows_from row w (suc k) at = row at ∷ rows_from row w k (at + w)

-- "A nonempty `reg` or `ranges` is unreadable if a cell count is not 1 or 2, a governing cell property is not 4 bytes, or bytes are
-- left over. Length 0 is never unreadable.": faulty says the first two
unfoldable pub table_of : {A : Type 0} → (ℕ → A) → Bool → ℕ → ℕ → Table A
table_of row faulty w n =
    cond (eqb n 0) (rows [])
    (cond (faulty || (eqb w 0 || not_whole)) unreadable (rows (rows_from row w (n / w) 0)))
  where
    not_whole : Bool
    not_whole = cond (eqb (n % w) 0) false true

-- "`reg` uses the parent's cells"
unfoldable pub reg_of : CellCount → CellCount → List ℕ → Table Region
reg_of a c v =
    table_of (region_at v (address_width a) (size_width c)) (eqb (address_width a) 0 || eqb (size_width c) 0) (address_width a + size_width c) (length v)

-- "`ranges` has child address and size by the bus's own cells, parent address by its parent's"
unfoldable pub ranges_of : CellCount → CellCount → CellCount → List ℕ → Table Range
ranges_of a p c v =
    table_of (range_at v (address_width a) (address_width p) (size_width c))
    (eqb (address_width a) 0 || (eqb (address_width p) 0 || eqb (size_width c) 0))
    (address_width a + address_width p + size_width c) (length v)

-- row i of a table
abbrev pub reg_row : Table Region → ℕ → RegRow
reg_row unreadable i = NoReg
reg_row (rows []) i = PastReg
reg_row (rows (r ∷ l)) zero = RegAt r
reg_row (rows (r ∷ l)) (suc i) = reg_row (rows l) i

abbrev pub range_row : Table Range → ℕ → RangeRow
range_row unreadable i = NoRange
range_row (rows []) i = PastRange
range_row (rows (r ∷ l)) zero = RangeAt r
range_row (rows (r ∷ l)) (suc i) = range_row (rows l) i
