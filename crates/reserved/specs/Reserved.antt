-- Which children of /reserved-memory count, and the exact dynamic case: document 01, "/reserved-memory".
use Rattle.std.specs.Prelude.{ℕ, ◌+◌, ◌-◌, ◌^◌, List, [], ◌∷◌, Bool, true, false, cond, ◌&&◌, length, eqb, leb, ltb, Option, Some, None}
use Rattle.cells.specs.declared.CellCount.{CellCount}
use Rattle.cells.specs.declared.CellCount.TheVariants.{Stated, Absent, Faulty}
use Rattle.cells.specs.declared.Region.{Region}
use Rattle.cells.specs.Count.{size_width}
use Rattle.cells.specs.Rows.{Table, unreadable, rows, number_at, reg_of}
use Rattle.fdt.specs.Tree.{Property}
use Rattle.nodes.specs.Nav.{same_bytes}
use Rattle.nodes.specs.Cells.{address_cells, size_cells}
use Rattle.reading.specs.Values.{value_of, count_of}
use Rattle.subtree.specs.Names.{status_name, okay, ranges_name}

-- "A child counts if `status` is absent or `okay` with its zero byte."
abbrev pub available_by : Option (List ℕ) → Bool
available_by None = true
available_by (Some v) = same_bytes v okay

unfoldable pub available : List Property → Bool
available ps = available_by (value_of status_name ps)

-- both state the count, "in 4 bytes each", and "they are equal"
abbrev pub stated_alike : CellCount → CellCount → Bool
stated_alike (Stated x) (Stated y) = eqb x y
stated_alike (Stated x) Absent = false
stated_alike (Stated x) Faulty = false
stated_alike Absent d = false
stated_alike Faulty d = false

abbrev pub is_empty : Option (List ℕ) → Bool
is_empty None = false
is_empty (Some v) = eqb (length v) 0

-- "Children count only if it and the root both state both cell counts in 4 bytes each, they are equal, and it has an empty `ranges`."
unfoldable pub children_count : List Property → List Property → Bool
children_count root ps =
    stated_alike (count_of (value_of address_cells root)) (count_of (value_of address_cells ps))
    && (stated_alike (count_of (value_of size_cells root)) (count_of (value_of size_cells ps))
    && is_empty (value_of ranges_name ps))

-- "`alloc-ranges` is one entry of that same nonzero size, and the sum is below 2^64"
unfoldable pub exact_by : ℕ → Table Region → Option Region
exact_by size unreadable = None
exact_by size (rows []) = None
exact_by size (rows (r ∷ [])) =
    cond (eqb r.size size && (ltb 0 size && leb (r.address + size) (2 ^ 64 - 1))) (Some r) None
exact_by size (rows (r ∷ q ∷ l)) = None

-- "one claim, exactly if `size` has the length of its cells, cells are 1 or 2": by counts that are stated. An entry is readable only where
-- both counts are 1 or 2
unfoldable pub exact_of : CellCount → CellCount → List ℕ → List ℕ → Option Region
exact_of a (Stated c) size ranges =
    cond (eqb (length size) (size_width (Stated c))) (exact_by (number_at size (size_width (Stated c)) 0) (reg_of a (Stated c) ranges)) None
exact_of a Absent size ranges = None
exact_of a Faulty size ranges = None
