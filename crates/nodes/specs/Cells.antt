-- A node's own cell counts: Specification, section 2.3.5.
use Rattle.std.specs.Prelude.{ℕ, List, [], ◌∷◌, Option, Some, None}
use Rattle.words.specs.Bytes.{part_of}
use Rattle.cells.specs.declared.CellCount.{CellCount}
use Rattle.cells.specs.declared.CellCount.TheVariants.{Absent}
use Rattle.cells.specs.Count.{stated_by}
use Rattle.fdt.specs.declared.Block.{Block}
use Rattle.nodes.specs.Nav.{prop_at}

-- `#address-cells`
abbrev pub address_cells : List ℕ
address_cells = 35 ∷ 97 ∷ 100 ∷ 100 ∷ 114 ∷ 101 ∷ 115 ∷ 115 ∷ 45 ∷ 99 ∷ 101 ∷ 108 ∷ 108 ∷ 115 ∷ []

-- `#size-cells`
abbrev pub size_cells : List ℕ
size_cells = 35 ∷ 115 ∷ 105 ∷ 122 ∷ 101 ∷ 45 ∷ 99 ∷ 101 ∷ 108 ∷ 108 ∷ 115 ∷ []

abbrev pub count_in : List ℕ → Option Block → CellCount
count_in b (Some v) = stated_by (part_of b v.at v.len)
count_in b None = Absent

unfoldable pub count_at : List ℕ → List ℕ → ℕ → List ℕ → CellCount
count_at b n q name = count_in b (prop_at b n q name)
