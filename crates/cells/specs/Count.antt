-- How many cells a number takes: Devicetree Specification v0.4, section 2.3.5, and document 01, "The tree".
use Rattle.std.specs.Prelude.{◌≡◌, ◌⊎◌, ℕ, List, cond, length, eqb}
use Rattle.words.specs.Bytes.{word}
use Rattle.cells.specs.declared.CellCount.{CellCount}
use Rattle.cells.specs.declared.CellCount.TheVariants.{Stated, Absent, Faulty}

-- "Cells are 4-byte properties": what the value of `#address-cells` or `#size-cells` says
unfoldable pub stated_by : List ℕ → CellCount
stated_by v = cond (eqb (length v) 4) (Stated (word v 0)) Faulty

-- how many bytes so many cells take, where they are 1 or 2; else 0: such a number is not read
unfoldable pub cell_bytes : ℕ → ℕ
cell_bytes c = cond (eqb c 1) 4 (cond (eqb c 2) 8 0)

-- how many bytes a number takes by a count, where so many cells stand for one that is absent
abbrev pub width_by : CellCount → ℕ → ℕ
width_by (Stated c) missing = cell_bytes c
width_by Absent missing = cell_bytes missing
width_by Faulty missing = 0

-- "absent means 2 address cells, 1 size cell"
abbrev pub address_width : CellCount → ℕ
address_width c = width_by c 2

abbrev pub size_width : CellCount → ℕ
size_width c = width_by c 1

-- a count by which no number is read: "a cell count is not 1 or 2, a governing cell property is not 4 bytes"
abbrev pub Unfit : CellCount → Type 0
Unfit c = (c ≡ Faulty) ⊎ ((k : ℕ) × (c ≡ Stated k) × (k ≡ 1 → ⊥) × (k ≡ 2 → ⊥))
