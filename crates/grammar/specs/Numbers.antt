-- The rows 4, 6 and 5 of document 01, "Numbers a caller gets back", over a tree's bytes; and the trees that are opened.
use Rattle.std.specs.Prelude.{◌≡◌, ◌⊎◌, ℕ, ◌≤◌, ◌<◌, List, length}
use Rattle.fdt.specs.Header.{totalsize, GoodHeader, structure_of, strings_of}
use Rattle.grammar.specs.Written.{Written}
use Rattle.grammar.specs.Faults.{Faulty, Exceeds}

-- 4: "tree header broken". "A tree of 0 bytes is no tree."
abbrev pub HeaderBroken : List ℕ → Type 0
HeaderBroken s = (length s ≡ 0 → ⊥) × (GoodHeader s → ⊥)

-- 6: "tree over a size, level or node limit"; "byte size comes before the walk"
abbrev pub OverLimits : List ℕ → Type 0
OverLimits s = GoodHeader s × ((1048576 < totalsize s) ⊎ ((totalsize s ≤ 1048576) × Exceeds (structure_of s) (strings_of s)))

-- 5: "tree structure broken"
abbrev pub StructureBroken : List ℕ → Type 0
StructureBroken s = GoodHeader s × (totalsize s ≤ 1048576) × Faulty (structure_of s) (strings_of s)

-- none of them
abbrev pub Opens : List ℕ → Type 0
Opens s = GoodHeader s × (totalsize s ≤ 1048576) × Written (structure_of s) (strings_of s)
