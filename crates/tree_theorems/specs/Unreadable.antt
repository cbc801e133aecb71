-- The rows 7 and 8 of document 01, "Numbers a caller gets back", on a tree: each in its own words, and with no test of the code's.
use Rattle.std.specs.Prelude.{◌≡◌, ◌⊎◌, ℕ, ◌+◌, ◌%◌, Bool, true, List, [], ◌∷◌, ◌++◌, length, Some, None}
use Rattle.words.specs.Bytes.{word}
use Rattle.cells.specs.declared.Region.{Region}
use Rattle.cells.specs.Count.{address_width, size_width, Unfit}
use Rattle.cells.specs.Rows.{rows, reg_of}
use Rattle.fdt.specs.Tree.{Property, Nodes}
use Rattle.nodes.specs.Cells.{address_cells, size_cells}
use Rattle.nodes.specs.OnTree.{kids_of}
use Rattle.reading.specs.Values.{value_of}
use Rattle.subtree.specs.Names.{reg_name, ranges_name, status_name, okay, model_name, dummy_virt, soc_name, reserved_memory_name}
use Rattle.subtree.specs.Subtree.{props_of, under_root}
use Rattle.text.specs.Strings.{string_in}
use Rattle.translation.specs.Translation.{address_of, size_of}
use Rattle.tree_theorems.specs.Children.{Child}

-- a node with these properties states k as a count of cells, "in 4 bytes"
pub record States (name : List ℕ) (ps : List Property) (k : ℕ) : Type 0 where
  pub value : List ℕ
  pub has : value_of name ps ≡ Some value
  pub long : length value ≡ 4
  pub says : word value 0 ≡ k

-- "Children count only if it and the root both state both cell counts in 4 bytes each, they are equal, and it has an empty `ranges`."
pub record ChildrenCount (root ps : List Property) : Type 0 where
  pub address : (k : ℕ) × States address_cells root k × States address_cells ps k
  pub size : (k : ℕ) × States size_cells root k × States size_cells ps k
  pub ranges : value_of ranges_name ps ≡ Some []

-- "A child counts if `status` is absent or `okay` with its zero byte."
abbrev pub Counts : List Property → Type 0
Counts ps = (value_of status_name ps ≡ None) ⊎ (value_of status_name ps ≡ Some okay)

-- "A nonempty `reg` .. is unreadable if a cell count is not 1 or 2, a governing cell property is not 4 bytes, or bytes are left over."
-- "`reg` uses the parent's cells"
pub record UnreadableReg (parent ps : List Property) : Type 0 where
  pub value : List ℕ
  pub has : value_of reg_name ps ≡ Some value
  pub nonempty : length value ≡ 0 → ⊥
  pub why : Unfit (address_of parent)
      ⊎ (Unfit (size_of parent)
      ⊎ (length value % (address_width (address_of parent) + size_width (size_of parent)) ≡ 0 → ⊥))

-- the same of `ranges`, which "has child address and size by the bus's own cells, parent address by its parent's"
pub record UnreadableRanges (parent ps : List Property) : Type 0 where
  pub value : List ℕ
  pub has : value_of ranges_name ps ≡ Some value
  pub nonempty : length value ≡ 0 → ⊥
  pub why : Unfit (address_of ps)
      ⊎ (Unfit (address_of parent)
      ⊎ (Unfit (size_of ps)
      ⊎ (length value % (address_width (address_of ps) + address_width (address_of parent) + size_width (size_of ps)) ≡ 0 → ⊥)))

-- "each readable `reg` entry": a node has at least one
pub record ReadableEntry (parent ps : List Property) : Type 0 where
  pub value : List ℕ
  pub has : value_of reg_name ps ≡ Some value
  pub entry : Region
  pub others : List Region
  pub reads : reg_of (address_of parent) (size_of parent) value ≡ rows (entry ∷ others)

-- 7: "a counted reserved child's nonempty `reg` is unreadable"
pub record BadReserved (t : Nodes) : Type 0 where
  pub children : ChildrenCount (props_of t) (props_of (under_root reserved_memory_name t))
  pub place : ℕ
  pub own : List Property
  pub child : Child place own (kids_of (under_root reserved_memory_name t))
  pub counts : Counts own
  pub reg : UnreadableReg (props_of (under_root reserved_memory_name t)) own

-- "If the build is for 64-bit ARM and the root's `model` contains `linux,dummy-virt`": then no /soc is read
pub record Virtual (arm : Bool) (t : Nodes) : Type 0 where
  pub built : arm ≡ true
  pub model : List ℕ
  pub has : string_in (value_of model_name (props_of t)) ≡ Some model
  pub before : List ℕ
  pub after : List ℕ
  pub holds : model ≡ before ++ (dummy_virt ++ after)

-- 8: "a readable /soc entry meets an unreadable `ranges`"
pub record BadSoc (arm : Bool) (t : Nodes) : Type 0 where
  pub board : Virtual arm t → ⊥
  pub place : ℕ
  pub own : List Property
  pub child : Child place own (kids_of (under_root soc_name t))
  pub entry : ReadableEntry (props_of (under_root soc_name t)) own
  pub ranges : UnreadableRanges (props_of t) (props_of (under_root soc_name t))
