-- Document 01: "Where the strings block does not overlap the structure block, two trees that differ only in value bytes of properties other
-- than `#address-cells`, `#size-cells`, `ranges`, `reg`, `status`, `size`, `alloc-ranges`, `model`, `stdout-path` and those in /aliases
-- give equal claims or the same refusal."
use Rattle.std.specs.Prelude.{◌≡◌, false, List, [], ◌∷◌}
use Rattle.fdt.specs.Tree.{Property, Nodes}
use Rattle.grammar.specs.Veil.{Free}
use Rattle.nodes.specs.Cells.{address_cells, size_cells}
use Rattle.reading.specs.Veil.{Keeps}
use Rattle.subtree.specs.Names.{ranges_name, reg_name, status_name, size_name, alloc_ranges_name, model_name, stdout_path_name, aliases_name}
use Rattle.subtree.specs.Subtree.{props_of, under_root}

-- none of these properties is free
pub data AllKept (free : Free) : List Property → Type 0 where
  no_property : AllKept free []
  kept : {x : Property} {ps : List Property} → free x.at x.name ≡ false → AllKept free ps → AllKept free (x ∷ ps)

-- which properties are free to change: none of the named ones, and none in /aliases of this tree
pub record Unread (free : Free) (t : Nodes) : Type 0 where
  pub address_cell_count : Keeps free address_cells
  pub size_cell_count : Keeps free size_cells
  pub ranges : Keeps free ranges_name
  pub reg : Keeps free reg_name
  pub status : Keeps free status_name
  pub size : Keeps free size_name
  pub alloc_ranges : Keeps free alloc_ranges_name
  pub model : Keeps free model_name
  pub stdout_path : Keeps free stdout_path_name
  pub aliases : AllKept free (props_of (under_root aliases_name t))
