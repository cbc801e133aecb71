-- What it is for bytes to be read back as a tree with its reservations.
use Rattle.std.specs.Prelude.{◌≡◌, ℕ, suc, ◌+◌, ◌≤◌, List, [], Some, Ok}
use Rattle.cells.specs.declared.Region.{Region}
use Rattle.fdt.specs.Header.{structure_of, strings_of}
use Rattle.fdt.specs.Tree.{tree_of}
use Rattle.fdt.specs.Opening.{opened_of, blocks_of}
use Rattle.reservations.specs.Reservations.{block_in, entries_of}
use Rattle.reading.specs.Reads.{WrittenFor}
use Rattle.flattened.specs.Parts.{AllClean}
use Rattle.flattened.specs.Blob.{AllEntries, blob_size}
use Rattle.flattened.specs.Forest.{NamedValue, Forest, bare, tree, tree_parts, nodes_of, levels_of, bare_k, placed_p, placed_k, props_size}

-- "The reader's limits apply", names have no zero byte, and no reservation is (0, 0)
pub record Within (rs : List Region) (ps : List NamedValue) (kids : Forest) : Type 0 where
  pub levels : suc (levels_of kids) ≤ 32
  pub nodes : suc (nodes_of kids) ≤ 4096
  pub bytes : blob_size rs (tree_parts ps kids) ≤ 1048576
  pub clean : AllClean (tree_parts ps kids)
  pub entries : AllEntries rs

-- "the reader must accept it", and it is "read back with the same nodes, properties and reservations in the same order"
pub record ReadBack (s : List ℕ) (rs : List Region) (ps : List NamedValue) (kids : Forest) : Type 0 where
  pub opened : opened_of s ≡ Ok (Some (blocks_of s))
  pub same : bare_k (tree_of (structure_of s) (strings_of s)) ≡ tree [] ps kids bare
  pub entries : entries_of (block_in s (blocks_of s)) ≡ rs
  -- the same with each node's place; by it the theorems of the crate reading hold
  pub placed : WrittenFor (structure_of s) (strings_of s) 0 (placed_p 8 ps) (placed_k (8 + props_size ps) kids)
