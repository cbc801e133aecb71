-- The whole blob: "header version 17"; "Its reservations with their (0, 0), structure and strings follow the header without gaps, padding
-- and boot CPU 0, last compatible version 16".
use Rattle.std.specs.Prelude.{◌≡◌, ℕ, ◌+◌, ◌*◌, ◌<◌, List, [], ◌∷◌, ◌++◌, length}
use Rattle.cells.specs.declared.Region.{Region}
use Rattle.pen.specs.Numbers.{bytes4, bytes8}
use Rattle.flattened.specs.Forest.{NamedValue, Forest, tree_parts}
use Rattle.flattened.specs.Parts.{Part, parts_bytes, names_bytes, parts_size, names_size}

-- the entries, without (0, 0)
unfoldable pub entries_bytes : List Region → List ℕ
entries_bytes [] = []
entries_bytes (r ∷ rs) = bytes8 r.address ++ (bytes8 r.size ++ entries_bytes rs)

-- the memory reservation block: the entries, and then (0, 0)
unfoldable pub reservation_bytes : List Region → List ℕ
reservation_bytes rs = entries_bytes rs ++ (bytes8 0 ++ bytes8 0)

-- the header of a blob with m bytes of reservations, b of structure and n of strings
unfoldable pub header : ℕ → ℕ → ℕ → List ℕ
header m b n =
    bytes4 0xd00dfeed ++ (bytes4 (40 + m + b + n) ++ (bytes4 (40 + m) ++ (bytes4 (40 + m + b) ++ (bytes4 40
    ++ (bytes4 17 ++ (bytes4 16 ++ (bytes4 0 ++ (bytes4 n ++ bytes4 b))))))))

-- the structure block: the parts, and FDT_END
unfoldable pub structure_bytes : List Part → List ℕ
structure_bytes xs = parts_bytes 0 xs ++ bytes4 9

-- the three blocks
unfoldable pub blocks_bytes : List Region → List Part → List ℕ
blocks_bytes rs xs = reservation_bytes rs ++ (structure_bytes xs ++ names_bytes xs)

unfoldable pub blob : List Region → List Part → List ℕ
blob rs xs = header (16 * (length rs + 1)) (parts_size xs + 4) (names_size xs) ++ blocks_bytes rs xs

-- THE BLOB of a tree, of which the root's properties and children are given, with its reservations
abbrev pub blob_of : List Region → List NamedValue → Forest → List ℕ
blob_of rs ps kids = blob rs (tree_parts ps kids)

-- how long it is
unfoldable pub blob_size : List Region → List Part → ℕ
blob_size rs xs = 40 + 16 * (length rs + 1) + (parts_size xs + 4) + names_size xs

-- an entry that can stand in the block: two numbers of 64 bits, and not (0, 0)
pub record Entry (r : Region) : Type 0 where
  pub address : r.address < 18446744073709551616
  pub size : r.size < 18446744073709551616
  pub some : r.address ≡ 0 → r.size ≡ 0 → ⊥

abbrev pub AllEntries : List Region → Type 0
AllEntries [] = Unit {0}
AllEntries (r ∷ rs) = Entry r × AllEntries rs
