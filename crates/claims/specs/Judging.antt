-- What a tree is refused for beyond its form: document 01, "Numbers a caller gets back", 7 and 8.
use Rattle.numbers.specs.Number.{number_by}
use Rattle.std.specs.Prelude.{ℕ, List, [], ◌∷◌, Bool, true, false, cond, ◌&&◌, ◌||◌, Result, Ok, Err, Option, Some, None}
use Rattle.cells.specs.declared.CellCount.{CellCount}
use Rattle.cells.specs.declared.Region.{Region}
use Rattle.cells.specs.Rows.{Table, unreadable, rows, reg_of, ranges_of}
use Rattle.fdt.specs.Tree.{Property, Nodes, none, node}
use Rattle.nodes.specs.OnTree.{kids_of}
use Rattle.reading.specs.Values.{value_of}
use Rattle.subtree.specs.Names.{reg_name, ranges_name, soc_name, reserved_memory_name}
use Rattle.subtree.specs.Subtree.{props_of, under_root}
use Rattle.translation.specs.Translation.{address_of, size_of}
use Rattle.reserved.specs.Reserved.{available, children_count}
use Rattle.claims.specs.Claims.{is_virt}
use Rattle.claims.specs.declared.ValueFault.{ValueFault}
use Rattle.claims.specs.declared.ValueFault.TheVariants.{UnreadableReg, UnreadableRanges}

abbrev pub is_unreadable : {A : Type 0} → Table A → Bool
is_unreadable unreadable = true
is_unreadable (rows l) = false

abbrev pub has_entry : Table Region → Bool
has_entry unreadable = false
has_entry (rows []) = false
has_entry (rows (r ∷ l)) = true

abbrev pub in_value : {A : Type 0} → (List ℕ → A) → A → Option (List ℕ) → A
in_value f missing None = missing
in_value f missing (Some v) = f v

-- a child with these properties: "a counted reserved child's nonempty `reg` is unreadable", or, of /soc, it has "a readable /soc entry"
unfoldable pub child_is : Bool → CellCount → CellCount → List Property → Bool
child_is true a c ps = available ps && in_value (λ v. is_unreadable (reg_of a c v)) false (value_of reg_name ps)
child_is false a c ps = in_value (λ v. has_entry (reg_of a c v)) false (value_of reg_name ps)

-- some of these children is so
unfoldable pub some_kid : Bool → CellCount → CellCount → Nodes → Bool
some_kid reserved a c none = false
some_kid reserved a c (node q nm ps kids rest) = child_is reserved a c ps || some_kid reserved a c rest

-- 7: "a counted reserved child's nonempty `reg` is unreadable"
unfoldable pub bad_reg : Nodes → Bool
bad_reg t = go (under_root reserved_memory_name t)
  where
    go : Nodes → Bool
    go s = children_count (props_of t) (props_of s) && some_kid true (address_of (props_of s)) (size_of (props_of s)) (kids_of s)

-- 8: "a readable /soc entry meets an unreadable `ranges`"
unfoldable pub bad_ranges : Nodes → Bool
bad_ranges t = go (under_root soc_name t)
  where
    go : Nodes → Bool
    go s =
        in_value (λ v. is_unreadable (ranges_of (address_of (props_of s)) (address_of (props_of t)) (size_of (props_of s)) v)) false (value_of ranges_name (props_of s))
        && some_kid false (address_of (props_of s)) (size_of (props_of s)) (kids_of s)

-- 7 before 8; where the two fixed ranges are all that a tree claims of devices, no soc window is read
unfoldable pub judged_of : Bool → Nodes → Result Unit ValueFault
judged_of arm t = cond (bad_reg t) (Err UnreadableReg) (cond (is_virt arm t) (Ok tt) (cond (bad_ranges t) (Err UnreadableRanges) (Ok tt)))

-- "Numbers a caller gets back"
abbrev pub value_fault_number : ValueFault → ℕ
value_fault_number UnreadableReg = 7
value_fault_number UnreadableRanges = 8

abbrev pub judged_number : Result Unit ValueFault → ℕ
judged_number = number_by value_fault_number
