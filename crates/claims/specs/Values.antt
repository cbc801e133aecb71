-- Where the value stands whose entries a child claims. The exact dynamic case claims the one entry of `alloc-ranges`, so it is read as a
-- `reg` is. ClaimLaws.child_regions_lem says that its entries are the child's regions.
use Rattle.std.specs.Prelude.{ℕ, List, cond, Option, Some, None}
use Rattle.words.specs.Bytes.{part_of}
use Rattle.cells.specs.declared.CellCount.{CellCount}
use Rattle.cells.specs.declared.Region.{Region}
use Rattle.fdt.specs.declared.Block.{Block}
use Rattle.nodes.specs.Nav.{prop_at}
use Rattle.reading.specs.Values.{value_of}
use Rattle.subtree.specs.Names.{reg_name, size_name, alloc_ranges_name, interrupt_controller_name}
use Rattle.subtree.specs.Subtree.{node_at, props_of}
use Rattle.reserved.specs.Reserved.{available, exact_of}
use Rattle.stdout.specs.Stdout.{is_there}
use Rattle.claims.specs.declared.Way.{Way}
use Rattle.claims.specs.declared.Way.TheVariants.{Reserve, Soc, Controllers}

abbrev pub where_one : Option Region → Option Block → Option Block
where_one (Some r) v = v
where_one None v = None

abbrev pub dynamic_at : List ℕ → CellCount → CellCount → Option Block → Option Block → Option Block
dynamic_at b a c None w = None
dynamic_at b a c (Some v) None = None
dynamic_at b a c (Some v) (Some w) = where_one (exact_of a c (part_of b v.at v.len) (part_of b w.at w.len)) (Some w)

abbrev pub or_value : Option Block → Option Block → Option Block
or_value (Some p) v = Some p
or_value None v = v

unfoldable pub child_value : List ℕ → List ℕ → Way → CellCount → CellCount → ℕ → Option Block
child_value b n Reserve a c q =
    cond (available (props_of (node_at b n q)))
    (or_value (prop_at b n q reg_name) (dynamic_at b a c (prop_at b n q size_name) (prop_at b n q alloc_ranges_name)))
    None
child_value b n Soc a c q = prop_at b n q reg_name
child_value b n Controllers a c q = cond (is_there (value_of interrupt_controller_name (props_of (node_at b n q)))) (prop_at b n q reg_name) None
