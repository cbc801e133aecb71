-- The claims of a tree, in the Rust's order: document 01, "Reservation block", "/reserved-memory" and "Devices". On the tree alone; the
-- reservation block's entries come beside it, since they stand in a block of their own.
use Rattle.std.specs.Prelude.{ℕ, ◌+◌, ◌^◌, List, [], ◌∷◌, ◌++◌, Bool, true, false, cond, ◌&&◌, ◌||◌, eqb, leb, Option, Some, None}
use Rattle.entry.specs.declared.BootloaderMemoryKind.TheVariants.{Reserved, Device}
use Rattle.entry.specs.Kind.{number_of}
use Rattle.entry.specs.declared.Claim.{Claim}
use Rattle.entry.specs.Claim.{claim}
use Rattle.cells.specs.declared.CellCount.{CellCount}
use Rattle.cells.specs.declared.Region.{Region}
use Rattle.cells.specs.declared.Range.{Range}
use Rattle.cells.specs.Rows.{Table, unreadable, rows, reg_of, ranges_of}
use Rattle.fdt.specs.Tree.{Property, Nodes, none, node}
use Rattle.nodes.specs.OnTree.{kids_of}
use Rattle.reading.specs.Values.{value_of}
use Rattle.windows.specs.declared.Window.{Window}
use Rattle.windows.specs.declared.Window.TheVariants.{To, Nowhere, Unreadable}
use Rattle.windows.specs.Window.{window}
use Rattle.subtree.specs.Names.{reg_name, ranges_name, size_name, alloc_ranges_name, model_name, interrupt_controller_name, soc_name, reserved_memory_name, dummy_virt}
use Rattle.subtree.specs.Subtree.{props_of, under_root}
use Rattle.text.specs.Strings.{string_in, contains}
use Rattle.translation.specs.Translation.{address_of, size_of, climbed}
use Rattle.reserved.specs.Reserved.{available, children_count, exact_of}
use Rattle.stdout.specs.Stdout.{is_there, uart_of}
use Rattle.claims.specs.declared.Way.{Way}
use Rattle.claims.specs.declared.Way.TheVariants.{Reserve, Soc, Controllers}

-- a claim that may be none, and then the others
abbrev pub and_then : Option Claim → List Claim → List Claim
and_then None l = l
and_then (Some c) l = c ∷ l

-- ── Reservation block ──

-- "Size 0 alone, or a sum of 2^64 or more, skips that entry."
unfoldable pub block_claim : Region → Option Claim
block_claim r =
    cond (eqb r.size 0 || leb (2 ^ 64) (r.address + r.size)) None (Some (claim r.address r.size (number_of Reserved)))

unfoldable pub block_claims : List Region → List Claim
block_claims [] = []
block_claims (r ∷ l) = and_then (block_claim r) (block_claims l)

-- ── Children, by the rule of their parent: /reserved-memory's, /soc's, or the root's ──

-- the entries of a value. "An unreadable `reg` here gives no claim."; in /reserved-memory it is refused before any claim
abbrev pub entries : Table Region → List Region
entries unreadable = []
entries (rows l) = l

abbrev pub entries_in : CellCount → CellCount → Option (List ℕ) → List Region
entries_in a c None = []
entries_in a c (Some v) = entries (reg_of a c v)

abbrev pub the_one : Option Region → List Region
the_one (Some r) = r ∷ []
the_one None = []

-- "Else with `size`: one claim, exactly if .. Otherwise nothing."
abbrev pub dynamic : CellCount → CellCount → Option (List ℕ) → Option (List ℕ) → List Region
dynamic a c None w = []
dynamic a c (Some v) None = []
dynamic a c (Some v) (Some w) = the_one (exact_of a c v w)

-- "With `reg` (even empty): its entries. Else .."
abbrev pub fixed_or : CellCount → CellCount → Option (List ℕ) → List Region → List Region
fixed_or a c (Some v) l = entries (reg_of a c v)
fixed_or a c None l = l

-- the regions of a child with these properties, whose parent has these cells
unfoldable pub child_regions : Way → CellCount → CellCount → List Property → List Region
child_regions Reserve a c ps =
    cond (available ps) (fixed_or a c (value_of reg_name ps) (dynamic a c (value_of size_name ps) (value_of alloc_ranges_name ps))) []
child_regions Soc a c ps = entries_in a c (value_of reg_name ps)
child_regions Controllers a c ps = cond (is_there (value_of interrupt_controller_name ps)) (entries_in a c (value_of reg_name ps)) []

-- where a region lies: a reservation where it says; a device of /soc by the soc window; the root's child translated, with no ancestor
-- between
unfoldable pub lands_by : Way → Table Range → ℕ → ℕ → Window
lands_by Reserve t address size = To address
lands_by Soc t address size = window true t address size
lands_by Controllers t address size = climbed ([] ∷ []) address size

abbrev pub kind_by : Way → ℕ
kind_by Reserve = number_of Reserved
kind_by Soc = number_of Device
kind_by Controllers = number_of Device

abbrev pub landed : Way → Window → ℕ → Option Claim
landed way (To x) size = Some (claim x size (kind_by way))
landed way Nowhere size = None
landed way Unreadable size = None

unfoldable pub claim_by : Way → Table Range → Region → Option Claim
claim_by way t r = landed way (lands_by way t r.address r.size) r.size

unfoldable pub claims_by : Way → Table Range → List Region → List Claim
claims_by way t [] = []
claims_by way t (r ∷ l) = and_then (claim_by way t r) (claims_by way t l)

-- children in a row
unfoldable pub kid_claims : Way → Table Range → CellCount → CellCount → Nodes → List Claim
kid_claims way t a c none = []
kid_claims way t a c (node q nm ps kids rest) = claims_by way t (child_regions way a c ps) ++ kid_claims way t a c rest

-- ── The parts ──

-- /reserved-memory
unfoldable pub reserved_claims : Nodes → List Claim
reserved_claims t = go (under_root reserved_memory_name t)
  where
    go : Nodes → List Claim
    go s =
        cond (children_count (props_of t) (props_of s)) (kid_claims Reserve (rows []) (address_of (props_of s)) (size_of (props_of s)) (kids_of s)) []

abbrev pub soc_by : Nodes → Nodes → Option (List ℕ) → List Claim
soc_by t s None = []
soc_by t s (Some v) =
    kid_claims Soc (ranges_of (address_of (props_of s)) (address_of (props_of t)) (size_of (props_of s)) v) (address_of (props_of s)) (size_of (props_of s)) (kids_of s)

-- "each readable `reg` entry of /soc's children through the soc window"; "no `ranges`, no claim"
unfoldable pub soc_claims : Nodes → List Claim
soc_claims t = soc_by t (under_root soc_name t) (value_of ranges_name (props_of (under_root soc_name t)))

abbrev pub uart_claim : Option Region → Option Claim
uart_claim (Some r) = Some (claim r.address r.size (number_of Device))
uart_claim None = None

-- "then the first `reg` entry of the stdout node, if it has `compatible`, translated"
unfoldable pub stdout_claims : Nodes → List Claim
stdout_claims t = and_then (uart_claim (uart_of t)) []

-- "then the root's children with `interrupt-controller`, translated"
unfoldable pub controller_claims : Nodes → List Claim
controller_claims t = kid_claims Controllers (rows []) (address_of (props_of t)) (size_of (props_of t)) (kids_of t)

abbrev pub holds_virt : Option (List ℕ) → Bool
holds_virt None = false
holds_virt (Some s) = contains s dummy_virt

-- "If the build is for 64-bit ARM and the root's `model` contains `linux,dummy-virt`"
unfoldable pub is_virt : Bool → Nodes → Bool
is_virt arm t = arm && holds_virt (string_in (value_of model_name (props_of t)))

-- "0x08000000 size 0x08000000 and 0x10000000 size 0x30000000, and nothing else"
abbrev pub virt_claims : List Claim
virt_claims = claim 0x08000000 0x08000000 (number_of Device) ∷ claim 0x10000000 0x30000000 (number_of Device) ∷ []

unfoldable pub device_claims : Bool → Nodes → List Claim
device_claims arm t = cond (is_virt arm t) virt_claims (soc_claims t ++ (stdout_claims t ++ controller_claims t))

-- "the tree's reservations, the tree's devices"
unfoldable pub claims_of : Bool → List Region → Nodes → List Claim
claims_of arm block t = block_claims block ++ (reserved_claims t ++ device_claims arm t)
