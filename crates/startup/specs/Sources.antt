-- The registrations of an order file: document 01, "Sources in order: the bootloader list .., the tree's reservations, the tree's devices,
-- then kernel as Kernel, and env, hwdesc, bootstrap, stack as IdentityMap."
use Rattle.std.specs.Prelude.{Bool, List, [], ◌∷◌, ◌++◌, ℕ, Option, Some, None, Result, Ok, Err}
use Rattle.words.specs.Bytes.{part_of}
use Rattle.cells.specs.declared.Region.{Region}
use Rattle.entry.specs.declared.BootloaderMemoryKind.{BootloaderMemoryKind}
use Rattle.entry.specs.declared.BootloaderMemoryKind.TheVariants.{Kernel, IdentityMap}
use Rattle.entry.specs.Kind.{number_of}
use Rattle.entry.specs.declared.Claim.{Claim}
use Rattle.entry.specs.Claim.{claim}
use Rattle.bootloader.specs.List.{claims}
use Rattle.fdt.specs.declared.Blocks.{Blocks}
use Rattle.fdt.specs.declared.TreeFault.{TreeFault}
use Rattle.fdt.specs.Header.{structure_of, strings_of}
use Rattle.fdt.specs.Tree.{tree_of}
use Rattle.fdt.specs.Opening.{opened_of}
use Rattle.reservations.specs.Reservations.{block_in, entries_of}
use Rattle.claims.specs.Claims.{claims_of}
use Rattle.order.specs.declared.Order.{Order}

-- the bytes of the list and of the tree
abbrev pub list_in : List ℕ → Order → List ℕ
list_in s o = part_of s o.list.at o.list.len

abbrev pub tree_in : List ℕ → Order → List ℕ
tree_in s o = part_of s o.tree.at o.tree.len

-- what a tree claims: its reservations, then its devices; what is no tree claims nothing
abbrev pub claims_by : List ℕ → Bool → Result (Option Blocks) TreeFault → List Claim
claims_by t arm (Ok (Some k)) = claims_of arm (entries_of (block_in t k)) (tree_of (structure_of t) (strings_of t))
claims_by t arm (Ok None) = []
claims_by t arm (Err f) = []

unfoldable pub tree_claims : List ℕ → Bool → List Claim
tree_claims t arm = claims_by t arm (opened_of t)

-- "then kernel as Kernel, and env, hwdesc, bootstrap, stack as IdentityMap"
abbrev pub pair_claim : BootloaderMemoryKind → Region → Claim
pair_claim kind pair = claim pair.address pair.size (number_of kind)

unfoldable pub pair_claims : Order → List Claim
pair_claims o =
    pair_claim Kernel o.kernel
    ∷ pair_claim IdentityMap o.env
    ∷ pair_claim IdentityMap o.hwdesc
    ∷ pair_claim IdentityMap o.bootstrap
    ∷ pair_claim IdentityMap o.stack
    ∷ []

-- all of them, in order
unfoldable pub registrations : List ℕ → Order → List Claim
registrations s o = claims (list_in s o) ++ (tree_claims (tree_in s o) o.arm ++ pair_claims o)
