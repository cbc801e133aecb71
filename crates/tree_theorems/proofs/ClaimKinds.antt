-- Every claim of a tree has a kind: Reserved or Device. So a run of its claims is refused for want of a slot or not at all. Assumes nothing.
use Rattle.std.specs.Prelude.{Option, Some, None}
use mathlib.Core.Path.{refl}
use mathlib.Core.Logic.{⊎_elim}
use mathlib.Core.Bool.{Bool, cond, ◌||◌}
use mathlib.Core.List.Memᴰ
use mathlib.Core.List.{List, [], ◌∷◌, ◌++◌}
use Prim.Native.Nat.{ℕ, ◌+◌, ◌^◌}
use lib.Dec.{eqb, leb}
use Rattle.words.proofs.BytesLaws.{cond_elim}
use Rattle.entry.specs.declared.BootloaderMemoryKind.{BootloaderMemoryKind}
use Rattle.entry.specs.declared.BootloaderMemoryKind.TheVariants.{Reserved, Device}
use Rattle.entry.specs.Kind.{number_of, IsKind}
use Rattle.entry.specs.declared.Claim.{Claim}
use Rattle.cells.specs.declared.CellCount.{CellCount}
use Rattle.cells.specs.declared.Region.{Region}
use Rattle.cells.specs.declared.Range.{Range}
use Rattle.cells.specs.Rows.{Table}
use Rattle.fdt.specs.Tree.{Nodes, none, node}
use Rattle.reading.specs.Values.{value_of}
use Rattle.windows.specs.declared.Window.{Window}
use Rattle.windows.specs.declared.Window.TheVariants.{To, Nowhere, Unreadable}
use Rattle.runs.specs.Refusals.{Kinds}
use Rattle.subtree.specs.Names.{ranges_name, soc_name, reserved_memory_name}
use Rattle.subtree.specs.Subtree.{props_of, under_root}
use Rattle.reserved.specs.Reserved.{children_count}
use Rattle.stdout.specs.Stdout.{uart_of}
use Rattle.claims.specs.declared.Way.{Way}
use Rattle.claims.specs.declared.Way.TheVariants.{Reserve, Soc, Controllers}
use Rattle.claims.specs.Claims.{and_then, block_claim, block_claims, kind_by, landed, claim_by, claims_by, lands_by, child_regions, kid_claims, reserved_claims, soc_by, soc_claims, uart_claim, stdout_claims, controller_claims, is_virt, device_claims, claims_of}

is_kind : (k : BootloaderMemoryKind) → IsKind (number_of k)
is_kind k = record { kind = k; number = refl }

-- ── Lists of claims that all have one ──
kinds_none : Kinds []
kinds_none c m = absurd (Memᴰ.not-nil m)

kinds_cons : (c : Claim) (cs : List Claim) → IsKind c.kind → Kinds cs → Kinds (c ∷ cs)
kinds_cons c cs i f d m = ⊎_elim (λ e. rw e i) (f d) (Memᴰ.cases_cons m)

kinds_append : (cs ds : List Claim) → Kinds cs → Kinds ds → Kinds (cs ++ ds)
kinds_append cs ds f g c m = ⊎_elim (f c) (g c) (Memᴰ.append_cases cs m)

-- by either way of a test
either : {A : Type 0} (P : A → Type 0) (t : Bool) (x y : A) → P x → P y → P (cond t x y)
either P t x y f g = cond_elim P t x y (λ e. f) (λ e. g)

-- a claim that may be none
abbrev KindIn : Option Claim → Type 0
KindIn None = Unit {0}
KindIn (Some c) = IsKind c.kind

kinds_then : (o : Option Claim) (cs : List Claim) → KindIn o → Kinds cs → Kinds (and_then o cs)
kinds_then None cs i f = f
kinds_then (Some c) cs i f = kinds_cons c cs i f

-- ── The parts ──
entry_known : (r : Region) → KindIn (block_claim r)
unfolding block_claim
entry_known r = either KindIn (eqb r.size 0 || leb (2 ^ 64) (r.address + r.size)) None (Some _) tt (is_kind Reserved)

block_known : (l : List Region) → Kinds (block_claims l)
unfolding block_claims
block_known [] = kinds_none
block_known (r ∷ l) = kinds_then (block_claim r) _ (entry_known r) (block_known l)

kind_known : (way : Way) → IsKind (kind_by way)
kind_known Reserve = is_kind Reserved
kind_known Soc = is_kind Device
kind_known Controllers = is_kind Device

landed_known : (way : Way) (w : Window) (size : ℕ) → KindIn (landed way w size)
landed_known way (To x) size = kind_known way
landed_known way Nowhere size = tt
landed_known way Unreadable size = tt

region_known : (way : Way) (t : Table Range) (r : Region) → KindIn (claim_by way t r)
unfolding claim_by
region_known way t r = landed_known way (lands_by way t r.address r.size) r.size

regions_known : (way : Way) (t : Table Range) (l : List Region) → Kinds (claims_by way t l)
unfolding claims_by
regions_known way t [] = kinds_none
regions_known way t (r ∷ l) = kinds_then (claim_by way t r) _ (region_known way t r) (regions_known way t l)

kids_known : (way : Way) (t : Table Range) (a c : CellCount) (ks : Nodes) → Kinds (kid_claims way t a c ks)
unfolding kid_claims
kids_known way t a c none = kinds_none
kids_known way t a c (node q nm ps kids rest) = kinds_append _ _ (regions_known way t (child_regions way a c ps)) (kids_known way t a c rest)

reserved_known : (t : Nodes) → Kinds (reserved_claims t)
unfolding reserved_claims
reserved_known t = either Kinds (children_count (props_of t) (props_of (under_root reserved_memory_name t))) _ _ (kids_known _ _ _ _ _) kinds_none

soc_by_known : (t s : Nodes) (v : Option (List ℕ)) → Kinds (soc_by t s v)
soc_by_known t s None = kinds_none
soc_by_known t s (Some v) = kids_known _ _ _ _ _

soc_known : (t : Nodes) → Kinds (soc_claims t)
unfolding soc_claims
soc_known t = soc_by_known t (under_root soc_name t) (value_of ranges_name (props_of (under_root soc_name t)))

uart_known : (u : Option Region) → KindIn (uart_claim u)
uart_known (Some r) = is_kind Device
uart_known None = tt

stdout_known : (t : Nodes) → Kinds (stdout_claims t)
unfolding stdout_claims
stdout_known t = kinds_then (uart_claim (uart_of t)) [] (uart_known (uart_of t)) kinds_none

controllers_known : (t : Nodes) → Kinds (controller_claims t)
unfolding controller_claims
controllers_known t = kids_known _ _ _ _ _

devices_known : (arm : Bool) (t : Nodes) → Kinds (device_claims arm t)
unfolding device_claims
devices_known arm t =
    either Kinds (is_virt arm t) _ _
    (kinds_cons _ _ (is_kind Device) (kinds_cons _ _ (is_kind Device) kinds_none))
    (kinds_append _ _ (soc_known t) (kinds_append _ _ (stdout_known t) (controllers_known t)))

-- THE CLAIMS OF A TREE
pub claims_known : (arm : Bool) (block : List Region) (t : Nodes) → Kinds (claims_of arm block t)
unfolding claims_of
claims_known arm block t = kinds_append _ _ (block_known block) (kinds_append _ _ (reserved_known t) (devices_known arm t))
