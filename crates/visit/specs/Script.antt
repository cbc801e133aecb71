-- What is left to claim from a cursor on: for each step to come, its claim, or nothing. On the tree.
use Rattle.std.specs.Prelude.{◌≡◌, ℕ, ◌-◌, ◌/◌, List, [], ◌∷◌, ◌++◌, Bool, cond, length, drop, eqb, Option, Some, None}
use Rattle.words.specs.Bytes.{part_of}
use Rattle.entry.specs.declared.BootloaderMemoryKind.TheVariants.{Device}
use Rattle.entry.specs.Kind.{number_of}
use Rattle.entry.specs.declared.Claim.{Claim}
use Rattle.entry.specs.Claim.{claim}
use Rattle.cells.specs.declared.CellCount.{CellCount}
use Rattle.cells.specs.declared.Region.{Region}
use Rattle.cells.specs.declared.Range.{Range}
use Rattle.cells.specs.Rows.{Table, rows, reg_of, ranges_of}
use Rattle.reservations.specs.Reservations.{entries_from}
use Rattle.fdt.specs.Tree.{Nodes, none, node}
use Rattle.nodes.specs.OnTree.{kids_of}
use Rattle.reading.specs.Values.{value_of}
use Rattle.subtree.specs.Names.{ranges_name, soc_name, reserved_memory_name}
use Rattle.subtree.specs.Subtree.{at, root_at, props_of, under_root, Stands}
use Rattle.translation.specs.Translation.{address_of, size_of}
use Rattle.reserved.specs.Reserved.{children_count}
use Rattle.stdout.specs.Stdout.{uart_of}
use Rattle.claims.specs.declared.Way.{Way}
use Rattle.claims.specs.declared.Way.TheVariants.{Reserve, Soc, Controllers}
use Rattle.claims.specs.Claims.{and_then, block_claim, entries, child_regions, claim_by, uart_claim, is_virt}
use Rattle.visit.specs.declared.Stage.{Stage}
use Rattle.visit.specs.declared.Stage.TheVariants.{Entries, Children, Virt, Console, Over}
use Rattle.visit.specs.declared.Cursor.{Cursor}
use Rattle.visit.specs.declared.Step.{Step}
use Rattle.visit.specs.declared.Step.TheVariants.{Claims, On, End}

-- the claims among the steps
unfoldable pub claims_in : List (Option Claim) → List Claim
claims_in [] = []
claims_in (x ∷ l) = and_then x (claims_in l)

unfoldable pub rows_script : Way → Table Range → List Region → List (Option Claim)
rows_script way t [] = []
rows_script way t (r ∷ l) = claim_by way t r ∷ rows_script way t l

unfoldable pub kids_script : Way → Table Range → CellCount → CellCount → Nodes → List (Option Claim)
kids_script way t a c none = []
kids_script way t a c (node q nm ps kids rest) = None ∷ (rows_script way t (child_regions way a c ps) ++ kids_script way t a c rest)

unfoldable pub block_script : List Region → List (Option Claim)
block_script [] = []
block_script (r ∷ l) = block_claim r ∷ block_script l

abbrev pub soc_script : Nodes → Nodes → Option (List ℕ) → List (Option Claim)
soc_script t s None = []
soc_script t s (Some v) =
    kids_script Soc (ranges_of (address_of (props_of s)) (address_of (props_of t)) (size_of (props_of s)) v) (address_of (props_of s)) (size_of (props_of s)) (kids_of s)

-- the children of a rule, of the whole tree
unfoldable pub way_script : Nodes → Way → List (Option Claim)
way_script t Reserve =
    cond (children_count (props_of t) (props_of (under_root reserved_memory_name t)))
    (kids_script Reserve (rows []) (address_of (props_of (under_root reserved_memory_name t))) (size_of (props_of (under_root reserved_memory_name t))) (kids_of (under_root reserved_memory_name t)))
    []
way_script t Soc = soc_script t (under_root soc_name t) (value_of ranges_name (props_of (under_root soc_name t)))
way_script t Controllers = kids_script Controllers (rows []) (address_of (props_of t)) (size_of (props_of t)) (kids_of t)

-- the stages from one on; each row of children is left by a step
unfoldable pub controllers_on : Nodes → List (Option Claim)
controllers_on t = way_script t Controllers ++ (None ∷ [])

unfoldable pub console_on : Nodes → List (Option Claim)
console_on t = uart_claim (uart_of t) ∷ controllers_on t

unfoldable pub soc_on : Nodes → List (Option Claim)
soc_on t = way_script t Soc ++ (None ∷ console_on t)

unfoldable pub virt_on : ℕ → List (Option Claim)
virt_on row =
    cond (eqb row 0)
    (Some (claim 0x08000000 0x08000000 (number_of Device)) ∷ Some (claim 0x10000000 0x30000000 (number_of Device)) ∷ [])
    (Some (claim 0x10000000 0x30000000 (number_of Device)) ∷ [])

unfoldable pub devices_on : Bool → Nodes → List (Option Claim)
devices_on arm t = cond (is_virt arm t) (virt_on 0) (soc_on t)

unfoldable pub reserved_on : Bool → Nodes → List (Option Claim)
reserved_on arm t = way_script t Reserve ++ (None ∷ devices_on arm t)

-- what comes after the children of a rule
unfoldable pub after_on : Bool → Nodes → Way → List (Option Claim)
after_on arm t Reserve = devices_on arm t
after_on arm t Soc = console_on t
after_on arm t Controllers = []

module _ (b n block : List ℕ) (arm : Bool) where
  abbrev pub stage_script : Stage → Cursor → List (Option Claim)
  stage_script Entries c = block_script (entries_from (length block / 16 - c.row) block c.row) ++ (None ∷ reserved_on arm (root_at b n))
  stage_script (Children way) c =
      rows_script way (ranges_of c.own.address c.parent c.own.size (part_of b c.ranges.at c.ranges.len))
      (drop c.row (entries (reg_of c.own.address c.own.size (part_of b c.value.at c.value.len))))
      ++ (kids_script way (ranges_of c.own.address c.parent c.own.size (part_of b c.ranges.at c.ranges.len)) c.own.address c.own.size (at b n c.next)
      ++ (None ∷ after_on arm (root_at b n) way))
  stage_script Virt c = virt_on c.row
  stage_script Console c = console_on (root_at b n)
  stage_script Over c = []

  unfoldable pub script : Cursor → List (Option Claim)
  script c = stage_script c.stage c

  -- what a step does to what is left
  abbrev pub Follows : Cursor → Step → Type 0
  Follows c (Claims x d) = (script c ≡ Some x ∷ script d) × Stands b n d.next
  Follows c (On d) = (script c ≡ None ∷ script d) × Stands b n d.next
  Follows c End = script c ≡ []
