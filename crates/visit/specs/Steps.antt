-- The claims of a tree one after the other, as the code takes them: a cursor, and a step from it. specs/Script.antt says what is left to
-- claim from a cursor; StepLaws.script_start says that from the first one on these are the tree's claims.
use Rattle.std.specs.Prelude.{ℕ, ◌+◌, List, [], ◌∷◌, Bool, cond, eqb, Option, Some, None}
use Rattle.words.specs.Bytes.{part_of}
use Rattle.entry.specs.declared.BootloaderMemoryKind.TheVariants.{Device}
use Rattle.entry.specs.Kind.{number_of}
use Rattle.entry.specs.declared.Claim.{Claim}
use Rattle.entry.specs.Claim.{claim}
use Rattle.cells.specs.declared.CellCount.{CellCount}
use Rattle.cells.specs.declared.CellCount.TheVariants.{Absent}
use Rattle.cells.specs.declared.RegRow.{RegRow}
use Rattle.cells.specs.declared.RegRow.TheVariants.{NoReg, PastReg, RegAt}
use Rattle.cells.specs.Rows.{reg_of, ranges_of, reg_row}
use Rattle.fdt.specs.declared.Block.{Block}
use Rattle.reservations.specs.declared.Reservation.{Reservation}
use Rattle.reservations.specs.declared.Reservation.TheVariants.{Entry, End as BlockEnd, Past}
use Rattle.reservations.specs.Reservations.{entry_of}
use Rattle.nodes.specs.Nav.{inside, first_at, next_at, prop_at, child_at}
use Rattle.nodes.specs.Path.{path_at}
use Rattle.nodes.specs.Cells.{address_cells, size_cells, count_at}
use Rattle.subtree.specs.Names.{ranges_name, soc_name, reserved_memory_name}
use Rattle.subtree.specs.Subtree.{node_at, root_at, props_of}
use Rattle.reserved.specs.Reserved.{children_count}
use Rattle.stdout.specs.Stdout.{uart_of}
use Rattle.claims.specs.declared.Way.{Way}
use Rattle.claims.specs.declared.Way.TheVariants.{Reserve, Soc, Controllers}
use Rattle.claims.specs.Claims.{block_claim, claim_by, uart_claim, is_virt}
use Rattle.claims.specs.Values.{child_value}
use Rattle.visit.specs.declared.Stage.{Stage}
use Rattle.visit.specs.declared.Stage.TheVariants.{Entries, Children, Virt, Console, Over}
use Rattle.visit.specs.declared.Cursor.{Cursor}
use Rattle.visit.specs.declared.Step.{Step}
use Rattle.visit.specs.declared.Step.TheVariants.{Claims, On, End}

-- ── Cursors ──
abbrev pub no_part : Block
no_part = record { at = 0; len = 0 }

abbrev pub cursor_at : Stage → ℕ → Block → Option ℕ → CellCount → CellCount → CellCount → Block → Cursor
cursor_at stage row value next own parent length ranges =
    record {
      stage = stage;
      row = row;
      value = value;
      next = next;
      own = record { address = own; size = length };
      parent = parent;
      ranges = ranges;
    }

-- at the start of a stage that has no children
abbrev pub start_at : Stage → Cursor
start_at stage = cursor_at stage 0 no_part None Absent Absent Absent no_part

abbrev pub with_row : Cursor → ℕ → Cursor
with_row c row = cursor_at c.stage row c.value c.next c.own.address c.parent c.own.size c.ranges

abbrev pub next_row : Cursor → Cursor
next_row c = with_row c (c.row + 1)

abbrev pub part_by : Option Block → Block
part_by (Some v) = v
part_by None = no_part

-- ── Into a row of children ──

-- `/`
abbrev pub slash : List ℕ
slash = 47 ∷ []

abbrev pub where_here : Option Block → ℕ → Option ℕ
where_here (Some v) q = Some q
where_here None q = None

-- the node whose children claim by a rule, where they do
unfoldable pub parent_at : List ℕ → List ℕ → Way → Option ℕ
parent_at b n Reserve =
    inside None
    (λ r. inside None (λ q. cond (children_count (props_of (node_at b n r)) (props_of (node_at b n q))) (Some q) None) (child_at b n r reserved_memory_name))
    (path_at b n slash)
parent_at b n Soc =
    inside None (λ r. inside None (λ q. where_here (prop_at b n q ranges_name) q) (child_at b n r soc_name)) (path_at b n slash)
parent_at b n Controllers = path_at b n slash

-- the address cells of the root
unfoldable pub root_cells : List ℕ → List ℕ → CellCount
root_cells b n = inside Absent (λ r. count_at b n r address_cells) (path_at b n slash)

-- `ranges` is read for /soc's children alone
abbrev pub ranges_by : Way → Option Block → Block
ranges_by Reserve v = no_part
ranges_by Soc v = part_by v
ranges_by Controllers v = no_part

-- before the first child
unfoldable pub enter_at : List ℕ → List ℕ → Way → Cursor
enter_at b n way =
    inside (start_at (Children way))
    (λ q.
    cursor_at (Children way) 0 no_part (first_at b n q) (count_at b n q address_cells) (root_cells b n) (count_at b n q size_cells) (ranges_by way (prop_at b n q ranges_name)))
    (parent_at b n way)

-- ── A step ──
abbrev pub yields : Option Claim → Cursor → Step
yields None c = On c
yields (Some x) c = Claims x c

abbrev pub entry_step : List ℕ → List ℕ → Reservation → Cursor → Step
entry_step b n (Entry r) c = yields (block_claim r) (next_row c)
entry_step b n BlockEnd c = On (enter_at b n Reserve)
entry_step b n Past c = On (enter_at b n Reserve)

module _ (b n : List ℕ) (arm : Bool) where
  -- what comes after the children
  unfoldable pub after_at : Way → Cursor
  after_at Reserve = cond (is_virt arm (root_at b n)) (start_at Virt) (enter_at b n Soc)
  after_at Soc = start_at Console
  after_at Controllers = start_at Over

  -- to the next child, or on
  abbrev pub child_next : Way → Cursor → Option ℕ → Cursor
  child_next way c (Some q) =
      cursor_at (Children way) 0 (part_by (child_value b n way c.own.address c.own.size q)) (next_at b n q) c.own.address c.parent c.own.size c.ranges
  child_next way c None = after_at way

  abbrev pub row_step : Way → Cursor → RegRow → Step
  row_step way c (RegAt r) =
      yields (claim_by way (ranges_of c.own.address c.parent c.own.size (part_of b c.ranges.at c.ranges.len)) r) (next_row c)
  row_step way c PastReg = On (child_next way c c.next)
  row_step way c NoReg = On (child_next way c c.next)

  unfoldable pub child_step : Way → Cursor → Step
  child_step way c = row_step way c (reg_row (reg_of c.own.address c.own.size (part_of b c.value.at c.value.len)) c.row)

-- "0x08000000 size 0x08000000 and 0x10000000 size 0x30000000"
unfoldable pub virt_step : Cursor → Step
virt_step c =
    cond (eqb c.row 0)
    (Claims (claim 0x08000000 0x08000000 (number_of Device)) (next_row c))
    (Claims (claim 0x10000000 0x30000000 (number_of Device)) (start_at Over))

module _ (b n block : List ℕ) (arm : Bool) where
  abbrev pub stage_step : Stage → Cursor → Step
  stage_step Entries c = entry_step b n (entry_of block c.row) c
  stage_step (Children way) c = child_step b n arm way c
  stage_step Virt c = virt_step c
  stage_step Console c = yields (uart_claim (uart_of (root_at b n))) (enter_at b n Controllers)
  stage_step Over c = End

  unfoldable pub step_of : Cursor → Step
  step_of c = stage_step c.stage c
