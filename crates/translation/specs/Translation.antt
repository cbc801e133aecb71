-- Translation: document 01, "Translation: through each ancestor below the root, nearest first."
use Rattle.std.specs.Prelude.{ℕ, ◌+◌, ◌-◌, ◌^◌, List, [], ◌∷◌, false, cond, eqb, leb, Option, Some, None}
use Rattle.cells.specs.declared.CellCount.{CellCount}
use Rattle.cells.specs.declared.Region.{Region}
use Rattle.cells.specs.Rows.{Table, unreadable, rows, reg_of, ranges_of}
use Rattle.fdt.specs.Tree.{Property, Nodes, none, node}
use Rattle.nodes.specs.Cells.{address_cells, size_cells}
use Rattle.nodes.specs.OnTree.{kids_of}
use Rattle.nodes.specs.Order.{order, number_in}
use Rattle.reading.specs.Values.{value_of, count_of}
use Rattle.windows.specs.declared.Window.{Window}
use Rattle.windows.specs.declared.Window.TheVariants.{To, Nowhere, Unreadable}
use Rattle.windows.specs.Window.{reach, window}
use Rattle.subtree.specs.Names.{reg_name, ranges_name}
use Rattle.subtree.specs.Subtree.{props_of}
use Rattle.translation.specs.declared.Sought.{Sought}
use Rattle.translation.specs.declared.Sought.TheVariants.{Given, FirstReg}
use Rattle.translation.specs.declared.Translated.{Translated}

-- the counts of cells that a node with these properties states for its children
unfoldable pub address_of : List Property → CellCount
address_of ps = count_of (value_of address_cells ps)

unfoldable pub size_of : List Property → CellCount
size_of ps = count_of (value_of size_cells ps)

-- ── The target and its ancestors ──
abbrev pub or_else : List (List Property) → List (List Property) → List (List Property)
or_else [] l = l
or_else (x ∷ xs) l = x ∷ xs

-- the properties of the first node at q among these in document order, and then those of its ancestors, nearest first, with `above` last;
-- nothing where none is there
unfoldable pub trail : ℕ → Nodes → List (List Property) → List (List Property)
trail q none above = []
trail q (node p nm ps kids rest) above = cond (eqb p q) (ps ∷ above) (or_else (trail q kids (ps ∷ above)) (trail q rest above))

-- ── The climb ──

-- a bus with these properties, below a parent with such address cells. "No `ranges` or an unreadable one: none. Empty: unchanged. Else the
-- first range .."
abbrev pub over_bus : Option (List ℕ) → CellCount → CellCount → CellCount → ℕ → ℕ → Window
over_bus None own up length address size = Nowhere
over_bus (Some v) own up length address size = window false (ranges_of own up length v) address size

unfoldable pub over : List Property → CellCount → ℕ → ℕ → Window
over bus up address size = over_bus (value_of ranges_name bus) (address_of bus) up (size_of bus) address size

abbrev pub onward : Window → (ℕ → Window) → Window
onward (To x) k = k x
onward Nowhere k = Nowhere
onward Unreadable k = Nowhere

-- "through each ancestor below the root, nearest first": the last of these is the root, which translates nothing
unfoldable pub climb : List (List Property) → ℕ → ℕ → Window
climb [] address size = To address
climb (root ∷ []) address size = To address
climb (bus ∷ up ∷ above) address size = onward (over bus (address_of up) address size) (λ x. climb (up ∷ above) x size)

-- "So must the final address plus max(size,1) - 1, also where no ancestor stands between."
unfoldable pub arrived : ℕ → Window → Window
arrived size (To x) = cond (leb (x + reach size) (2 ^ 64 - 1)) (To x) Nowhere
arrived size Nowhere = Nowhere
arrived size Unreadable = Nowhere

-- a region of a node with these ancestors
unfoldable pub climbed : List (List Property) → ℕ → ℕ → Window
climbed above address size = arrived size (climb above address size)

-- ── The whole answer ──
pub data Start : Type 0 where
  from : Region → Start
  no_start : Start

abbrev pub first_row : Table Region → Start
first_row unreadable = no_start
first_row (rows []) = no_start
first_row (rows (r ∷ l)) = from r

-- what is translated: the region that is given, or the target's "first `reg` entry". "`reg` uses the parent's cells"
abbrev pub start_of : Sought → CellCount → CellCount → Option (List ℕ) → Start
start_of (Given r) a c v = from r
start_of FirstReg a c None = no_start
start_of FirstReg a c (Some v) = first_row (reg_of a c v)

-- "A found address comes with the number of nodes tried"
abbrev pub reached : Region → ℕ → Translated
reached r k = record { region = r; tried = k }

abbrev pub answer : Window → ℕ → ℕ → Option Translated
answer (To x) size k = Some (reached (record { address = x; size = size }) k)
answer Nowhere size k = None
answer Unreadable size k = None

abbrev pub from_start : Start → List (List Property) → ℕ → Option Translated
from_start no_start above k = None
from_start (from r) above k = answer (climbed above r.address r.size) r.size k

abbrev pub parent_of : List (List Property) → List Property
parent_of [] = []
parent_of (ps ∷ above) = ps

-- "A target that is no node below the root: none."
abbrev pub along_trail : List (List Property) → Sought → ℕ → Option Translated
along_trail [] s k = None
along_trail (own ∷ above) s k = from_start (start_of s (address_of (parent_of above)) (size_of (parent_of above)) (value_of reg_name own)) above k

-- "the target's place in document order, the root's first child being 1"
unfoldable pub translated : Nodes → ℕ → Sought → Option Translated
translated t target s = along_trail (trail target (kids_of t) (props_of t ∷ [])) s (number_in (order (kids_of t) []) target 1)

-- the number that a caller gets. "A failure gives 0."
abbrev pub tried_number : Option Translated → ℕ
tried_number (Some t) = t.tried
tried_number None = 0
