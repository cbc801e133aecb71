-- The search that finds the target and climbs on its way back, node by node and children by children, as translate_from_subtree does.
-- SearchLaws.search_is: on every tree it gives what specs/Translation.antt says.
use Rattle.std.specs.Prelude.{ℕ, suc, ◌+◌, ◌*◌, ◌≤◌, List, cond, length, eqb, Option, None}
use Rattle.cells.specs.declared.CellCount.{CellCount}
use Rattle.fdt.specs.Tree.{Property, Nodes, none, node, count, height}
use Rattle.nodes.specs.OnTree.{kids_of}
use Rattle.windows.specs.declared.Window.{Window}
use Rattle.windows.specs.declared.Window.TheVariants.{To, Nowhere, Unreadable}
use Rattle.reading.specs.Values.{value_of}
use Rattle.subtree.specs.Names.{reg_name}
use Rattle.subtree.specs.Subtree.{at, Stands}
use Rattle.translation.specs.declared.Sought.{Sought}
use Rattle.translation.specs.declared.Search.{Search}
use Rattle.translation.specs.declared.Search.TheVariants.{Gone, Lost, On}
use Rattle.translation.specs.Translation.{address_of, size_of, over, arrived, answer, Start, from, no_start, start_of}
use Rattle.translation.specs.declared.Translated.{Translated}

-- the target is found, the n-th node tried
abbrev pub begun_at : Start → ℕ → Search
begun_at no_start n = Lost
begun_at (from r) n = Gone r.address r.size n

abbrev pub via_window : Window → ℕ → ℕ → Search
via_window (To x) size k = Gone x size k
via_window Nowhere size k = Lost
via_window Unreadable size k = Lost

-- what the children gave, through the node itself
abbrev pub up_through : (ℕ → ℕ → Window) → Search → Search
up_through w (Gone x size k) = via_window (w x size) size k
up_through w Lost = Lost
up_through w (On m) = On m

-- this, or what comes after it
abbrev pub or_on : Search → (ℕ → Search) → Search
or_on (Gone x size k) f = Gone x size k
or_on Lost f = Lost
or_on (On m) f = f m

module _ (target : ℕ) (s : Sought) where
  -- a node with these properties, below a parent with these cells, of which the children gave `inner`; n nodes were tried before it
  unfoldable pub tried : ℕ → List Property → CellCount → CellCount → ℕ → Search → Search
  tried q ps a c n inner = cond (eqb q target) (begun_at (start_of s a c (value_of reg_name ps)) (n + 1)) (up_through (λ x size. over ps a x size) inner)

  -- nodes in a row, below a parent with these cells; n nodes were tried before them
  unfoldable pub searched : Nodes → CellCount → CellCount → ℕ → Search
  searched none a c n = On n
  searched (node q nm ps kids rest) a c n =
      or_on (tried q ps a c n (searched kids (address_of ps) (size_of ps) (n + 1))) (λ m. searched rest a c m)

-- what the search gives in the end
unfoldable pub finished : Search → Option Translated
finished (Gone x size k) = answer (arrived size (To x)) size k
finished Lost = None
finished (On m) = None

-- what the steps of the search ask: a node stands where they look, and the count of the nodes to come does not run over
pub record Begins (b n : List ℕ) (f : Option ℕ) (tried : ℕ) : Type 0 where
  pub stands : Stands b n f
  pub room : tried + count (at b n f) ≤ length b + 1

-- ── How deep the calls go: "a node and its children call each other, depth falling"; "remaining levels .. fall" ──

-- what falls from call to call where the nodes of a row are tried one after the other: twice the levels of the row, and one
abbrev pub row_left : Nodes → ℕ
row_left row = 2 * height row + 1

-- and where the first of these nodes is tried, and then its children: twice its own levels, with no sibling counted
abbrev pub node_left : Nodes → ℕ
node_left t = 2 * suc (height (kids_of t))
