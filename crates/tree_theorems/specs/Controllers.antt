-- The interrupt controllers' claims as document 01 has them: "then the root's children with `interrupt-controller`, translated." Each entry
-- of a child's `reg` goes through translation itself, from the child's own place in the tree.
use Rattle.std.specs.Prelude.{ℕ, cond, List, [], ◌∷◌, ◌++◌, Option, Some, None}
use Rattle.entry.specs.declared.BootloaderMemoryKind.TheVariants.{Device}
use Rattle.entry.specs.Kind.{number_of}
use Rattle.entry.specs.declared.Claim.{Claim}
use Rattle.entry.specs.Claim.{claim}
use Rattle.cells.specs.declared.Region.{Region}
use Rattle.fdt.specs.Tree.{Nodes, none, node}
use Rattle.nodes.specs.OnTree.{kids_of}
use Rattle.reading.specs.Values.{value_of}
use Rattle.subtree.specs.Names.{reg_name, interrupt_controller_name}
use Rattle.subtree.specs.Subtree.{props_of}
use Rattle.translation.specs.declared.Sought.TheVariants.{Given}
use Rattle.translation.specs.declared.Translated.{Translated}
use Rattle.translation.specs.Translation.{address_of, size_of, translated}
use Rattle.stdout.specs.Stdout.{is_there}
use Rattle.claims.specs.Claims.{and_then, entries_in}

-- a Device at the translated address; nothing where there is none
abbrev pub device_at : Option Translated → Option Claim
device_at (Some t) = Some (claim t.region.address t.region.size (number_of Device))
device_at None = None

module _ (tree : Nodes) where
  -- these regions of the node at q, one after the other
  unfoldable pub regions_translated : ℕ → List Region → List Claim
  regions_translated q [] = []
  regions_translated q (r ∷ l) = and_then (device_at (translated tree q (Given r))) (regions_translated q l)

  -- those of the nodes in this row that have `interrupt-controller`: the entries of `reg`, by the root's cells. "An unreadable `reg` here gives
  -- no claim."
  unfoldable pub row_translated : Nodes → List Claim
  row_translated none = []
  row_translated (node q nm ps kids rest) =
      cond (is_there (value_of interrupt_controller_name ps))
      (regions_translated q (entries_in (address_of (props_of tree)) (size_of (props_of tree)) (value_of reg_name ps)))
      []
      ++ row_translated rest

  -- "the root's children"
  abbrev pub controllers_translated : List Claim
  controllers_translated = row_translated (kids_of tree)
