-- What it is for reading to agree with the tree.
use Rattle.std.specs.Prelude.{◌≡◌, ℕ, List, [], ◌∷◌, Option, Some, None}
use Rattle.words.specs.Bytes.{part_of}
use Rattle.fdt.specs.Tree.{Property, Nodes, none, node, fin, flat_k, lex_at}
use Rattle.fdt.specs.declared.Block.{Block}
use Rattle.nodes.specs.Nav.{name_at, first_at, next_at, prop_at, child_at}
use Rattle.nodes.specs.Order.{place_at, order, number_in}
use Rattle.nodes.specs.OnTree.{head_of, lookup_in, find_k}

-- the blocks b and n are written for this tree: a root with the empty name
abbrev pub WrittenFor : List ℕ → List ℕ → ℕ → List Property → Nodes → Type 0
WrittenFor b n root ps kids = lex_at b n 0 ≡ flat_k (node root [] ps kids none) (fin ∷ [])

-- the value that a lookup points to: the first property's of this name
abbrev pub value_in : List ℕ → Option Block → List ℕ
value_in b (Some v) = part_of b v.at v.len
value_in b None = []

-- reading at the place q of a node with this name, these properties, these children and these siblings after it
pub record ReadsAt (b n : List ℕ) (root : Nodes) (q : ℕ) (name : List ℕ) (ps : List Property) (kids rest : Nodes) : Type 0 where
  pub named : name_at b n q ≡ name
  pub first : first_at b n q ≡ head_of kids
  pub next : next_at b n q ≡ head_of rest
  pub property : (p : List ℕ) → prop_at b n q p ≡ lookup_in p ps
  pub child : (step : List ℕ) → child_at b n q step ≡ head_of (find_k step kids)
  pub place : place_at b n q ≡ number_in (order root []) q 0
