-- A tree without places, its parts, and the tree with places that is read back.
use Rattle.std.specs.Prelude.{ℕ, suc, ◌+◌, max, List, [], ◌∷◌}
use Rattle.fdt.specs.Tree.{Property, Nodes, none, node}
use Rattle.flattened.specs.Parts.{Part, begins, property, ends, part_size}

-- a property without its place
pub record NamedValue : Type 0 where
  pub name : List ℕ
  pub value : List ℕ

-- nodes in a row, as in Nodes, each with its name, its properties and its children, and then the siblings after it
pub data Forest : Type 0 where
  bare : Forest
  tree : (name : List ℕ) (props : List NamedValue) (kids rest : Forest) → Forest

-- their parts, and then r
abbrev pub prop_parts : List NamedValue → List Part → List Part
prop_parts [] r = r
prop_parts (p ∷ ps) r = property p.name p.value ∷ prop_parts ps r

abbrev pub forest_parts : Forest → List Part → List Part
forest_parts bare r = r
forest_parts (tree name ps kids rest) r = begins name ∷ prop_parts ps (forest_parts kids (ends ∷ forest_parts rest r))

-- the parts of a whole tree: one root, whose name is empty
abbrev pub tree_parts : List NamedValue → Forest → List Part
tree_parts ps kids = forest_parts (tree [] ps kids bare) []

-- how many nodes these are, with all below them, and how many levels
abbrev pub nodes_of : Forest → ℕ
nodes_of bare = 0
nodes_of (tree name ps kids rest) = suc (nodes_of kids + nodes_of rest)

abbrev pub levels_of : Forest → ℕ
levels_of bare = 0
levels_of (tree name ps kids rest) = max (suc (levels_of kids)) (levels_of rest)

-- ── Without the places: what a tree that is read says ──
unfoldable pub bare_p : List Property → List NamedValue
bare_p [] = []
bare_p (p ∷ ps) = record { name = p.name; value = p.value } ∷ bare_p ps

unfoldable pub bare_k : Nodes → Forest
bare_k none = bare
bare_k (node at name ps kids rest) = tree name (bare_p ps) (bare_k kids) (bare_k rest)

-- ── With the places, the first of them p ──
unfoldable pub props_size : List NamedValue → ℕ
props_size [] = 0
props_size (q ∷ qs) = part_size (property q.name q.value) + props_size qs

unfoldable pub forest_size : Forest → ℕ
forest_size bare = 0
forest_size (tree name ps kids rest) = part_size (begins name) + props_size ps + forest_size kids + 4 + forest_size rest

unfoldable pub placed_p : ℕ → List NamedValue → List Property
placed_p p [] = []
placed_p p (q ∷ qs) = record { at = p; name = q.name; value = q.value } ∷ placed_p (p + part_size (property q.name q.value)) qs

unfoldable pub placed_k : ℕ → Forest → Nodes
placed_k p bare = none
placed_k p (tree name ps kids rest) =
    node p name (placed_p (p + part_size (begins name)) ps) (placed_k (p + part_size (begins name) + props_size ps) kids)
    (placed_k (p + part_size (begins name) + props_size ps + forest_size kids + 4) rest)
