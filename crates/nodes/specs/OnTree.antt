-- What the tree says: the same questions, asked of the tree as data.
use Rattle.std.specs.Prelude.{ℕ, ◌+◌, cond, List, [], ◌∷◌, length, Option, Some, None}
use Rattle.fdt.specs.Tree.{Property, Nodes, none, node}
use Rattle.fdt.specs.declared.Block.{Block}
use Rattle.fdt.specs.Opening.{block}
use Rattle.nodes.specs.Nav.{same_bytes, matches}

-- where the first of these nodes stands
abbrev pub head_of : Nodes → Option ℕ
head_of none = None
head_of (node q nm ps kids rest) = Some q

-- one of these nodes, or of those below them, with what it has: its place, name, properties, children, and the siblings after it
pub data Among : ℕ → List ℕ → List Property → Nodes → Nodes → Nodes → Type 0 where
  first : {q : ℕ} {nm : List ℕ} {ps : List Property} {kids rest : Nodes} → Among q nm ps kids rest (node q nm ps kids rest)
  below : {q p : ℕ} {nm om : List ℕ} {ps os : List Property} {kids rest ks rs : Nodes}
      → Among q nm ps kids rest ks → Among q nm ps kids rest (node p om os ks rs)
  after : {q p : ℕ} {nm om : List ℕ} {ps os : List Property} {kids rest ks rs : Nodes}
      → Among q nm ps kids rest rs → Among q nm ps kids rest (node p om os ks rs)

-- "of equal property names in a node the first counts"
unfoldable pub lookup_in : List ℕ → List Property → Option Block
lookup_in name [] = None
lookup_in name (q ∷ qs) = cond (same_bytes q.name name) (Some (block (q.at + 12) (length q.value))) (lookup_in name qs)

-- the first of these nodes that is the step's, with the siblings after it
unfoldable pub find_k : List ℕ → Nodes → Nodes
find_k step none = none
find_k step (node q nm ps kids rest) = cond (matches nm step) (node q nm ps kids rest) (find_k step rest)

abbrev pub kids_of : Nodes → Nodes
kids_of none = none
kids_of (node q nm ps kids rest) = kids

-- from a node on, a step at a time
unfoldable pub go_k : Nodes → List (List ℕ) → Option ℕ
go_k t [] = head_of t
go_k t ([] ∷ steps) = None
go_k none ((x ∷ step) ∷ steps) = None
go_k (node q nm ps kids rest) ((x ∷ step) ∷ steps) = go_k (find_k (x ∷ step) kids) steps
