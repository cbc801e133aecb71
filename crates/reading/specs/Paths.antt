-- Paths on the tree: "`/` alone is the root; any other empty step finds nothing". A path begins with `/`.
use Rattle.std.specs.Prelude.{ℕ, cond, List, length, get_or, eqb, Option, None}
use Rattle.fdt.specs.Tree.{Property, Nodes}
use Rattle.nodes.specs.Path.{steps_from}
use Rattle.nodes.specs.OnTree.{Among, head_of, go_k}

-- where the path leads in this tree, from its root on
unfoldable pub path_in : Nodes → List ℕ → Option ℕ
path_in t path =
    cond (eqb (length path) 0) None
    (cond (eqb (get_or path 0 0) 47)
    (cond (eqb (length path) 1) (head_of t) (go_k t (steps_from (length path) path 1)))
    None)

-- one of these nodes, or of those below them, stands at q
pub record NodeIn (t : Nodes) (q : ℕ) : Type 0 where
  pub name : List ℕ
  pub properties : List Property
  pub kids : Nodes
  pub rest : Nodes
  pub among : Among q name properties kids rest t
