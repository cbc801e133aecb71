-- The node at a place of a structure block b with names in a strings block n, as a tree. The blocks need not be an accepted tree's: what
-- stands past the first token that is none is not there. Of an accepted tree this is the tree: SubtreeLaws.opened_tree.
use Rattle.std.specs.Prelude.{◌≡◌, ℕ, zero, suc, cond, List, [], ◌∷◌, length, get_or, eqb, Option, Some, None}
use Rattle.fdt.specs.Tree.{Property, Nodes, none, node, Tok, begin, ended, prop, fin, bad, lex_at}
use Rattle.nodes.specs.Nav.{inside, content_at, name_at, first_kid, skip_t, drop_p}
use Rattle.nodes.specs.Path.{steps_from}
use Rattle.nodes.specs.OnTree.{head_of, find_k, kids_of}

-- the properties that these tokens begin with
unfoldable pub props_t : List Tok → List Property
props_t [] = []
props_t (begin p nm ∷ ts) = []
props_t (ended ∷ ts) = []
props_t (prop x ∷ ts) = x ∷ props_t ts
props_t (fin ∷ ts) = []
props_t (bad ∷ ts) = []

-- the nodes in a row that these tokens begin with, in at most f steps: each with the properties after its name, the nodes past those, and
-- the nodes past its end
unfoldable pub nodes_t : ℕ → List Tok → Nodes
nodes_t zero ts = none
nodes_t (suc f) [] = none
nodes_t (suc f) (begin q nm ∷ ts) = node q nm (props_t ts) (nodes_t f (drop_p ts)) (nodes_t f (drop_p (skip_t ts 1)))
nodes_t (suc f) (ended ∷ ts) = none
nodes_t (suc f) (prop x ∷ ts) = none
nodes_t (suc f) (fin ∷ ts) = none
nodes_t (suc f) (bad ∷ ts) = none

-- the node at q, with the siblings after it; none where no node begins there
unfoldable pub node_at : List ℕ → List ℕ → ℕ → Nodes
node_at b n q =
    inside none
    (λ p.
    node q (name_at b n q) (props_t (lex_at b n p)) (nodes_t (suc (length b)) (drop_p (lex_at b n p))) (nodes_t (suc (length b)) (drop_p (skip_t (lex_at b n p) 1))))
    (content_at b n q)

abbrev pub at : List ℕ → List ℕ → Option ℕ → Nodes
at b n (Some q) = node_at b n q
at b n None = none

-- the tree: its root is the first node
unfoldable pub root_at : List ℕ → List ℕ → Nodes
root_at b n = at b n (first_kid (lex_at b n 0))

-- a node stands where one was found
abbrev pub Stands : List ℕ → List ℕ → Option ℕ → Type 0
Stands b n f = head_of (at b n f) ≡ f

-- ── On the tree ──
abbrev pub props_of : Nodes → List Property
props_of none = []
props_of (node q nm ps kids rest) = ps

abbrev pub rest_of : Nodes → Nodes
rest_of none = none
rest_of (node q nm ps kids rest) = rest

-- the root's first child of a name, as the path `/NAME` finds it
abbrev pub under_root : List ℕ → Nodes → Nodes
under_root name t = find_k name (kids_of t)

-- from a node on, a step at a time: the node that is found, with the siblings after it
unfoldable pub go_to : Nodes → List (List ℕ) → Nodes
go_to t [] = t
go_to t ([] ∷ steps) = none
go_to t ((x ∷ step) ∷ steps) = go_to (find_k (x ∷ step) (kids_of t)) steps

-- "`/` alone is the root; any other empty step finds nothing." A path begins with `/`
unfoldable pub path_to : Nodes → List ℕ → Nodes
path_to t path =
    cond (eqb (length path) 0) none
    (cond (eqb (get_or path 0 0) 47)
    (cond (eqb (length path) 1) t (go_to t (steps_from (length path) path 1)))
    none)
