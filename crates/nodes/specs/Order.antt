-- Document order: "the target's place in document order, the root's first child being 1".
use Rattle.std.specs.Prelude.{ℕ, ◌+◌, cond, List, [], ◌∷◌, eqb}
use Rattle.fdt.specs.Tree.{Tok, begin, ended, prop, fin, bad, lex_at, Nodes, none, node}

-- nodes begin in document order: how many began before the one at t, with k before these tokens; 0 where there is none
unfoldable pub begun_before : List Tok → ℕ → ℕ → ℕ
begun_before [] t k = 0
begun_before (begin q nm ∷ ts) t k = cond (eqb q t) k (begun_before ts t (k + 1))
begun_before (ended ∷ ts) t k = begun_before ts t k
begun_before (prop q ∷ ts) t k = begun_before ts t k
begun_before (fin ∷ ts) t k = 0
begun_before (bad ∷ ts) t k = 0

unfoldable pub place_at : List ℕ → List ℕ → ℕ → ℕ
place_at b n t = begun_before (lex_at b n 0) t 0

-- the places of these nodes, each before its children, and then l
unfoldable pub order : Nodes → List ℕ → List ℕ
order none l = l
order (node q nm ps kids rest) l = q ∷ order kids (order rest l)

-- the number of t in a list, after k; 0 where it is not there
unfoldable pub number_in : List ℕ → ℕ → ℕ → ℕ
number_in [] t k = 0
number_in (q ∷ l) t k = cond (eqb q t) k (number_in l t (k + 1))
