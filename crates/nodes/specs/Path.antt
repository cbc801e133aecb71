-- Paths: Specification, section 2.2.3, and document 01, "The tree".
use Rattle.std.specs.Prelude.{ℕ, zero, suc, ◌+◌, cond, List, [], ◌∷◌, length, get_or, eqb, leb, Option, Some, None}
use Rattle.words.specs.Bytes.{bytes, first_byte}
use Rattle.fdt.specs.Tree.{lex_at}
use Rattle.nodes.specs.Nav.{inside, first_kid, child_at}

-- the steps of a path from place i on: what stands between slashes, in at most f steps
unfoldable pub steps_from : ℕ → List ℕ → ℕ → List (List ℕ)
steps_from zero path i = []
steps_from (suc f) path i =
    bytes path i (first_byte 47 path i)
    ∷ cond (leb (length path) (first_byte 47 path i)) [] (steps_from f path (first_byte 47 path i + 1))

-- from a node on, a step at a time; an empty step finds nothing
unfoldable pub go_from : List ℕ → List ℕ → ℕ → List (List ℕ) → Option ℕ
go_from b n q [] = Some q
go_from b n q ([] ∷ steps) = None
go_from b n q ((x ∷ step) ∷ steps) = inside None (λ r. go_from b n r steps) (child_at b n q (x ∷ step))

-- "`/` alone is the root; any other empty step finds nothing." A path begins with `/`
unfoldable pub path_at : List ℕ → List ℕ → List ℕ → Option ℕ
path_at b n path =
    cond (eqb (length path) 0) None
    (cond (eqb (get_or path 0 0) 47)
    (inside None (λ root. cond (eqb (length path) 1) (Some root) (go_from b n root (steps_from (length path) path 1))) (first_kid (lex_at b n 0)))
    None)
