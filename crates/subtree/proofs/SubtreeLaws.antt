-- Reading at a place gives what the node there says, of any two blocks; and of an accepted tree, that is the tree. Assumes nothing.
use mathlib.Core.Path.{◌≡◌, refl, ◌∙◌, ap}
use Prim.Native.Nat.{ℕ, ◌+◌, ◌≤◌}
use native.Mathlib.Omega.{arith}
use mathlib.Core.Bool.{Bool, true, false, cond}
use mathlib.Core.List.{List, [], ◌∷◌}
use lib.ListN.{length, get_or}
use lib.Dec.{eqb}
use Rattle.std.specs.Prelude.{Option, Some, None, Ok}
use Rattle.fdt.specs.declared.Blocks.{Blocks}
use Rattle.fdt.specs.Header.{structure_of, strings_of}
use Rattle.fdt.specs.Token.{tok_at}
use Rattle.fdt.specs.Tree.{Property, Nodes, none, node, count, fin, lex_at, tree_of}
use Rattle.fdt.specs.Opening.{opened_of}
use Rattle.nodes.specs.Nav.{inside, content_at, first_kid, skip_t, lookup, find_t, first_at, next_at, prop_at, child_at}
use Rattle.nodes.specs.Path.{steps_from, go_from, path_at}
use Rattle.nodes.specs.Cells.{count_at}
use Rattle.nodes.specs.OnTree.{head_of, find_k, kids_of, go_k}
use Rattle.reading.specs.Reads.{WrittenFor}
use Rattle.reading.specs.Values.{value_of, held, count_of}
use Rattle.reading.specs.Paths.{path_in}
use Rattle.reading.proofs.Values.{held_count}
use Rattle.reading.proofs.Opened.{on_written}
use Rattle.subtree.specs.Subtree.{node_at, at, root_at, Stands, props_of, rest_of, go_to, path_to}
use Rattle.subtree.proofs.TokenRows.{skip_read, node_content, node_nothing, node_few, found_stands, looked_up, step_found, step_stands, row_is}

module _ (b n : List ℕ) (q : ℕ) where
  -- THE THEOREMS, at any place q of any blocks: the children, and the siblings after it
  pub kids_at : kids_of (node_at b n q) ≡ at b n (first_at b n q)
  unfolding first_at
  kids_at = go (content_at b n q) refl
    where
      go : (c : Option ℕ) → content_at b n q ≡ c → kids_of (node_at b n q) ≡ at b n (inside None (λ p. first_kid (lex_at b n p)) c)
      go (Some p) e = rw (node_content b n q p e)
      go None e = rw (node_nothing b n q e)

  pub rest_at : rest_of (node_at b n q) ≡ at b n (next_at b n q)
  unfolding next_at
  rest_at = go (content_at b n q) refl
    where
      go : (c : Option ℕ) → content_at b n q ≡ c → rest_of (node_at b n q) ≡ at b n (inside None (λ p. first_kid (skip_t (lex_at b n p) 1)) c)
      go (Some p) e = rw (node_content b n q p e)
      go None e = rw (node_nothing b n q e)

  -- the value of a property, and a count of cells
  pub value_at : (name : List ℕ) → held b (prop_at b n q name) ≡ value_of name (props_of (node_at b n q))
  unfolding prop_at value_of
  value_at name = go (content_at b n q) refl
    where
      go : (c : Option ℕ) → content_at b n q ≡ c → held b (inside None (λ p. lookup name (lex_at b n p)) c) ≡ value_of name (props_of (node_at b n q))
      go (Some p) e = rw (node_content b n q p e) (looked_up b n name (lex_at b n p) p refl)
      go None e = rw (node_nothing b n q e)

  pub count_at_lem : (name : List ℕ) → count_at b n q name ≡ count_of (value_of name (props_of (node_at b n q)))
  unfolding count_at
  count_at_lem name = held_count b (prop_at b n q name) ∙ ap count_of (value_at name)

  -- the child of a step
  pub child_at_lem : (step : List ℕ) → at b n (child_at b n q step) ≡ find_k step (kids_of (node_at b n q))
  unfolding child_at find_k
  child_at_lem step = go (content_at b n q) refl
    where
      go : (c : Option ℕ) → content_at b n q ≡ c
          → at b n (inside None (λ p. first_kid (find_t step (lex_at b n p) 0)) c) ≡ find_k step (kids_of (node_at b n q))
      go (Some p) e = rw (node_content b n q p e) (step_found b n step (lex_at b n p) 0 p refl)
      go None e = rw (node_nothing b n q e)

  -- what is found is a node
  pub first_stands : Stands b n (first_at b n q)
  unfolding first_at
  first_stands = go (content_at b n q)
    where
      go : (c : Option ℕ) → Stands b n (inside None (λ p. first_kid (lex_at b n p)) c)
      go (Some p) = found_stands b n (lex_at b n p) p refl
      go None = refl

  pub next_stands : Stands b n (next_at b n q)
  unfolding next_at
  next_stands = go (content_at b n q)
    where
      go : (c : Option ℕ) → Stands b n (inside None (λ p. first_kid (skip_t (lex_at b n p) 1)) c)
      go (Some p) = let r = skip_read b n (lex_at b n p) 1 p refl in found_stands b n (skip_t (lex_at b n p) 1) r.0 r.1
      go None = refl

  pub child_stands : (step : List ℕ) → Stands b n (child_at b n q step)
  unfolding child_at
  child_stands step = go (content_at b n q)
    where
      go : (c : Option ℕ) → Stands b n (inside None (λ p. first_kid (find_t step (lex_at b n p) 0)) c)
      go (Some p) = step_stands b n step (lex_at b n p) 0 p refl
      go None = refl

-- no step leads from no node to one
go_none : (steps : List (List ℕ)) → none ≡ go_to none steps
unfolding go_to find_k
go_none [] = refl
go_none ([] ∷ steps) = refl
go_none ((x ∷ step) ∷ steps) = go_none steps

module _ (b n : List ℕ) where
  -- from a node on, a step at a time
  go_at : (steps : List (List ℕ)) (q : ℕ) → at b n (go_from b n q steps) ≡ go_to (node_at b n q) steps
  unfolding go_from go_to
  go_at [] q = refl
  go_at ([] ∷ steps) q = refl
  go_at ((x ∷ step) ∷ steps) q = rw (← child_at_lem b n q (x ∷ step)) (each (child_at b n q (x ∷ step)) (go_at steps))
    where
      each : (f : Option ℕ) → ((r : ℕ) → at b n (go_from b n r steps) ≡ go_to (node_at b n r) steps)
          → at b n (inside None (λ r. go_from b n r steps) f) ≡ go_to (at b n f) steps
      each (Some r) h = h r
      each None h = go_none steps

  -- a path leads to the node that it names
  pub path_at_lem : (path : List ℕ) → at b n (path_at b n path) ≡ path_to (root_at b n) path
  unfolding path_at path_to root_at
  path_at_lem path = go (eqb (length path) 0) (eqb (get_or path 0 0) 47) (eqb (length path) 1) (first_kid (lex_at b n 0))
    where
      go : (x y z : Bool) (f : Option ℕ)
          → at b n (cond x None (cond y (inside None (λ root. cond z (Some root) (go_from b n root (steps_from (length path) path 1))) f) None))
          ≡ cond x none (cond y (cond z (at b n f) (go_to (at b n f) (steps_from (length path) path 1))) none)
      go true y z f = refl
      go false false z f = refl
      go false true true (Some root) = refl
      go false true true None = refl
      go false true false (Some root) = go_at (steps_from (length path) path 1) root
      go false true false None = go_none (steps_from (length path) path 1)

  go_stands : (steps : List (List ℕ)) (q : ℕ) → Stands b n (Some q) → Stands b n (go_from b n q steps)
  unfolding go_from
  go_stands [] q h = h
  go_stands ([] ∷ steps) q h = refl
  go_stands ((x ∷ step) ∷ steps) q h = each (child_at b n q (x ∷ step)) (child_stands b n q (x ∷ step)) (go_stands steps)
    where
      each : (f : Option ℕ) → Stands b n f → ((r : ℕ) → Stands b n (Some r) → Stands b n (go_from b n r steps))
          → Stands b n (inside None (λ r. go_from b n r steps) f)
      each (Some r) s k = k r s
      each None s k = refl

  -- and that is a node
  pub path_stands : (path : List ℕ) → Stands b n (path_at b n path)
  unfolding path_at
  path_stands path =
      go (eqb (length path) 0) (eqb (get_or path 0 0) 47) (eqb (length path) 1) (first_kid (lex_at b n 0)) (found_stands b n (lex_at b n 0) 0 refl)
    where
      go : (x y z : Bool) (f : Option ℕ) → Stands b n f
          → Stands b n (cond x None (cond y (inside None (λ root. cond z (Some root) (go_from b n root (steps_from (length path) path 1))) f) None))
      go true y z f s = refl
      go false false z f s = refl
      go false true true (Some root) s = s
      go false true true None s = refl
      go false true false (Some root) s = go_stands (steps_from (length path) path 1) root s
      go false true false None s = refl

  -- there are no more nodes than bytes, but for one
  pub few : (f : Option ℕ) → count (at b n f) ≤ length b + 1
  few (Some q) = node_few b n q (tok_at b n q) refl
  few None = omega arith

  -- of blocks that are written for a tree, this is the tree
  pub written_at : (root : ℕ) (ps : List Property) (kids : Nodes) → WrittenFor b n root ps kids → root_at b n ≡ node root [] ps kids none
  unfolding root_at
  written_at root ps kids w = rw w (row_is b n (node root [] ps kids none) (fin ∷ []) 0 w refl)

-- and so of an accepted tree
pub opened_tree : (s : List ℕ) (k : Blocks) → opened_of s ≡ Ok (Some k) → root_at (structure_of s) (strings_of s) ≡ tree_of (structure_of s) (strings_of s)
opened_tree s k e = on_written s k e (λ t. root_at (structure_of s) (strings_of s) ≡ t) (written_at (structure_of s) (strings_of s))

go_place : (steps : List (List ℕ)) (t : Nodes) → go_k t steps ≡ head_of (go_to t steps)
unfolding go_k go_to find_k
go_place [] t = refl
go_place ([] ∷ steps) t = refl
go_place ((x ∷ step) ∷ steps) none = ap head_of (go_none steps)
go_place ((x ∷ step) ∷ steps) (node q nm ps kids rest) = go_place steps (find_k (x ∷ step) kids)

-- where the path leads in the tree, as a place
pub path_place : (t : Nodes) (path : List ℕ) → path_in t path ≡ head_of (path_to t path)
unfolding path_in path_to
path_place t path = rw (go_place (steps_from (length path) path 1) t) (go (eqb (length path) 0) (eqb (get_or path 0 0) 47) (eqb (length path) 1))
  where
    go : (x y z : Bool)
        → cond x None (cond y (cond z (head_of t) (head_of (go_to t (steps_from (length path) path 1)))) None)
        ≡ head_of (cond x none (cond y (cond z t (go_to t (steps_from (length path) path 1))) none))
    go true y z = refl
    go false false z = refl
    go false true true = refl
    go false true false = refl
