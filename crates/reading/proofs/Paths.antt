-- A path leads in the blocks where it leads in the tree that they are written for, and what a path, a step or a neighbour gives is a
-- node of the tree. Assumes nothing.
use mathlib.Core.Path.{◌≡◌, refl, sym, ◌∙◌, subst}
use Prim.Native.Nat.{ℕ}
use native.Mathlib.Omega.{arith}
use mathlib.Core.List.{List, [], ◌∷◌}
use lib.ListN.{length, get_or}
use lib.Dec.{eqb}
use Rattle.std.specs.Prelude.{Option, Some, None}
use Rattle.words.proofs.BytesLaws.{cond_elim}
use Rattle.fdt.specs.Tree.{Property, Nodes, none, node}
use Rattle.nodes.specs.Nav.{inside, first_at, next_at, child_at, matches}
use Rattle.nodes.specs.Path.{steps_from, go_from, path_at}
use Rattle.nodes.specs.OnTree.{Among, first, below, after, head_of, find_k, go_k}
use Rattle.reading.specs.Reads.{WrittenFor}
use Rattle.reading.specs.Paths.{path_in, NodeIn}
use Rattle.reading.proofs.Reading.{reads}

-- ── Nodes among nodes ──
module _ {q : ℕ} {nm : List ℕ} {ps : List Property} {kids rest : Nodes} where
  module _ {r : ℕ} {om : List ℕ} {os : List Property} {ks rs : Nodes} where
    -- the children of a node are nodes of its tree
    pub under : {t : Nodes} → Among r om os ks rs t → Among q nm ps kids rest ks → Among q nm ps kids rest t
    under first x = below x
    under (below a) x = below (under a x)
    under (after a) x = after (under a x)

    -- and so are the siblings after it
    pub beside : {t : Nodes} → Among r om os ks rs t → Among q nm ps kids rest rs → Among q nm ps kids rest t
    beside first x = after x
    beside (below a) x = below (beside a x)
    beside (after a) x = after (beside a x)

  -- what a step finds is among the nodes that it looks through
  pub found : (step : List ℕ) (ks : Nodes) → Among q nm ps kids rest (find_k step ks) → Among q nm ps kids rest ks
  unfolding find_k
  found step none x = x
  found step (node r om os ks rs) x =
      cond_elim (λ (f : Nodes). Among q nm ps kids rest f → Among q nm ps kids rest (node r om os ks rs)) (matches om step) _ _ (λ e y. y)
      (λ e y. after (found step rs y)) x

-- ── Answers are nodes ──
-- nothing is no place
pub no_place : {A : Type 0} {q : ℕ} → None ≡ Some q → A
no_place e = let z : ◌≡◌ {A = ℕ} 0 1 = cc in let x : ⊥ = omega arith in absurd x

-- a node of u that is among t's is one of t
pub carried : {t u : Nodes} {q : ℕ} (i : NodeIn u q) → Among q i.name i.properties i.kids i.rest t → NodeIn t q
carried i a = record { name = i.name; properties = i.properties; kids = i.kids; rest = i.rest; among = a }

-- the first of these nodes is one of them
pub head_in : (t : Nodes) {q : ℕ} → head_of t ≡ Some q → NodeIn t q
head_in none h = no_place h
head_in (node r nm ps kids rest) h =
    subst (NodeIn (node r nm ps kids rest)) (cc) (record { name = nm; properties = ps; kids = kids; rest = rest; among = first })

go_in : (steps : List (List ℕ)) (t : Nodes) {q : ℕ} → go_k t steps ≡ Some q → NodeIn t q
unfolding go_k
go_in [] t h = head_in t h
go_in ([] ∷ steps) t h = no_place h
go_in ((x ∷ step) ∷ steps) none h = no_place h
go_in ((x ∷ step) ∷ steps) (node r nm ps kids rest) h =
    let i = go_in steps (find_k (x ∷ step) kids) h in carried i (below (found (x ∷ step) kids i.among))

-- a path leads to a node of the tree, or to nothing
pub path_in_lem : (t : Nodes) (path : List ℕ) {q : ℕ} → path_in t path ≡ Some q → NodeIn t q
unfolding path_in
path_in_lem t path {q = q} h =
    let P : Option ℕ → Type 0 = λ f. f ≡ Some q → NodeIn t q in
    cond_elim P (eqb (length path) 0) _ _ (λ e. no_place)
    (λ e. cond_elim P (eqb (get_or path 0 0) 47) _ _
    (λ e. cond_elim P (eqb (length path) 1) _ _ (λ e. head_in t) (λ e. go_in (steps_from (length path) path 1) t))
    (λ e. no_place))
    h

-- ── Paths ──
go_none : (steps : List (List ℕ)) → None ≡ go_k none steps
unfolding go_k
go_none [] = refl
go_none ([] ∷ steps) = refl
go_none ((x ∷ step) ∷ steps) = refl

module _ (b n : List ℕ) (root : ℕ) (ps : List Property) (kids : Nodes) (w : WrittenFor b n root ps kids) where
  -- from a node on, a step at a time
  go : {q : ℕ} {nm : List ℕ} {os : List Property} {ks rest : Nodes} → (steps : List (List ℕ)) → Among q nm os ks rest (node root [] ps kids none)
      → go_from b n q steps ≡ go_k (node q nm os ks rest) steps
  unfolding go_from go_k
  go [] a = refl
  go ([] ∷ steps) a = refl
  go {ks = ks} ((x ∷ step) ∷ steps) a =
      rw ((reads b n root ps kids w a).child (x ∷ step))
      (each (find_k (x ∷ step) ks) (λ q nm os ls rest f. go steps (under a (found (x ∷ step) ks f))))
    where
      each : (f : Nodes)
          → ((q : ℕ) (nm : List ℕ) (os : List Property) (ls rest : Nodes) → Among q nm os ls rest f → go_from b n q steps ≡ go_k (node q nm os ls rest) steps)
          → inside None (λ r. go_from b n r steps) (head_of f) ≡ go_k f steps
      each none s = go_none steps
      each (node q nm os ls rest) s = s q nm os ls rest first

  -- THE THEOREM: a path leads where it leads in the tree
  pub path : (p : List ℕ) → path_at b n p ≡ path_in (node root [] ps kids none) p
  unfolding path_at path_in
  path p = rw (w, go (steps_from (length p) p 1) first)

  -- and so to a node of it, or to nothing
  pub path_node : (p : List ℕ) {q : ℕ} → path_at b n p ≡ Some q → NodeIn (node root [] ps kids none) q
  path_node p h = path_in_lem (node root [] ps kids none) p (sym (path p) ∙ h)

  -- and at a node of the tree, its first child, next sibling and child of a step are nodes of the tree too
  module _ {q : ℕ} {nm : List ℕ} {os : List Property} {ks rest : Nodes} (a : Among q nm os ks rest (node root [] ps kids none)) where
    pub first_node : {r : ℕ} → first_at b n q ≡ Some r → NodeIn (node root [] ps kids none) r
    first_node h = let i = head_in ks (sym (reads b n root ps kids w a).first ∙ h) in carried i (under a i.among)

    pub next_node : {r : ℕ} → next_at b n q ≡ Some r → NodeIn (node root [] ps kids none) r
    next_node h = let i = head_in rest (sym (reads b n root ps kids w a).next ∙ h) in carried i (beside a i.among)

    pub child_node : (step : List ℕ) {r : ℕ} → child_at b n q step ≡ Some r → NodeIn (node root [] ps kids none) r
    child_node step h =
        let i = head_in (find_k step ks) (sym ((reads b n root ps kids w a).child step) ∙ h) in carried i (under a (found step ks i.among))
