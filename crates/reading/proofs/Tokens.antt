-- The ways through the tokens of a tree give what the tree says: the first child, the next sibling, a property by its name, a child by
-- a step, and the number in document order. Assumes nothing.
use mathlib.Core.Path.{◌≡◌, refl, ◌∙◌, ap}
use Prim.Native.Nat.{ℕ, suc, ◌+◌}
use mathlib.Core.List.{List, [], ◌∷◌}
use mathlib.Core.Bool.{Bool, true, false, cond}
use lib.Dec.{eqb}
use Rattle.std.specs.Prelude.{None}
use Rattle.fdt.specs.Tree.{Property, Nodes, none, node, Tok, begin, ended, flat_p, flat_k}
use Rattle.nodes.specs.Nav.{first_kid, skip_t, lookup, find_t, matches}
use Rattle.nodes.specs.OnTree.{head_of, lookup_in, find_k}
use Rattle.nodes.specs.Order.{begun_before, order, number_in}

-- past a node's name: its first child
pub first_in : (ps : List Property) (ks : Nodes) (r : List Tok) → first_kid r ≡ None → first_kid (flat_p ps (flat_k ks r)) ≡ head_of ks
first_in [] none r h = h
first_in [] (node q nm qs ks rest) r h = refl
first_in (x ∷ ps) ks r h = first_in ps ks r h

skip_properties : (ps : List Property) (r : List Tok) (d : ℕ) → skip_t (flat_p ps r) d ≡ skip_t r d
skip_properties [] r d = refl
skip_properties (x ∷ ps) r d = skip_properties ps r d

skip_nodes : (ks : Nodes) (r : List Tok) (d : ℕ) → skip_t (flat_k ks r) (suc d) ≡ skip_t r (suc d)
skip_nodes none r d = refl
skip_nodes (node q nm ps ks rest) r d = skip_properties ps _ (suc (suc d)) ∙ skip_nodes ks _ (suc d) ∙ skip_nodes rest r d

-- past its end
pub skip_inside : (ps : List Property) (ks : Nodes) (r : List Tok) → skip_t (flat_p ps (flat_k ks (ended ∷ r))) 1 ≡ r
skip_inside ps ks r = skip_properties ps _ 1 ∙ skip_nodes ks _ 0

-- its property of a name
pub lookup_in_lem : (name : List ℕ) (ps : List Property) (ks : Nodes) (r : List Tok) → lookup name (flat_p ps (flat_k ks (ended ∷ r))) ≡ lookup_in name ps
unfolding lookup lookup_in
lookup_in_lem name [] none r = refl
lookup_in_lem name [] (node q nm qs ks rest) r = refl
lookup_in_lem name (x ∷ ps) ks r = rw (lookup_in_lem name ps ks r)

module _ (step : List ℕ) where
  find_properties : (ps : List Property) (r : List Tok) (d : ℕ) → find_t step (flat_p ps r) d ≡ find_t step r d
  unfolding find_t
  find_properties [] r d = refl
  find_properties (x ∷ ps) r d = find_properties ps r d

  find_nodes : (ks : Nodes) (r : List Tok) (d : ℕ) → find_t step (flat_k ks r) (suc d) ≡ find_t step r (suc d)
  unfolding find_t
  find_nodes none r d = refl
  find_nodes (node q nm ps ks rest) r d = find_properties ps _ (suc (suc d)) ∙ find_nodes ks _ (suc d) ∙ find_nodes rest r d

  head_cond : (m : Bool) (q : ℕ) (nm : List ℕ) (ps : List Property) (ks rest other : Nodes) (ts us : List Tok) → first_kid us ≡ head_of other
      → first_kid (cond m (begin q nm ∷ ts) us) ≡ head_of (cond m (node q nm ps ks rest) other)
  head_cond true q nm ps ks rest other ts us h = refl
  head_cond false q nm ps ks rest other ts us h = h

  find_among : (ks : Nodes) (r : List Tok) → first_kid (find_t step (flat_k ks (ended ∷ r)) 0) ≡ head_of (find_k step ks)
  unfolding find_t find_k
  find_among none r = refl
  find_among (node q nm ps ks rest) r =
      head_cond (matches nm step) q nm ps ks rest (find_k step rest) _ _
      (ap first_kid (find_properties ps _ 1 ∙ find_nodes ks _ 0) ∙ find_among rest r)

  -- its child of a step
  pub find_in : (ps : List Property) (ks : Nodes) (r : List Tok) → first_kid (find_t step (flat_p ps (flat_k ks (ended ∷ r))) 0) ≡ head_of (find_k step ks)
  find_in ps ks r = ap first_kid (find_properties ps _ 0) ∙ find_among ks r

module _ (t : ℕ) where
  begun_properties : (ps : List Property) (r : List Tok) (k : ℕ) → begun_before (flat_p ps r) t k ≡ begun_before r t k
  unfolding begun_before
  begun_properties [] r k = refl
  begun_properties (x ∷ ps) r k = begun_properties ps r k

  -- the number in document order, where it is so past these nodes
  pub begun_in : (ks : Nodes) (r : List Tok) (l : List ℕ) → ((k : ℕ) → begun_before r t k ≡ number_in l t k)
      → (k : ℕ) → begun_before (flat_k ks r) t k ≡ number_in (order ks l) t k
  unfolding begun_before order number_in
  begun_in none r l h k = h k
  begun_in (node q nm ps ks rest) r l h k =
      ap (λ (m : ℕ). cond (eqb q t) k m)
      (begun_properties ps _ (k + 1) ∙ begun_in ks (ended ∷ flat_k rest r) (order rest l) (begun_in rest r l h) (k + 1))
