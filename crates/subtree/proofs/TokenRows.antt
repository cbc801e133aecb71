-- The node at a place is its name, its properties, the node at the place where its first child is found, and the node at the place where its
-- next sibling is found: in how many steps it is read is not seen. From this follow the laws on properties, on a child by a step, on how many
-- nodes there are, and on rows that are written. Assumes nothing.
use mathlib.Core.Path.{◌≡◌, refl, sym, ap}
use Prim.Native.Nat.{ℕ, zero, suc, ◌+◌, ◌-◌, ◌≤◌}
use native.Mathlib.Omega.{arith}
use mathlib.Core.Bool.{Bool, true, false, cond}
use mathlib.Core.List.{List, [], ◌∷◌}
use lib.ListN.{length}
use Rattle.std.specs.Prelude.{Some, None}
use Rattle.words.specs.Bytes.{part_of}
use Rattle.words.proofs.BytesLaws.{cond_elim}
use Rattle.fdt.specs.declared.Token.{Token}
use Rattle.fdt.specs.declared.Token.TheVariants.{Bad, Nop, Begin, EndNode, Prop, Fin}
use Rattle.fdt.specs.Token.{tok_at}
use Rattle.fdt.specs.Tree.{Property, Nodes, none, node, count, Tok, begin, ended, prop, fin, bad, flat_p, flat_k, taken, lex_at}
use Rattle.fdt.specs.Opening.{block}
use Rattle.fdt.proofs.TokLaws.{Ahead, ahead, ahead_of}
use Rattle.fdt.proofs.LexLaws.{lex_at_lem}
use Rattle.nodes.specs.Nav.{same_bytes, matches, content_at, name_at, first_kid, skip_t, drop_p, lookup, find_t}
use Rattle.nodes.specs.OnTree.{find_k}
use Rattle.reading.specs.Values.{value_of, held}
use Rattle.reading.proofs.Places.{node_at_lem, property_at, end_at_lem, past_name, past_nodes}
use Rattle.reading.proofs.Tokens.{skip_inside}
use Rattle.subtree.specs.Subtree.{props_t, nodes_t, node_at, at, Stands}

-- ── Past properties, and past a node's end: never more tokens than before ──
drop_short : (ts : List Tok) → length (drop_p ts) ≤ length ts
unfolding drop_p
drop_short [] = omega arith
drop_short (begin p nm ∷ ts) = omega arith
drop_short (ended ∷ ts) = omega arith
drop_short (prop x ∷ ts) = let h = drop_short ts in omega arith
drop_short (fin ∷ ts) = omega arith
drop_short (bad ∷ ts) = omega arith

skip_short : (ts : List Tok) (d : ℕ) → length (skip_t ts d) ≤ length ts
skip_short [] d = omega arith
skip_short (begin p nm ∷ ts) d = let h = skip_short ts (suc d) in omega arith
skip_short (ended ∷ ts) zero = omega arith
skip_short (ended ∷ ts) (suc zero) = omega arith
skip_short (ended ∷ ts) (suc (suc d)) = let h = skip_short ts (suc d) in omega arith
skip_short (prop x ∷ ts) d = let h = skip_short ts d in omega arith
skip_short (fin ∷ ts) d = omega arith
skip_short (bad ∷ ts) d = omega arith

-- properties are passed over on the way past an end
skip_drop : (ts : List Tok) (d : ℕ) → skip_t (drop_p ts) d ≡ skip_t ts d
unfolding drop_p
skip_drop [] d = refl
skip_drop (begin p nm ∷ ts) d = refl
skip_drop (ended ∷ ts) d = refl
skip_drop (prop x ∷ ts) d = skip_drop ts d
skip_drop (fin ∷ ts) d = refl
skip_drop (bad ∷ ts) d = refl

-- past one more level is past that level, and then past one
skip_more : (ts : List Tok) (d : ℕ) → skip_t ts (suc (suc d)) ≡ skip_t (skip_t ts (suc d)) 1
skip_more [] d = refl
skip_more (begin p nm ∷ ts) d = skip_more ts (suc d)
skip_more (ended ∷ ts) zero = refl
skip_more (ended ∷ ts) (suc d) = skip_more ts d
skip_more (prop x ∷ ts) d = skip_more ts d
skip_more (fin ∷ ts) d = refl
skip_more (bad ∷ ts) d = refl

-- ── Steps ──
-- any two numbers of steps that are no fewer than the tokens give the same nodes
nodes_same : (f g : ℕ) (ts : List Tok) → length ts ≤ f → length ts ≤ g → nodes_t f ts ≡ nodes_t g ts
unfolding nodes_t
nodes_same zero zero ts hf hg = refl
nodes_same zero (suc g) [] hf hg = refl
nodes_same zero (suc g) (t ∷ ts) hf hg = let x : ⊥ = omega arith in absurd x
nodes_same (suc f) zero [] hf hg = refl
nodes_same (suc f) zero (t ∷ ts) hf hg = let x : ⊥ = omega arith in absurd x
nodes_same (suc f) (suc g) [] hf hg = refl
nodes_same (suc f) (suc g) (begin q nm ∷ ts) hf hg =
    let k = drop_short ts in
    let s = skip_short ts 1 in
    let r = drop_short (skip_t ts 1) in
    rw (nodes_same f g (drop_p ts) (omega arith) (omega arith), nodes_same f g (drop_p (skip_t ts 1)) (omega arith) (omega arith))
nodes_same (suc f) (suc g) (ended ∷ ts) hf hg = refl
nodes_same (suc f) (suc g) (prop x ∷ ts) hf hg = refl
nodes_same (suc f) (suc g) (fin ∷ ts) hf hg = refl
nodes_same (suc f) (suc g) (bad ∷ ts) hf hg = refl

-- there are no more nodes than tokens. The tokens past the end are not theirs: so children and siblings can be counted together
nodes_few : (f : ℕ) (ts : List Tok) → count (nodes_t f ts) + length (skip_t ts 1) ≤ length ts
unfolding nodes_t
nodes_few zero ts = let h = skip_short ts 1 in omega arith
nodes_few (suc f) [] = omega arith
nodes_few (suc f) (begin q nm ∷ ts) =
    let k = drop_short ts in
    let r = drop_short (skip_t ts 1) in
    let i : count (nodes_t f (drop_p ts)) + length (skip_t ts 1) ≤ length (drop_p ts) = rw (skip_drop ts 1) at (nodes_few f (drop_p ts)) in
    let j : count (nodes_t f (drop_p (skip_t ts 1))) + length (skip_t (skip_t ts 1) 1) ≤ length (drop_p (skip_t ts 1)) =
    rw (skip_drop (skip_t ts 1) 1) at (nodes_few f (drop_p (skip_t ts 1))) in
    rw (skip_more ts 0) (omega arith)
nodes_few (suc f) (ended ∷ ts) = omega arith
nodes_few (suc f) (prop x ∷ ts) = let h = skip_short ts 1 in omega arith
nodes_few (suc f) (fin ∷ ts) = omega arith
nodes_few (suc f) (bad ∷ ts) = omega arith

-- ── Tokens that are read from a place on ──
module _ (b n : List ℕ) where
  -- a token, and at most f tokens past it
  taken_few : (f p e : ℕ) (t : Token) → Ahead p e t → ((q : ℕ) → p + 4 ≤ e → p + 4 ≤ q → length (lex_at b n q) ≤ f)
      → length (taken b n p t (lex_at b n)) ≤ suc f
  taken_few f p e Bad a h = omega arith
  taken_few f p e (Nop q) a h = let k = h q a.0 a.1 in omega arith
  taken_few f p e (Begin l q) a h = let k = h q a.0 a.1 in omega arith
  taken_few f p e (EndNode q) a h = let k = h q a.0 a.1 in omega arith
  taken_few f p e (Prop l x z q) a h = let k = h q a.0 a.1 in omega arith
  taken_few f p e Fin a h = omega arith

  -- each token but the last takes bytes, so in a block of at most p + f bytes there are few from p on
  lex_few : (f p : ℕ) → length b ≤ p + f → length (lex_at b n p) ≤ suc f
  lex_few zero p m = rw (lex_at_lem b n p) (taken_few 0 p (length b) (tok_at b n p) (ahead b n p) (λ q x y. let w : ⊥ = omega arith in absurd w))
  lex_few (suc f) p m =
      rw (lex_at_lem b n p) (taken_few (suc f) p (length b) (tok_at b n p) (ahead b n p) (λ q x y. lex_few f q (omega arith)))

  -- the tokens past the end of a node are again those from some place on
  pub skip_read : (ts : List Tok) (d p : ℕ) → lex_at b n p ≡ ts → (r : ℕ) × (lex_at b n r ≡ skip_t ts d)
  skip_read [] d p e = (p, e)
  skip_read (begin q nm ∷ ts) d p e = let a = node_at_lem b n p e in skip_read ts (suc d) a.next (sym a.tokens)
  skip_read (ended ∷ ts) zero p e = let a = end_at_lem b n p e in (a.to, a.tokens)
  skip_read (ended ∷ ts) (suc zero) p e = let a = end_at_lem b n p e in (a.to, a.tokens)
  skip_read (ended ∷ ts) (suc (suc d)) p e = let a = end_at_lem b n p e in skip_read ts (suc d) a.to a.tokens
  skip_read (prop x ∷ ts) d p e = let a = property_at b n p e in skip_read ts d a.next (sym a.tokens)
  skip_read (fin ∷ ts) d p e = (p, e)
  skip_read (bad ∷ ts) d p e = (p, e)

  -- the steps that the node at a place is given are enough
  enough : (p : ℕ) → length (lex_at b n p) ≤ suc (length b)
  enough p = lex_few (length b) p (omega arith)

  -- the nodes past the properties, in steps enough: the node at the place where the first of them is found, with its siblings
  nodes_found : (f : ℕ) (ts : List Tok) (p : ℕ) → lex_at b n p ≡ ts → length ts ≤ f → nodes_t f (drop_p ts) ≡ at b n (first_kid ts)
  unfolding nodes_t drop_p node_at
  nodes_found zero [] p e h = refl
  nodes_found (suc f) [] p e h = refl
  nodes_found zero (begin q nm ∷ ts) p e h = let x : ⊥ = omega arith in absurd x
  nodes_found (suc f) (begin q nm ∷ ts) p e h =
      let a = node_at_lem b n p e in
      let w : length ts ≤ suc (length b) = rw a.tokens (enough a.next) in
      let k = drop_short ts in
      let s = skip_short ts 1 in
      let r = drop_short (skip_t ts 1) in
      rw (
        a.token,
        ← a.tokens,
        ← a.named,
        nodes_same f (suc (length b)) (drop_p ts) (omega arith) (omega arith),
        nodes_same f (suc (length b)) (drop_p (skip_t ts 1)) (omega arith) (omega arith),
      )
  nodes_found zero (ended ∷ ts) p e h = refl
  nodes_found (suc f) (ended ∷ ts) p e h = refl
  nodes_found f (prop x ∷ ts) p e h =
      let a = property_at b n p e in
      nodes_found f ts a.next (sym a.tokens) (omega arith)
  nodes_found zero (fin ∷ ts) p e h = refl
  nodes_found (suc f) (fin ∷ ts) p e h = refl
  nodes_found zero (bad ∷ ts) p e h = refl
  nodes_found (suc f) (bad ∷ ts) p e h = refl

  -- the children from p on, and the siblings past the end
  kids_found : (p : ℕ) → nodes_t (suc (length b)) (drop_p (lex_at b n p)) ≡ at b n (first_kid (lex_at b n p))
  kids_found p = nodes_found (suc (length b)) (lex_at b n p) p refl (enough p)

  rest_found : (p : ℕ) → nodes_t (suc (length b)) (drop_p (skip_t (lex_at b n p) 1)) ≡ at b n (first_kid (skip_t (lex_at b n p) 1))
  rest_found p =
      let r = skip_read (lex_at b n p) 1 p refl in
      let s = skip_short (lex_at b n p) 1 in
      let w = enough p in
      nodes_found (suc (length b)) (skip_t (lex_at b n p) 1) r.0 r.1 (omega arith)

  -- THE LAW: the node at q, whose content is read from p on
  pub node_content : (q p : ℕ) → content_at b n q ≡ Some p
      → node_at b n q ≡ node q (name_at b n q) (props_t (lex_at b n p)) (at b n (first_kid (lex_at b n p))) (at b n (first_kid (skip_t (lex_at b n p) 1)))
  unfolding node_at
  node_content q p e = rw (e, kids_found p, rest_found p)

  -- where none begins there is none
  pub node_nothing : (q : ℕ) → content_at b n q ≡ None → node_at b n q ≡ none
  unfolding node_at
  node_nothing q e = rw e

  -- and where the tokens begin with it
  pub node_is : (p : ℕ) {q : ℕ} {nm : List ℕ} {ts : List Tok} → lex_at b n p ≡ begin q nm ∷ ts
      → node_at b n q ≡ node q nm (props_t ts) (at b n (first_kid ts)) (at b n (first_kid (skip_t ts 1)))
  node_is p {q = q} e =
      let a = node_at_lem b n p e in
      rw (node_content q a.next (rw a.token), ← a.tokens, a.token, ← a.named)

  -- in and after the node at q there are no more nodes than bytes, but for one: it takes four bytes at least, and each further node a token
  pub node_few : (q : ℕ) (t : Token) → tok_at b n q ≡ t → count (node_at b n q) ≤ length b + 1
  unfolding node_at
  node_few q Bad e = rw e (omega arith)
  node_few q (Nop p) e = rw e (omega arith)
  node_few q (Begin l p) e =
      let a = ahead_of b n q (Begin l p) e in
      let u = drop_short (lex_at b n p) in
      let v = drop_short (skip_t (lex_at b n p) 1) in
      let i : count (nodes_t (suc (length b)) (drop_p (lex_at b n p))) + length (skip_t (lex_at b n p) 1) ≤ length (drop_p (lex_at b n p)) =
      rw (skip_drop (lex_at b n p) 1) at (nodes_few (suc (length b)) (drop_p (lex_at b n p))) in
      let j = nodes_few (suc (length b)) (drop_p (skip_t (lex_at b n p) 1)) in
      let w = lex_few (length b - 1) p (omega arith) in
      rw e (omega arith)
  node_few q (EndNode p) e = rw e (omega arith)
  node_few q (Prop l x z p) e = rw e (omega arith)
  node_few q Fin e = rw e (omega arith)

  -- ── What is found is a node ──
  pub found_stands : (ts : List Tok) (p : ℕ) → lex_at b n p ≡ ts → Stands b n (first_kid ts)
  found_stands [] p e = refl
  found_stands (begin q nm ∷ ts) p e = rw (node_is p e)
  found_stands (ended ∷ ts) p e = refl
  found_stands (prop x ∷ ts) p e = let a = property_at b n p e in found_stands ts a.next (sym a.tokens)
  found_stands (fin ∷ ts) p e = refl
  found_stands (bad ∷ ts) p e = refl

  -- ── Properties: those that the tokens begin with have their values in the block ──
  pub looked_up : (name : List ℕ) (ts : List Tok) (p : ℕ) → lex_at b n p ≡ ts → held b (lookup name ts) ≡ value_of name (props_t ts)
  unfolding lookup value_of props_t
  looked_up name [] p e = refl
  looked_up name (begin q nm ∷ ts) p e = refl
  looked_up name (ended ∷ ts) p e = refl
  looked_up name (prop x ∷ ts) p e =
      let a = property_at b n p e in
      go (same_bytes x.name name) a.part (looked_up name ts a.next (sym a.tokens))
    where
      go : (t : Bool) → part_of b (x.at + 12) (length x.value) ≡ x.value → held b (lookup name ts) ≡ value_of name (props_t ts)
          → held b (cond t (Some (block (x.at + 12) (length x.value))) (lookup name ts)) ≡ cond t (Some x.value) (value_of name (props_t ts))
      go true k i = ap Some k
      go false k i = i
  looked_up name (fin ∷ ts) p e = refl
  looked_up name (bad ∷ ts) p e = refl

-- ── A child by a step ──
-- the tokens past d levels
abbrev past : List Tok → ℕ → List Tok
past ts zero = ts
past ts (suc d) = skip_t ts (suc d)

module _ (b n : List ℕ) (step : List ℕ) where
  -- past d levels, the step leads to the node that it finds among the nodes there
  pub step_found : (ts : List Tok) (d p : ℕ) → lex_at b n p ≡ ts → at b n (first_kid (find_t step ts d)) ≡ find_k step (at b n (first_kid (past ts d)))
  unfolding find_t find_k
  step_found [] zero p e = refl
  step_found [] (suc d) p e = refl
  step_found (begin q nm ∷ ts) zero p e =
      let a = node_at_lem b n p e in
      rw (node_is b n p e)
      (go (matches nm step) (node_is b n p e) (step_found ts 1 a.next (sym a.tokens)))
    where
      go : (m : Bool) → node_at b n q ≡ node q nm (props_t ts) (at b n (first_kid ts)) (at b n (first_kid (skip_t ts 1)))
          → at b n (first_kid (find_t step ts 1)) ≡ find_k step (at b n (first_kid (skip_t ts 1)))
          → at b n (first_kid (cond m (begin q nm ∷ ts) (find_t step ts 1)))
          ≡ cond m (node q nm (props_t ts) (at b n (first_kid ts)) (at b n (first_kid (skip_t ts 1)))) (find_k step (at b n (first_kid (skip_t ts 1))))
      go true h i = h
      go false h i = i
  step_found (begin q nm ∷ ts) (suc d) p e = let a = node_at_lem b n p e in step_found ts (suc (suc d)) a.next (sym a.tokens)
  step_found (ended ∷ ts) zero p e = refl
  step_found (ended ∷ ts) (suc zero) p e = let a = end_at_lem b n p e in step_found ts zero a.to a.tokens
  step_found (ended ∷ ts) (suc (suc d)) p e = let a = end_at_lem b n p e in step_found ts (suc d) a.to a.tokens
  step_found (prop x ∷ ts) zero p e = let a = property_at b n p e in step_found ts zero a.next (sym a.tokens)
  step_found (prop x ∷ ts) (suc d) p e = let a = property_at b n p e in step_found ts (suc d) a.next (sym a.tokens)
  step_found (fin ∷ ts) zero p e = refl
  step_found (fin ∷ ts) (suc d) p e = refl
  step_found (bad ∷ ts) zero p e = refl
  step_found (bad ∷ ts) (suc d) p e = refl

  -- and it is a node
  pub step_stands : (ts : List Tok) (d p : ℕ) → lex_at b n p ≡ ts → Stands b n (first_kid (find_t step ts d))
  unfolding find_t
  step_stands [] d p e = refl
  step_stands (begin q nm ∷ ts) zero p e =
      let a = node_at_lem b n p e in
      cond_elim (λ (us : List Tok). Stands b n (first_kid us)) (matches nm step) _ _ (λ m. rw (node_is b n p e))
      (λ m. step_stands ts 1 a.next (sym a.tokens))
  step_stands (begin q nm ∷ ts) (suc d) p e = let a = node_at_lem b n p e in step_stands ts (suc (suc d)) a.next (sym a.tokens)
  step_stands (ended ∷ ts) zero p e = refl
  step_stands (ended ∷ ts) (suc d) p e = let a = end_at_lem b n p e in step_stands ts d a.to a.tokens
  step_stands (prop x ∷ ts) d p e = let a = property_at b n p e in step_stands ts d a.next (sym a.tokens)
  step_stands (fin ∷ ts) d p e = refl
  step_stands (bad ∷ ts) d p e = refl

-- ── Rows that are written ──
props_in : (ps : List Property) (ks : Nodes) (ts : List Tok) → props_t (flat_p ps (flat_k ks (ended ∷ ts))) ≡ ps
unfolding props_t
props_in [] none ts = refl
props_in [] (node q nm os ks rest) ts = refl
props_in (x ∷ ps) ks ts = rw (props_in ps ks ts)

first_past : (ps : List Property) (ts : List Tok) → first_kid (flat_p ps ts) ≡ first_kid ts
first_past [] ts = refl
first_past (x ∷ ps) ts = first_past ps ts

module _ (b n : List ℕ) where
  -- nodes that are written from a place on, up to tokens that begin with no node: they are the nodes there
  pub row_is : (t : Nodes) (ts : List Tok) (p : ℕ) → lex_at b n p ≡ flat_k t ts → first_kid ts ≡ None → at b n (first_kid (flat_k t ts)) ≡ t
  row_is none ts p e h = rw h
  row_is (node q nm ps ks rest) ts p e h =
      let l = past_name b n ps p e in
      let k = past_nodes b n ks l.to l.tokens in
      let d = end_at_lem b n k.to k.tokens in
      rw (
        node_is b n p e,
        props_in ps ks (flat_k rest ts),
        first_past ps (flat_k ks (ended ∷ flat_k rest ts)),
        skip_inside ps ks (flat_k rest ts),
        row_is ks (ended ∷ flat_k rest ts) l.to l.tokens refl,
        row_is rest ts d.to d.tokens h,
      )
