-- On blocks that are written for a tree, reading at the place of each of its nodes gives what the tree says. Assumes nothing.
use mathlib.Core.Path.{◌≡◌, refl, sym, ◌∙◌, ap}
use Prim.Native.Nat.{ℕ}
use mathlib.Core.List.{List, [], ◌∷◌}
use Rattle.fdt.specs.Tree.{Property, Nodes, none, node, fin, flat_p, flat_k, ended}
use Rattle.nodes.specs.Nav.{first_at, next_at, prop_at, child_at, first_kid}
use Rattle.nodes.specs.Order.{place_at, order, number_in, begun_before}
use Rattle.nodes.specs.OnTree.{Among, first, below, after}
use Rattle.reading.specs.Reads.{WrittenFor, ReadsAt}
use Rattle.reading.specs.Places.{NodeAt, Row}
use Rattle.reading.proofs.Places.{node_at_lem, end_at_lem, past_name, past_nodes}
use Rattle.reading.proofs.Tokens.{first_in, skip_inside, lookup_in_lem, find_in, begun_in}

module _ (b n : List ℕ) where
  -- a node below a row that is written is written, with its siblings after it
  pub row_of : {q : ℕ} {nm : List ℕ} {ps : List Property} {kids rest t : Nodes} → Among q nm ps kids rest t → Row b n t
      → Row b n (node q nm ps kids rest)
  row_of first w = w
  row_of (below {os = os} {rs = rs} a) w =
      let l = past_name b n os w.from w.tokens in
      row_of a (record { from = l.to; end = ended ∷ flat_k rs w.end; tokens = l.tokens; closed = refl })
  row_of (after {os = os} {ks = ks} a) w =
      let l = past_name b n os w.from w.tokens in
      let k = past_nodes b n ks l.to l.tokens in
      let d = end_at_lem b n k.to k.tokens in
      row_of a (record { from = d.to; end = w.end; tokens = d.tokens; closed = w.closed })

module _ (b n : List ℕ) (root : ℕ) (ps : List Property) (kids : Nodes) (w : WrittenFor b n root ps kids) where
  -- the whole tree is a written row
  pub whole : Row b n (node root [] ps kids none)
  whole = record { from = 0; end = fin ∷ []; tokens = w; closed = refl }

  -- the number that is read for any place is its number in document order
  pub numbered : (q : ℕ) → place_at b n q ≡ number_in (order (node root [] ps kids none) []) q 0
  unfolding place_at begun_before number_in
  numbered q = rw w (begun_in q (node root [] ps kids none) (fin ∷ []) [] (λ k. refl) 0)

module _ (b n : List ℕ) (root : Nodes) {q : ℕ} {nm : List ℕ} {ps : List Property} {kids rest : Nodes}
    (w : Row b n (node q nm ps kids rest))
    (a : NodeAt b n w.from q nm (flat_p ps (flat_k kids (ended ∷ flat_k rest w.end)))) where
  -- at the first node of a written row
  reads_row : place_at b n q ≡ number_in (order root []) q 0 → ReadsAt b n root q nm ps kids rest
  unfolding first_at next_at prop_at child_at
  reads_row e =
      record {
        named = rw a.token (sym a.named);
        first = rw (a.token, ← a.tokens) (first_in ps kids _ refl);
        next = rw (a.token, ← a.tokens) (ap first_kid (skip_inside ps kids _) ∙ first_in [] rest w.end w.closed);
        property = λ p. rw (a.token, ← a.tokens) (lookup_in_lem p ps kids _);
        child = λ step. rw (a.token, ← a.tokens) (find_in step ps kids _);
        place = e;
      }

-- THE THEOREM: at each node of the tree that the blocks are written for, what is read is what the tree says
pub reads : (b n : List ℕ) (root : ℕ) (ps : List Property) (kids : Nodes) → WrittenFor b n root ps kids
    → {q : ℕ} {nm : List ℕ} {ps' : List Property} {ks rest : Nodes} → Among q nm ps' ks rest (node root [] ps kids none)
    → ReadsAt b n (node root [] ps kids none) q nm ps' ks rest
reads b n root ps kids w {q = q} a =
    let r = row_of b n a (whole b n root ps kids w) in
    reads_row b n (node root [] ps kids none) r (node_at_lem b n r.from r.tokens) (numbered b n root ps kids w q)
