-- The places of a written tree's nodes ascend strictly in document order. So the number of a node is how many nodes begin before it, the
-- root's is 0 and its first child's is 1, and no two nodes share a place. Assumes nothing.
use mathlib.Core.Path.{◌≡◌, refl, sym, subst, ◌∙◌}
use Prim.Native.Nat.{ℕ, suc, ◌+◌, ◌≤◌, ◌<◌}
use native.Mathlib.Omega.{arith}
use mathlib.Core.Logic.{◌⊎◌, inl, inr, ⊎_elim}
use mathlib.Core.Bool.{Bool, true, false, cond}
use mathlib.Core.List.{List, [], ◌∷◌}
use lib.ListN.{length}
use lib.Dec.{ltb}
use borrow.Author.Tests.{eq-eqb, ne_eqb, lt-ltb, le-ltb, ltb-true, ltb-false}
use Rattle.std.specs.Prelude.{Some}
use Rattle.words.proofs.BytesLaws.{cond_elim}
use Rattle.fdt.specs.Tree.{Property, Nodes, none, node, Tok, ended, fin, flat_k, lex_at}
use Rattle.nodes.specs.Nav.{first_at}
use Rattle.nodes.specs.Order.{place_at, order, number_in}
use Rattle.nodes.specs.OnTree.{Among, first, below, after, head_of}
use Rattle.reading.specs.Reads.{WrittenFor}
use Rattle.reading.specs.Paths.{NodeIn}
use Rattle.reading.specs.Order.{Ascending, last, then, OneOf, this, later, count_before, SameNode}
use Rattle.reading.proofs.Places.{node_at_lem, end_at_lem, past_name}
use Rattle.reading.proofs.Reading.{numbered, reads}
use Rattle.reading.proofs.Paths.{no_place, carried}

-- ── Ascending places ──
ascending_from : {o p : ℕ} {l : List ℕ} → o ≤ p → Ascending p l → Ascending o l
ascending_from h last = last
ascending_from {o = o} h (then {q = q} k a) = let m : o ≤ q = omega arith in then m a

-- each of them is from the start on
one_from : {p q : ℕ} {l : List ℕ} → Ascending p l → OneOf q l → p ≤ q
one_from {q = q} (last {p = p}) o = elim o [ ]
one_from (then k a) this = k
one_from (then k a) (later o) = let h = one_from a o in omega arith

-- none is before a place that is before the start
count_none : (t : ℕ) {p : ℕ} {l : List ℕ} → t ≤ p → Ascending p l → count_before t l ≡ 0
unfolding count_before
count_none t h last = refl
count_none t h (then {q = q} k a) = let x : t ≤ q = omega arith in rw (le-ltb q t x) (count_none t (omega arith) a)

-- the number of one of them is how many are before it
number_count : {t p : ℕ} {l : List ℕ} → Ascending p l → OneOf t l → (k : ℕ) → number_in l t k ≡ k + count_before t l
unfolding number_in count_before
number_count {t = t} (last {p = p}) o m = elim o [ ]
number_count {t = t} (then k a) this m = rw (eq-eqb t t refl, le-ltb t t (omega arith), count_none t (omega arith) a) (omega arith)
number_count {t = t} (then {q = q} k a) (later o) m =
    let h = one_from a o in
    let i = number_count a o (m + 1) in
    rw (ne_eqb q t (λ e. omega arith), lt-ltb q t (omega arith)) (omega arith)

-- a later place has no fewer before it: k more of all of them, where it is k more of those after the first
count_step : (k p : ℕ) {q r : ℕ} (l : List ℕ) → q ≤ r → k + count_before q l ≤ count_before r l → k + count_before q (p ∷ l) ≤ count_before r (p ∷ l)
unfolding count_before
count_step k p {q = q} {r = r} l h i = go (ltb p q) refl
  where
    go : (t : Bool) → ltb p q ≡ t → k + cond t (suc (count_before q l)) (count_before q l) ≤ cond (ltb p r) (suc (count_before r l)) (count_before r l)
    go true e = let u : p < q = ltb-true p q e in rw (lt-ltb p r (omega arith)) (omega arith)
    go false e = cond_elim (λ (j : ℕ). k + count_before q l ≤ j) (ltb p r) _ _ (λ x. omega arith) (λ x. i)

-- so it is with all of them
count_le : {q r : ℕ} → q ≤ r → (l : List ℕ) → count_before q l ≤ count_before r l
unfolding count_before
count_le h [] = omega arith
count_le {q = q} {r = r} h (p ∷ l) =
    let i = count_le h l in
    let j : 0 + count_before q (p ∷ l) ≤ count_before r (p ∷ l) = count_step 0 p l h (omega arith) in
    omega arith

-- and more, where the earlier one is among those counted
count_lt : {q r : ℕ} {l : List ℕ} → OneOf q l → q < r → 1 + count_before q l ≤ count_before r l
unfolding count_before
count_lt {q = q} {r = r} (this {l = l}) h =
    let i = count_le {q = q} {r = r} (omega arith) l in
    rw (le-ltb q q (omega arith), lt-ltb q r h) (omega arith)
count_lt {q = q} {r = r} (later {p = p} {l = l} o) h = count_step 1 p l (omega arith) (count_lt o h)

-- so two of them with as many before them are one
count_own : {q r : ℕ} {l : List ℕ} → OneOf q l → OneOf r l → count_before q l ≡ count_before r l → q ≡ r
count_own {q = q} {r = r} a c e = go (ltb q r) refl (ltb r q) refl
  where
    go : (t : Bool) → ltb q r ≡ t → (u : Bool) → ltb r q ≡ u → q ≡ r
    go true x u y = let h = count_lt a (ltb-true q r x) in let z : ⊥ = omega arith in absurd z
    go false x true y = let h = count_lt c (ltb-true r q y) in let z : ⊥ = omega arith in absurd z
    go false x false y = let h = ltb-false q r x in let k = ltb-false r q y in omega arith

-- ── On the tree ──
one_past : {q : ℕ} (ks : Nodes) {l : List ℕ} → OneOf q l → OneOf q (order ks l)
unfolding order
one_past none o = o
one_past (node r nm ps ks rest) o = later (one_past ks (one_past rest o))

-- a node's place is one of those in document order
pub one_in : {q : ℕ} {nm : List ℕ} {ps : List Property} {ks rest t : Nodes} → Among q nm ps ks rest t → (l : List ℕ) → OneOf q (order t l)
unfolding order
one_in first l = this
one_in (below {rs = rs} a) l = later (one_in a (order rs l))
one_in (after {ks = ks} a) l = later (one_past ks (one_in a l))

one_node : (t : Nodes) (l : List ℕ) {q : ℕ} → OneOf q (order t l) → NodeIn t q ⊎ OneOf q l
unfolding order
one_node none l o = inr o
one_node (node r nm ps ks rest) l this = inl (record { name = nm; properties = ps; kids = ks; rest = rest; among = first })
one_node (node r nm ps ks rest) l (later o) =
    ⊎_elim (λ i. inl (carried i (below i.among)))
    (λ x. ⊎_elim (λ i. inl (carried i (after i.among))) inr (one_node rest l x))
    (one_node ks (order rest l) o)

-- and each of those is a node's
pub node_of : (t : Nodes) {q : ℕ} → OneOf q (order t []) → NodeIn t q
node_of t o = ⊎_elim (λ i. i) (λ x. absurd (not_empty x refl)) (one_node t [] o)
  where
    not_empty : {q : ℕ} {l : List ℕ} → OneOf q l → length l ≡ 0 → ⊥
    not_empty this e = omega arith
    not_empty (later o) e = omega arith

-- past the first of two rows the second ascends
pub ascending_past : (ks : Nodes) (l : List ℕ) {p : ℕ} → Ascending p (order ks l) → (o : ℕ) × Ascending o l
unfolding order
ascending_past none l {p = p} a = (p, a)
ascending_past (node q nm ps ks rest) l (then k a) = ascending_past rest l (ascending_past ks (order rest l) a).1

-- no place is in both
pub apart : {q : ℕ} {nm : List ℕ} {ps : List Property} {kids rest t : Nodes} → Among q nm ps kids rest t → (l : List ℕ) {p : ℕ}
    → Ascending p (order t l) → OneOf q l → ⊥
unfolding order
apart {kids = kids} {rest = rest} first l (then k a) o = let h = one_from a (one_past kids (one_past rest o)) in omega arith
apart (below {rs = rs} x) l (then k a) o = apart x (order rs l) a (one_past rs o)
apart (after {ks = ks} {rs = rs} x) l (then k a) o = apart x l (ascending_past ks (order rs l) a).1 o

-- where places ascend, two nodes at one place are the same node
same_place : {q r : ℕ} {nm om : List ℕ} {ps os : List Property} {kids ls rest rs t : Nodes} → Among q nm ps kids rest t → Among r om os ls rs t
    → (l : List ℕ) {p : ℕ} → Ascending p (order t l) → q ≡ r → SameNode nm om ps os kids ls rest rs
unfolding order
same_place first first l a e = record { name = refl; properties = refl; kids = refl; rest = refl }
same_place first (below {rs = rs} y) l (then k a) e = let h = one_from a (one_in y (order rs l)) in let x : ⊥ = omega arith in absurd x
same_place first (after {ks = ks} y) l (then k a) e = let h = one_from a (one_past ks (one_in y l)) in let x : ⊥ = omega arith in absurd x
same_place (below {rs = rs} x) first l (then k a) e = let h = one_from a (one_in x (order rs l)) in let y : ⊥ = omega arith in absurd y
same_place (below {rs = rs} x) (below y) l (then k a) e = same_place x y (order rs l) a e
same_place (below {rs = rs} x) (after y) l (then k a) e = absurd (apart x (order rs l) a (subst (λ z. OneOf z (order rs l)) (sym e) (one_in y l)))
same_place (after {ks = ks} x) first l (then k a) e = let h = one_from a (one_past ks (one_in x l)) in let y : ⊥ = omega arith in absurd y
same_place (after {rs = rs} x) (below y) l (then k a) e = absurd (apart y (order rs l) a (subst (λ z. OneOf z (order rs l)) e (one_in x l)))
same_place (after {ks = ks} {rs = rs} x) (after y) l (then k a) e = same_place x y l (ascending_past ks (order rs l) a).1 e

same_node : {q : ℕ} {nm om : List ℕ} {ps os : List Property} {kids ls rest rs t : Nodes} → Among q nm ps kids rest t → Among q om os ls rs t
    → (l : List ℕ) {p : ℕ} → Ascending p (order t l) → SameNode nm om ps os kids ls rest rs
same_node x y l a = same_place x y l a refl

-- the number of the first below the first is 1
second_number : (p : ℕ) (ps : List Property) (kids : Nodes) {q : ℕ} → Ascending 0 (order (node p [] ps kids none) []) → head_of kids ≡ Some q
    → number_in (order (node p [] ps kids none) []) q 0 ≡ 1
unfolding order number_in
second_number p ps none a h = no_place h
second_number p ps (node r nm os ks rest) {q = q} (then k (then j a)) h =
    let e : r ≡ q = cc in
    rw (ne_eqb p q (λ u. omega arith), eq-eqb r q e)

-- ── On the blocks ──
module _ (b n : List ℕ) where
  -- a row of nodes that is written from p on, and then places that ascend from wherever it ends
  row_ascending : (ks : Nodes) (ts : List Tok) (p : ℕ) → lex_at b n p ≡ flat_k ks ts → (l : List ℕ) → ((o : ℕ) → lex_at b n o ≡ ts → Ascending o l)
      → Ascending p (order ks l)
  unfolding order
  row_ascending none ts p w l f = f p w
  row_ascending (node q nm ps ks rest) ts p w l f =
      let a = node_at_lem b n p w in
      let c = past_name b n ps p w in
      then a.from
      (ascending_from c.onward
      (row_ascending ks (ended ∷ flat_k rest ts) c.to c.tokens (order rest l) (λ o e.
      let d = end_at_lem b n o e in
      ascending_from d.onward (row_ascending rest ts d.to d.tokens l f))))

  -- THE THEOREMS, on the tree that the blocks are written for. In document order the places of its nodes ascend strictly
  pub ascending : (root : ℕ) (ps : List Property) (kids : Nodes) → WrittenFor b n root ps kids → Ascending 0 (order (node root [] ps kids none) [])
  ascending root ps kids w = row_ascending (node root [] ps kids none) (fin ∷ []) 0 w [] (λ o e. last)

  module _ (root : ℕ) (ps : List Property) (kids : Nodes) (w : WrittenFor b n root ps kids) where
    module _ {q : ℕ} {nm : List ℕ} {os : List Property} {ks rest : Nodes} (a : Among q nm os ks rest (node root [] ps kids none)) where
      -- the number of a node in document order is how many nodes begin before it
      pub number_in_lem : number_in (order (node root [] ps kids none) []) q 0 ≡ count_before q (order (node root [] ps kids none) [])
      number_in_lem = let i = number_count (ascending root ps kids w) (one_in a []) 0 in omega arith

      -- and so is the number that is read
      pub number_is : place_at b n q ≡ count_before q (order (node root [] ps kids none) [])
      number_is = numbered b n root ps kids w q ∙ number_in_lem

      -- at its place there is no other node
      pub only : {om : List ℕ} {rs : List Property} {ls us : Nodes} → Among q om rs ls us (node root [] ps kids none)
          → SameNode nm om os rs ks ls rest us
      only x = same_node a x [] (ascending root ps kids w)

    -- a node's number is its own: two nodes of one number stand at one place
    pub own_number : {q r : ℕ} → NodeIn (node root [] ps kids none) q → NodeIn (node root [] ps kids none) r → place_at b n q ≡ place_at b n r → q ≡ r
    own_number x y e =
        count_own (one_in x.among []) (one_in y.among []) (sym (number_is x.among) ∙ e ∙ number_is y.among)

    -- the root's number is 0
    pub root_number : place_at b n root ≡ 0
    unfolding order number_in
    root_number = numbered b n root ps kids w root ∙ rw (eq-eqb root root refl)

    -- its first child's is 1
    pub child_number : {q : ℕ} → first_at b n root ≡ Some q → place_at b n q ≡ 1
    child_number {q = q} h =
        numbered b n root ps kids w q ∙ second_number root ps kids (ascending root ps kids w) (sym (reads b n root ps kids w first).first ∙ h)
