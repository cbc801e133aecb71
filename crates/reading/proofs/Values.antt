-- Two names are the same bytes exactly when they are equal; and a lookup at a node's place finds exactly the first property of the name,
-- with its value. Assumes nothing.
use mathlib.Core.Path.{◌≡◌, refl, sym, ◌∙◌, ap}
use Prim.Native.Nat.{ℕ, ◌+◌}
use native.Mathlib.Omega.{arith}
use mathlib.Core.Bool.{Bool, true, false, cond}
use mathlib.Core.List.{List, [], ◌∷◌}
use lib.ListN.{length}
use lib.Dec.{eqb}
use borrow.Author.Tests.{eqb-true, eq-eqb}
use Rattle.std.specs.Prelude.{Option, Some, None}
use Rattle.words.proofs.BytesLaws.{cond_elim}
use Rattle.fdt.specs.Tree.{Property, Nodes, none, node, Tok, ended, flat_p, flat_k, lex_at}
use Rattle.fdt.specs.declared.Block.{Block}
use Rattle.fdt.specs.Opening.{block}
use Rattle.nodes.specs.Nav.{same_bytes, prop_at}
use Rattle.nodes.specs.Cells.{count_in, count_at}
use Rattle.nodes.specs.OnTree.{Among, lookup_in}
use Rattle.reading.specs.Reads.{WrittenFor, value_in}
use Rattle.reading.specs.Values.{FirstOf, here, further, NoneOf, no_property, other, InPlace, no_more, in_place, ValueOf, value_of, held, or_none, count_of}
use Rattle.reading.proofs.Places.{node_at_lem, property_at}
use Rattle.reading.proofs.Reading.{row_of, whole, reads}

no_true : {A : Type 0} → false ≡ true → A
no_true e = let z : ◌≡◌ {A = ℕ} 0 1 = cc in let x : ⊥ = omega arith in absurd x

-- ── Names ──
-- the same bytes are equal
pub same_equal : (x y : List ℕ) → same_bytes x y ≡ true → x ≡ y
unfolding same_bytes
same_equal [] [] h = refl
same_equal [] (d ∷ y) h = no_true h
same_equal (c ∷ x) [] h = no_true h
same_equal (c ∷ x) (d ∷ y) h =
    cond_elim (λ (t : Bool). t ≡ true → c ∷ x ≡ d ∷ y) (eqb c d) _ _ (λ e u. let i = same_equal x y u in let j = eqb-true c d e in cc)
    (λ e u. no_true u) h

same_self : (x : List ℕ) → same_bytes x x ≡ true
unfolding same_bytes
same_self [] = refl
same_self (c ∷ x) = rw (eq-eqb c c refl, same_self x)

-- and equal ones are the same bytes
pub equal_same : (x y : List ℕ) → x ≡ y → same_bytes x y ≡ true
equal_same x y e = rw e (same_self y)

-- other bytes are not equal, and the other way round
pub other_unequal : (x y : List ℕ) → same_bytes x y ≡ false → x ≡ y → ⊥
other_unequal x y h e = no_true (sym h ∙ equal_same x y e)

pub unequal_other : (x y : List ℕ) → (x ≡ y → ⊥) → same_bytes x y ≡ false
unequal_other x y h = go (same_bytes x y) refl
  where
    go : (t : Bool) → same_bytes x y ≡ t → same_bytes x y ≡ false
    go true e = absurd (h (same_equal x y e))
    go false e = e

-- ── Values ──
module _ (name : List ℕ) where
  -- a lookup finds each first property of its name
  first_found : {x : Property} {ps : List Property} → FirstOf name x ps → lookup_in name ps ≡ Some (block (x.at + 12) (length x.value))
  unfolding lookup_in
  first_found (here {x = x} e) = rw (equal_same x.name name e)
  first_found (further {y = y} e f) = rw (unequal_other y.name name e) (first_found f)

  -- where it finds nothing, there is none
  missing_none : (ps : List Property) → lookup_in name ps ≡ None → NoneOf name ps
  unfolding lookup_in
  missing_none [] h = no_property
  missing_none (x ∷ ps) h =
      cond_elim (λ (v : Option Block). v ≡ None → NoneOf name (x ∷ ps)) (same_bytes x.name name) _ _
      (λ e u. let z : ◌≡◌ {A = ℕ} 0 1 = cc in let y : ⊥ = omega arith in absurd y)
      (λ e u. other (other_unequal x.name name e) (missing_none ps u))
      h

  module _ (b : List ℕ) where
    -- among properties that have their values in the block, what a lookup finds is the first property of its name, with its value
    found_first : {ps : List Property} → InPlace b ps → {at len : ℕ} → lookup_in name ps ≡ Some (block at len) → ValueOf b name ps at len
    unfolding lookup_in
    found_first no_more h = let z : ◌≡◌ {A = ℕ} 0 1 = cc in let x : ⊥ = omega arith in absurd x
    found_first (in_place {x = x} {ps = ps} k i) {at = at} {len = len} h =
        cond_elim (λ (v : Option Block). v ≡ Some (block at len) → ValueOf b name (x ∷ ps) at len) (same_bytes x.name name) _ _
        (λ e u.
        let w : block (x.at + 12) (length x.value) ≡ block at len = cc in
        let c : at ≡ x.at + 12 = sym (ap (λ (v : Block). v.at) w) in
        let d : len ≡ length x.value = sym (ap (λ (v : Block). v.len) w) in
        record { property = x; is = here (same_equal x.name name e); starts = c; long = d; value = rw (c, d) k })
        (λ e u.
        let v = found_first i u in
        record { property = v.property; is = further (other_unequal x.name name e) v.is; starts = v.starts; long = v.long; value = v.value })
        h

    value_first : {ps : List Property} → InPlace b ps → held b (lookup_in name ps) ≡ value_of name ps
    unfolding lookup_in value_of
    value_first no_more = refl
    value_first (in_place {x = x} {ps = ps} k i) = go (same_bytes x.name name) (value_first i)
      where
        go : (t : Bool) → held b (lookup_in name ps) ≡ value_of name ps
            → held b (cond t (Some (block (x.at + 12) (length x.value))) (lookup_in name ps)) ≡ cond t (Some x.value) (value_of name ps)
        go true e = ap Some k
        go false e = e

-- what is made of the bytes that a lookup points to
held_bytes : (b : List ℕ) (v : Option Block) → value_in b v ≡ or_none (held b v)
held_bytes b (Some v) = refl
held_bytes b None = refl

pub held_count : (b : List ℕ) (v : Option Block) → count_in b v ≡ count_of (held b v)
held_count b (Some v) = refl
held_count b None = refl

-- properties that are written from p on have their values in the block
all_in_place : (b n : List ℕ) (ps : List Property) (ts : List Tok) (p : ℕ) → lex_at b n p ≡ flat_p ps ts → InPlace b ps
all_in_place b n [] ts p w = no_more
all_in_place b n (x ∷ ps) ts p w =
    let a = property_at b n p w in
    in_place a.part (all_in_place b n ps ts a.next (sym a.tokens))

module _ (b n : List ℕ) (root : ℕ) (ps : List Property) (kids : Nodes) (w : WrittenFor b n root ps kids)
    {q : ℕ} {nm : List ℕ} {os : List Property} {ks rest : Nodes}
    (a : Among q nm os ks rest (node root [] ps kids none)) where
  -- THE THEOREMS, at each node of the tree that the blocks are written for. Each property has its value in the block
  pub values : InPlace b os
  values =
      let r = row_of b n a (whole b n root ps kids w) in
      let x = node_at_lem b n r.from r.tokens in
      all_in_place b n os (flat_k ks (ended ∷ flat_k rest r.end)) x.next (sym x.tokens)

  module _ (name : List ℕ) where
    -- what is found is the first property of the name, with its value
    pub value_found : {at len : ℕ} → prop_at b n q name ≡ Some (block at len) → ValueOf b name os at len
    value_found h = found_first name b values (sym ((reads b n root ps kids w a).property name) ∙ h)

    -- the first property of the name is found
    pub first_read : {x : Property} → FirstOf name x os → prop_at b n q name ≡ Some (block (x.at + 12) (length x.value))
    first_read f = (reads b n root ps kids w a).property name ∙ first_found name f

    -- where nothing is found, no property has the name
    pub none_read : prop_at b n q name ≡ None → NoneOf name os
    none_read h = missing_none name os (sym ((reads b n root ps kids w a).property name) ∙ h)

    -- and so the value that is read is that of the first property of the name, where there is one
    pub value_read : held b (prop_at b n q name) ≡ value_of name os
    value_read = ap (held b) ((reads b n root ps kids w a).property name) ∙ value_first name b values

    -- as bytes, none where there is none
    pub bytes_read : value_in b (prop_at b n q name) ≡ or_none (value_of name os)
    bytes_read = held_bytes b (prop_at b n q name) ∙ ap or_none value_read

    -- a count of cells is what that value states
    pub count_read : count_at b n q name ≡ count_of (value_of name os)
    unfolding count_at
    count_read = held_count b (prop_at b n q name) ∙ ap count_of value_read
