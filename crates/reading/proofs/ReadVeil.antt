-- Where the trees of two pairs of blocks are equal once the values of free properties are blanked, the blocks read the same but for those
-- values: at each node its name, neighbours, children and properties, each path, and each number in document order. Assumes nothing.
use mathlib.Core.Path.{◌≡◌, refl, sym, ◌∙◌, ap, subst}
use Prim.Native.Nat.{ℕ, ◌+◌}
use native.Mathlib.Omega.{arith}
use mathlib.Core.Bool.{Bool, true, false, cond}
use mathlib.Core.List.{List, [], ◌∷◌}
use lib.ListN.{length}
use Rattle.std.specs.Prelude.{Some}
use Rattle.words.specs.Bytes.{part_of}
use Rattle.words.proofs.BytesLaws.{cond_elim}
use Rattle.fdt.specs.Tree.{Property, Nodes, none, node}
use Rattle.nodes.specs.Nav.{same_bytes, matches, prop_at}
use Rattle.nodes.specs.Path.{steps_from, path_at}
use Rattle.nodes.specs.Order.{place_at, order, number_in}
use Rattle.nodes.specs.Cells.{count_at}
use Rattle.nodes.specs.OnTree.{Among, first, below, after, head_of, lookup_in, find_k, go_k}
use Rattle.reading.specs.Reads.{WrittenFor}
use Rattle.reading.specs.Values.{FirstOf, here, further, ValueOf, value_of, held, count_of}
use Rattle.reading.specs.Paths.{path_in}
use Rattle.grammar.specs.Veil.{Free, blank, veil, veil_p, veil_k}
use Rattle.reading.specs.Veil.{Keeps, SameAt}
use Rattle.reading.proofs.Reading.{reads, numbered}
use Rattle.reading.proofs.Values.{same_equal, held_count, value_found, value_read}
use Rattle.reading.proofs.Paths.{path}

blank_length : (l : List ℕ) → length (blank l) ≡ length l
unfolding blank
blank_length [] = refl
blank_length (x ∷ l) = let i = blank_length l in omega arith

-- ── What the tree says does not look behind the veil ──
module _ (free : Free) where
  veil_length : (x : Property) → length (veil free x).value ≡ length x.value
  unfolding veil
  veil_length x =
      cond_elim (λ (v : List ℕ). length v ≡ length x.value) (free x.at x.name) _ _ (λ e. blank_length x.value) (λ e. refl)

  veil_at : (x : Property) → (veil free x).at ≡ x.at
  unfolding veil
  veil_at x = refl

  veil_name : (x : Property) → (veil free x).name ≡ x.name
  unfolding veil
  veil_name x = refl

  veil_value : (x : Property) → free x.at x.name ≡ false → (veil free x).value ≡ x.value
  unfolding veil
  veil_value x h = rw h

  lookup_veil : (name : List ℕ) (ps : List Property) → lookup_in name (veil_p free ps) ≡ lookup_in name ps
  unfolding lookup_in veil_p
  lookup_veil name [] = refl
  lookup_veil name (x ∷ ps) = rw (veil_name x, veil_at x, veil_length x, lookup_veil name ps)

  -- the value of a name of which no property is free
  pub value_veil : (name : List ℕ) → Keeps free name → (ps : List Property) → value_of name (veil_p free ps) ≡ value_of name ps
  unfolding value_of veil_p
  value_veil name k [] = refl
  value_veil name k (x ∷ ps) = rw (veil_name x, value_veil name k ps) (go (same_bytes x.name name) refl)
    where
      go : (t : Bool) → same_bytes x.name name ≡ t
          → cond t (Some (veil free x).value) (value_of name ps) ≡ cond t (Some x.value) (value_of name ps)
      go true e = let i = same_equal x.name name e in let j : free x.at x.name ≡ false = rw i (k x.at) in ap Some (veil_value x j)
      go false e = refl

  -- the first property of a name, veiled, is the first of it among the veiled ones
  first_veil : {name : List ℕ} {x : Property} {ps : List Property} → FirstOf name x ps → FirstOf name (veil free x) (veil_p free ps)
  unfolding veil_p
  first_veil (here {x = x} e) = here (veil_name x ∙ e)
  first_veil (further {y = y} e f) = further (λ h. e (sym (veil_name y) ∙ h)) (first_veil f)

  head_veil : (t : Nodes) → head_of (veil_k free t) ≡ head_of t
  unfolding veil_k
  head_veil none = refl
  head_veil (node q nm ps kids rest) = refl

  pub veil_cond : (t : Bool) (x y : Nodes) → veil_k free (cond t x y) ≡ cond t (veil_k free x) (veil_k free y)
  veil_cond true x y = refl
  veil_cond false x y = refl

  pub find_veil : (step : List ℕ) (ks : Nodes) → find_k step (veil_k free ks) ≡ veil_k free (find_k step ks)
  unfolding find_k veil_k
  find_veil step none = refl
  find_veil step (node q nm ps kids rest) =
      rw (find_veil step rest) (sym (veil_cond (matches nm step) (node q nm ps kids rest) (find_k step rest)))

  go_veil : (steps : List (List ℕ)) (t : Nodes) → go_k (veil_k free t) steps ≡ go_k t steps
  unfolding go_k veil_k
  go_veil [] t = head_veil t
  go_veil ([] ∷ steps) t = refl
  go_veil ((x ∷ step) ∷ steps) none = refl
  go_veil ((x ∷ step) ∷ steps) (node q nm ps kids rest) = rw (find_veil (x ∷ step) kids) (go_veil steps (find_k (x ∷ step) kids))

  path_veil : (t : Nodes) (p : List ℕ) → path_in (veil_k free t) p ≡ path_in t p
  unfolding path_in
  path_veil t p = rw (head_veil t, go_veil (steps_from (length p) p 1) t)

  pub order_veil : (t : Nodes) (l : List ℕ) → order (veil_k free t) l ≡ order t l
  unfolding order veil_k
  order_veil none l = refl
  order_veil (node q nm ps kids rest) l = rw (order_veil rest l, order_veil kids (order rest l))

-- there is one first property of a name
first_only : {name : List ℕ} {x y : Property} {ps : List Property} → FirstOf name x ps → FirstOf name y ps → x ≡ y
first_only (here e) (here f) = refl
first_only (here e) (further n f) = absurd (n e)
first_only (further n e) (here f) = absurd (n f)
first_only (further n e) (further m f) = first_only e f

-- ── A node and its like in the other tree ──
record Twin (free : Free) (q : ℕ) (nm : List ℕ) (vs : List Property) (vk vr u : Nodes) : Type 0 where
  properties : List Property
  kids : Nodes
  rest : Nodes
  among : Among q nm properties kids rest u
  same_properties : vs ≡ veil_p free properties
  same_kids : vk ≡ veil_k free kids
  same_rest : vr ≡ veil_k free rest

module _ (free : Free) {q : ℕ} {nm : List ℕ} where
  veiled : {ps : List Property} {ks rest t : Nodes} → Among q nm ps ks rest t
      → Among q nm (veil_p free ps) (veil_k free ks) (veil_k free rest) (veil_k free t)
  unfolding veil_k
  veiled first = first
  veiled (below a) = below (veiled a)
  veiled (after a) = after (veiled a)

  -- the like of a node among t's that is among u's
  lifted : {vs : List Property} {vk vr t u : Nodes} (i : Twin free q nm vs vk vr t) → Among q nm i.properties i.kids i.rest u
      → Twin free q nm vs vk vr u
  lifted i a =
      record {
        properties = i.properties;
        kids = i.kids;
        rest = i.rest;
        among = a;
        same_properties = i.same_properties;
        same_kids = i.same_kids;
        same_rest = i.same_rest;
      }

  -- behind each node of a veiled tree stands its like
  behind : (u : Nodes) {vs : List Property} {vk vr : Nodes} → Among q nm vs vk vr (veil_k free u) → Twin free q nm vs vk vr u
  unfolding veil_k
  behind none a = elim a [ ]
  behind (node r om os ls rs) first =
      record { properties = os; kids = ls; rest = rs; among = first; same_properties = refl; same_kids = refl; same_rest = refl }
  behind (node r om os ls rs) (below a) = let i = behind ls a in lifted i (below i.among)
  behind (node r om os ls rs) (after a) = let i = behind rs a in lifted i (after i.among)

-- what does not look behind the veil is the same of two things that are equal once veiled
alike : {A B : Type 0} (over : A → A) (f : A → B) → ((x : A) → f (over x) ≡ f x) → {x y : A} → over x ≡ over y → f x ≡ f y
alike over f h {x = x} {y = y} e = sym (h x) ∙ ap f e ∙ h y

first_name : {name : List ℕ} {x : Property} {ps : List Property} → FirstOf name x ps → x.name ≡ name
first_name (here e) = e
first_name (further n f) = first_name f

-- the first property of a name that is not free has one value in both
value_alike : (free : Free) (b c : List ℕ) (name : List ℕ) (ps os : List Property) → veil_p free ps ≡ veil_p free os → (at len : ℕ)
    → free at name ≡ false
    → ValueOf b name ps (at + 12) len → ValueOf c name os (at + 12) len → part_of b (at + 12) len ≡ part_of c (at + 12) len
value_alike free b c name ps os e at len h x y =
    let z : veil free x.property ≡ veil free y.property =
    first_only (subst (FirstOf name (veil free x.property)) e (first_veil free x.is)) (first_veil free y.is) in
    x.value ∙ sym (clear x.property x.is x.starts) ∙ ap (λ (p : Property). p.value) z ∙ clear y.property y.is y.starts ∙ sym y.value
  where
    clear : (p : Property) {qs : List Property} → FirstOf name p qs → at + 12 ≡ p.at + 12 → (veil free p).value ≡ p.value
    clear p f s =
        let i : p.at ≡ at = omega arith in
        let j : p.name ≡ name = first_name f in
        veil_value free p (rw (i, j) h)

-- ── On the blocks ──
module _ (free : Free) (b n c m : List ℕ) (root other : ℕ) (ps os : List Property) (kids ls : Nodes)
    (w : WrittenFor b n root ps kids) (v : WrittenFor c m other os ls)
    (e : veil_k free (node root [] ps kids none) ≡ veil_k free (node other [] os ls none)) where
  -- THE THEOREMS, for blocks b and n, and c and m, whose trees are equal once veiled. Each path leads to the same place
  pub same_paths : (p : List ℕ) → path_at b n p ≡ path_at c m p
  same_paths p =
      path b n root ps kids w p ∙ alike (veil_k free) (λ t. path_in t p) (λ t. path_veil free t p) e ∙ sym (path c m other os ls v p)

  -- each place has the same number in document order
  pub same_numbers : (q : ℕ) → place_at b n q ≡ place_at c m q
  same_numbers q =
      numbered b n root ps kids w q
      ∙ ap (λ (l : List ℕ). number_in l q 0) (alike (veil_k free) (λ t. order t []) (λ t. order_veil free t []) e)
      ∙ sym (numbered c m other os ls v q)

  module _ {q : ℕ} {nm : List ℕ} {xs : List Property} {ks rest : Nodes} (a : Among q nm xs ks rest (node root [] ps kids none)) where
    -- at the place of each node of the one stands a node of the other
    twin : Twin free q nm (veil_p free xs) (veil_k free ks) (veil_k free rest) (node other [] os ls none)
    twin = behind free (node other [] os ls none) (subst (Among q nm (veil_p free xs) (veil_k free ks) (veil_k free rest)) e (veiled free a))

    -- a property's value has the same place and length
    same_property : (name : List ℕ) → prop_at b n q name ≡ prop_at c m q name
    same_property name =
        (reads b n root ps kids w a).property name ∙ alike (veil_p free) (lookup_in name) (lookup_veil free name) twin.same_properties
        ∙ sym ((reads c m other os ls v twin.among).property name)

    -- at each node the two read the same
    pub same_at : SameAt free b n c m q
    same_at =
        let r = reads b n root ps kids w a in
        let s = reads c m other os ls v twin.among in
        record {
          named = r.named ∙ sym s.named;
          first = r.first ∙ alike (veil_k free) head_of (head_veil free) twin.same_kids ∙ sym s.first;
          next = r.next ∙ alike (veil_k free) head_of (head_veil free) twin.same_rest ∙ sym s.next;
          property = same_property;
          value = λ name at len h f.
              value_alike free b c name xs twin.properties twin.same_properties at len f (value_found b n root ps kids w a name h)
              (value_found c m other os ls v twin.among name (sym (same_property name) ∙ h));
          child = λ step.
              r.child step
              ∙ alike (veil_k free) (λ k. head_of (find_k step k)) (λ k. ap head_of (find_veil free step k) ∙ head_veil free (find_k step k)) twin.same_kids
              ∙ sym (s.child step);
        }

    module _ (name : List ℕ) (k : Keeps free name) where
      -- and the value of a name of which no property is free is the same
      pub same_value : held b (prop_at b n q name) ≡ held c (prop_at c m q name)
      same_value =
          value_read b n root ps kids w a name ∙ alike (veil_p free) (value_of name) (value_veil free name k) twin.same_properties
          ∙ sym (value_read c m other os ls v twin.among name)

      -- and so is a count of cells of that name
      pub same_count : count_at b n q name ≡ count_at c m q name
      unfolding count_at
      same_count = held_count b (prop_at b n q name) ∙ ap count_of same_value ∙ sym (held_count c (prop_at c m q name))
