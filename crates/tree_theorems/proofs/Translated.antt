-- What translation gives. On every tree: its number is 0 exactly where no address is found, and a target that has one is a node below the
-- root. On an accepted tree: any other number is the target's place in document order; and a root's child lies where the claims of
-- interrupt controllers put it. Assumes nothing.
use Rattle.std.specs.Prelude.{Option, Some, None, Ok}
use mathlib.Core.Path.{◌≡◌, refl, sym, ◌∙◌, ap, subst}
use mathlib.Core.Logic.{◌↔◌, ◌⊎◌, inl, inr, ⊎_elim}
use mathlib.Core.Bool.{Bool, true, false, cond}
use mathlib.Core.List.{List, [], ◌∷◌}
use Prim.Native.Nat.{ℕ, zero, suc, ◌+◌, ◌≤◌, ◌<◌}
use native.Mathlib.Omega.{arith}
use lib.Dec.{eqb}
use borrow.Author.Tests.{eq-eqb, ne_eqb, eqb-true}
use Rattle.words.proofs.BytesLaws.{never, cond_elim}
use Rattle.cells.specs.declared.Region.{Region}
use Rattle.cells.specs.Rows.{rows}
use Rattle.fdt.specs.declared.Blocks.{Blocks}
use Rattle.fdt.specs.Header.{structure_of, strings_of}
use Rattle.fdt.specs.Tree.{Property, Nodes, none, node, tree_of}
use Rattle.fdt.specs.Opening.{opened_of}
use Rattle.nodes.specs.OnTree.{Among, first, below, after, kids_of}
use Rattle.nodes.specs.Order.{place_at, order, number_in}
use Rattle.reading.specs.Paths.{NodeIn}
use Rattle.reading.specs.Order.{Ascending, OneOf, this, later}
use Rattle.reading.specs.Values.{value_of}
use Rattle.reading.specs.Reads.{WrittenFor}
use Rattle.reading.proofs.Paths.{carried}
use Rattle.reading.proofs.Reading.{numbered}
use Rattle.reading.proofs.Order.{one_in, ascending_past, apart, ascending}
use Rattle.reading.proofs.Opened.{on_written}
use Rattle.windows.specs.declared.Window.{Window}
use Rattle.windows.specs.declared.Window.TheVariants.{To, Nowhere, Unreadable}
use Rattle.subtree.specs.Names.{reg_name}
use Rattle.subtree.specs.Subtree.{props_of}
use Rattle.translation.specs.declared.Sought.{Sought}
use Rattle.translation.specs.declared.Sought.TheVariants.{Given}
use Rattle.translation.specs.declared.Translated.{Translated}
use Rattle.translation.specs.Translation.{address_of, size_of, or_else, trail, climb, climbed, Start, from, no_start, start_of, answer, from_start, parent_of, along_trail, translated, tried_number, reached}
use Rattle.claims.specs.declared.Way.TheVariants.{Controllers}
use Rattle.claims.specs.Claims.{lands_by}
use Rattle.tree_theorems.specs.Children.{Child, this as child-first, later as child-later}
use Rattle.tree_theorems.specs.Addresses.{HasAddress}

-- ── The trail ──
-- where there is one, its target is a node
trail_node : (q : ℕ) (ks : Nodes) (above : List (List Property)) → (trail q ks above ≡ []) ⊎ NodeIn ks q
unfolding trail
trail_node q none above = inl refl
trail_node q (node p nm ps kids rest) above = go (eqb p q) refl (trail_node q kids (ps ∷ above)) (trail_node q rest above)
  where
    go : (t : Bool) → eqb p q ≡ t → (trail q kids (ps ∷ above) ≡ []) ⊎ NodeIn kids q → (trail q rest above ≡ []) ⊎ NodeIn rest q
        → (cond t (ps ∷ above) (or_else (trail q kids (ps ∷ above)) (trail q rest above)) ≡ []) ⊎ NodeIn (node p nm ps kids rest) q
    go true e x y =
        inr (subst (NodeIn (node p nm ps kids rest)) (eqb-true _ _ e) (record { name = nm; properties = ps; kids = kids; rest = rest; among = first }))
    go false e (inl x) (inl y) = inl (rw (x, y))
    go false e (inl x) (inr i) = inr (carried i (after i.among))
    go false e (inr i) y = inr (carried i (below i.among))

-- and past a node with none in it, it is that of its siblings
trail_past : (q p : ℕ) (nm : List ℕ) (os : List Property) (kids rest : Nodes) (above : List (List Property))
    → trail q (node p nm os kids none) above ≡ [] → trail q (node p nm os kids rest) above ≡ trail q rest above
unfolding trail
trail_past q p nm os kids rest above = go (eqb p q) (trail q kids (os ∷ above))
  where
    go : (t : Bool) (l : List (List Property)) → cond t (os ∷ above) (or_else l []) ≡ [] → cond t (os ∷ above) (or_else l (trail q rest above)) ≡ trail q rest above
    go true l e = never (cc)
    go false [] e = refl
    go false (x ∷ l) e = never (cc)

-- a child is a node of its row
child_node : {q : ℕ} {ps : List Property} {ks : Nodes} → Child q ps ks → NodeIn ks q
child_node {ps = ps} (child-first {nm = nm} {kids = kids} {rest = rest}) = record { name = nm; properties = ps; kids = kids; rest = rest; among = first }
child_node (child-later x) = let i = child_node x in carried i (after i.among)

-- where places ascend no node before a child in document order has its place, so the trail leads to the child
trail_child : {q : ℕ} {ps : List Property} {ks : Nodes} → Child q ps ks → (above : List (List Property)) {p : ℕ} → Ascending p (order ks [])
    → trail q ks above ≡ ps ∷ above
unfolding trail order
trail_child {q = q} child-first above a = rw (eq-eqb q q refl)
trail_child {q = q} (child-later {p = p} {nm = nm} {os = os} {kids = kids} {rest = rest} x) above a =
    let o = one_in (child_node x).among [] in
    let e : trail q (node p nm os kids none) above ≡ [] =
    ⊎_elim (λ z. z) (λ i. absurd (apart i.among (order rest []) a o)) (trail_node q (node p nm os kids none) above) in
    trail_past q p nm os kids rest above e ∙ trail_child x above (ascending_past (node p nm os kids none) (order rest []) a).1

-- ── What is found ──
-- the number of a found address is the number that was handed on
answer_number_lem : (w : Window) (size k : ℕ) {r : Region} {n : ℕ} → answer w size k ≡ Some (reached r n) → n ≡ k
answer_number_lem (To x) size k e = ap tried_number (sym e)
answer_number_lem Nowhere size k e = never (cc)
answer_number_lem Unreadable size k e = never (cc)

start_number : (s : Start) (above : List (List Property)) (k : ℕ) {r : Region} {n : ℕ} → from_start s above k ≡ Some (reached r n) → n ≡ k
start_number (from r) above k e = answer_number_lem (climbed above r.address r.size) r.size k e
start_number no_start above k e = never (cc)

-- and there was a trail
trail_number : (l : List (List Property)) (s : Sought) (k : ℕ) {r : Region} {n : ℕ} → along_trail l s k ≡ Some (reached r n) → (n ≡ k) × (l ≡ [] → ⊥)
trail_number [] s k e = never (cc)
trail_number (own ∷ above) s k e =
    (start_number (start_of s (address_of (parent_of above)) (size_of (parent_of above)) (value_of reg_name own)) above k e, λ z. never (cc))

-- the number of one of these places is no less than that of the first
number_from : {q : ℕ} {l : List ℕ} → OneOf q l → (m : ℕ) → m ≤ number_in l q m
unfolding number_in
number_from {q = q} this m = rw (eq-eqb q q refl) (omega arith)
number_from {q = q} (later {p = p} {l = l} o) m =
    let i = number_from o (m + 1) in
    cond_elim (λ (x : ℕ). m ≤ x) (eqb p q) _ _ (λ e. omega arith) (λ e. omega arith)

-- ── On every tree ──
module _ (t : Nodes) (q : ℕ) (sought : Sought) where
  -- "A target that is no node below the root: none."
  pub found_below : HasAddress (translated t q sought) → NodeIn (kids_of t) q
  unfolding translated
  found_below h =
      ⊎_elim (λ z. absurd ((trail_number (trail q (kids_of t) (props_of t ∷ [])) sought (number_in (order (kids_of t) []) q 1) h.found).1 z)) (λ i. i)
      (trail_node q (kids_of t) (props_of t ∷ []))

  -- a found address has a number from 1 on, and that is the number which is given
  found_number : (h : HasAddress (translated t q sought)) → 1 ≤ h.number
  unfolding translated
  found_number h =
      let e = (trail_number (trail q (kids_of t) (props_of t ∷ [])) sought (number_in (order (kids_of t) []) q 1) h.found).0 in
      let i = number_from (one_in (found_below h).among []) 1 in
      omega arith

  number_of : (h : HasAddress (translated t q sought)) → tried_number (translated t q sought) ≡ h.number
  number_of h = ap tried_number h.found

  -- where a number above 0 is given, there is one
  found_where : (k : ℕ) → tried_number (translated t q sought) ≡ k → 0 < k → HasAddress (translated t q sought)
  found_where k = go (translated t q sought) refl
    where
      go : (x : Option Translated) → translated t q sought ≡ x → tried_number x ≡ k → 0 < k → HasAddress (translated t q sought)
      go (Some x) e h l = record { region = x.region; number = x.tried; found = e }
      go None e h l = let z : ⊥ = omega arith in absurd z

  -- THE THEOREM: "A failure gives 0.", and nothing else does
  pub failure_exactly : (tried_number (translated t q sought) ≡ 0) ↔ (HasAddress (translated t q sought) → ⊥)
  failure_exactly = (
    (λ e h. let i = found_number h in let j = number_of h in omega arith),
    (λ f. go (tried_number (translated t q sought)) refl f),
  )
    where
      go : (k : ℕ) → tried_number (translated t q sought) ≡ k → (HasAddress (translated t q sought) → ⊥) → tried_number (translated t q sought) ≡ 0
      go zero e f = e
      go (suc k) e f = absurd (f (found_where (suc k) e (omega arith)))

-- ── On the tree that the blocks are written for ──
module _ (b n : List ℕ) (root : ℕ) (ps : List Property) (kids : Nodes) (w : WrittenFor b n root ps kids) where
  -- the root without what is below it: in document order it stands before its children
  abbrev alone : Nodes
  alone = node root [] ps none none

  -- no node below the root stands at its place
  below_root : {q : ℕ} → NodeIn kids q → root ≡ q → ⊥
  unfolding order
  below_root i e =
      let f : Among root [] ps none none alone = first in
      apart f (order kids []) (ascending b n root ps kids w) (rw e (one_in i.among []))

  tried_written : (q : ℕ) (s : Sought) {r : Region} {k : ℕ} → translated (node root [] ps kids none) q s ≡ Some (reached r k) → k ≡ place_at b n q
  unfolding translated order number_in
  tried_written q s e =
      let f = trail_number (trail q kids (ps ∷ [])) s (number_in (order kids []) q 1) e in
      let i : NodeIn kids q = ⊎_elim (λ z. absurd (f.1 z)) (λ i. i) (trail_node q kids (ps ∷ [])) in
      f.0 ∙ sym (numbered b n root ps kids w q ∙ rw (ne_eqb root q (below_root i)))

  child_written : {q : ℕ} {os : List Property} → Child q os kids → (r : Region) → translated (node root [] ps kids none) q (Given r)
      ≡ answer (lands_by Controllers (rows []) r.address r.size) r.size (number_in (order kids []) q 1)
  unfolding translated lands_by climbed climb order
  child_written c r = rw (trail_child c (ps ∷ []) (ascending_past alone (order kids []) (ascending b n root ps kids w)).1)

-- THE THEOREMS
module _ (s : List ℕ) (k : Blocks) (o : opened_of s ≡ Ok (Some k)) where
  abbrev tree : Nodes
  tree = tree_of (structure_of s) (strings_of s)

  -- the number of nodes tried is the target's place in document order, as reading gives it
  pub tried_is_place : (q : ℕ) (sought : Sought) (r : Region) (n : ℕ) → translated tree q sought ≡ Some (reached r n)
      → n ≡ place_at (structure_of s) (strings_of s) q
  tried_is_place q sought r n e =
      on_written s k o (λ t. translated t q sought ≡ Some (reached r n) → n ≡ place_at (structure_of s) (strings_of s) q)
      (λ root ps kids w. tried_written (structure_of s) (strings_of s) root ps kids w q sought) e

  -- THE THEOREM: a number above 0 is given exactly when an address is found and the number is the target's place in document order
  pub number_exactly : (q : ℕ) (sought : Sought) (n : ℕ) → 0 < n
      → (tried_number (translated tree q sought) ≡ n) ↔ (HasAddress (translated tree q sought) × (n ≡ place_at (structure_of s) (strings_of s) q))
  number_exactly q sought n l =
      let is : HasAddress (translated tree q sought) → tried_number (translated tree q sought) ≡ place_at (structure_of s) (strings_of s) q =
      λ h. number_of tree q sought h ∙ tried_is_place q sought h.region h.number h.found in (
        (λ e. let h = found_where tree q sought n e l in (h, sym e ∙ is h)),
        (λ h. is h.0 ∙ sym h.1),
      )

  -- a child of the root, by its place: no bus stands between
  pub root_child : (q : ℕ) (ps : List Property) → Child q ps (kids_of tree) → (r : Region)
      → translated tree q (Given r) ≡ answer (lands_by Controllers (rows []) r.address r.size) r.size (number_in (order (kids_of tree) []) q 1)
  root_child q ps c r =
      on_written s k o
      (λ t. Child q ps (kids_of t) → translated t q (Given r)
      ≡ answer (lands_by Controllers (rows []) r.address r.size) r.size (number_in (order (kids_of t) []) q 1))
      (λ root os kids w d. child_written (structure_of s) (strings_of s) root os kids w d r) c
