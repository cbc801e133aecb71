-- The search of specs/Search.antt gives what specs/Translation.antt says, on every tree (search_is), and a search that goes on has counted
-- every node that it passed (on-count). Both by induction on the tree; of the tree's bytes nothing is used. Assumes nothing.
use mathlib.Core.Path.{◌≡◌, refl, sym, ◌∙◌, ap, ap₂}
use mathlib.Core.Bool.{Bool, true, false, cond}
use mathlib.Core.List.{List, [], ◌∷◌}
use Prim.Native.Nat.{ℕ, suc, ◌+◌}
use native.Mathlib.Omega.{arith}
use lib.Dec.{eqb}
use Rattle.words.proofs.BytesLaws.{never}
use Rattle.cells.specs.declared.CellCount.{CellCount}
use Rattle.fdt.specs.Tree.{Property, Nodes, none, node, count}
use Rattle.nodes.specs.OnTree.{kids_of}
use Rattle.nodes.specs.Order.{order, number_in}
use Rattle.reading.specs.Values.{value_of}
use Rattle.windows.specs.declared.Window.{Window}
use Rattle.windows.specs.declared.Window.TheVariants.{To, Nowhere, Unreadable}
use Rattle.subtree.specs.Subtree.{props_of}
use Rattle.translation.specs.declared.Sought.{Sought}
use Rattle.translation.specs.declared.Search.{Search}
use Rattle.translation.specs.declared.Search.TheVariants.{Gone, Lost, On}
use Rattle.subtree.specs.Names.{reg_name}
use Rattle.translation.specs.Translation.{address_of, size_of, or_else, trail, over, onward, climb, arrived, climbed, Start, from, no_start, start_of, answer, parent_of, along_trail, from_start, translated}
use Rattle.translation.specs.Search.{begun_at, via_window, up_through, or_on, tried, searched, finished}

-- ── Through one window and then another ──

-- a search that came through a window does not go on
via_or : (w : Window) (size k : ℕ) (g : ℕ → Search) → or_on (via_window w size k) g ≡ via_window w size k
via_or (To x) size k g = refl
via_or Nowhere size k g = refl
via_or Unreadable size k g = refl

module _ (f : ℕ → ℕ → Window) where
  up_via : (w : Window) (size k : ℕ) (g : ℕ → Search)
      → up_through f (or_on (via_window w size k) g) ≡ or_on (via_window (onward w (λ x. f x size)) size k) (λ m. up_through f (g m))
  up_via (To x) size k g = sym (via_or (f x size) size k (λ m. up_through f (g m)))
  up_via Nowhere size k g = refl
  up_via Unreadable size k g = refl

  -- through a bus and then through f, or what comes after the bus and then through f
  up_up : (b : ℕ → ℕ → Window) (r : Search) (g : ℕ → Search)
      → up_through f (or_on (up_through b r) g) ≡ or_on (up_through (λ x size. onward (b x size) (λ y. f y size)) r) (λ m. up_through f (g m))
  up_up b (Gone x size k) g = up_via (b x size) size k g
  up_up b Lost g = refl
  up_up b (On m) g = refl

-- ── The count of the nodes that were passed ──
begun_stops : {A : Type 0} (r : Start) (n m : ℕ) → begun_at r n ≡ On m → A
begun_stops no_start n m e = never (cc)
begun_stops (from r) n m e = never (cc)

via_stops : {A : Type 0} (w : Window) (size k m : ℕ) → via_window w size k ≡ On m → A
via_stops (To x) size k m e = never (cc)
via_stops Nowhere size k m e = never (cc)
via_stops Unreadable size k m e = never (cc)

up_on : (w : ℕ → ℕ → Window) (r : Search) (m : ℕ) → up_through w r ≡ On m → r ≡ On m
up_on w (Gone x size k) m e = via_stops (w x size) size k m e
up_on w Lost m e = never (cc)
up_on w (On j) m e = e

or_on_lem : {A : Type 0} (r : Search) (g : ℕ → Search) (m : ℕ) → or_on r g ≡ On m → ((j : ℕ) → r ≡ On j → g j ≡ On m → A) → A
or_on_lem (Gone x size k) g m e f = never (cc)
or_on_lem Lost g m e f = never (cc)
or_on_lem (On j) g m e f = f j refl e

module _ (target : ℕ) (s : Sought) where
  -- a node that is not the target goes on as its children do
  pub tried_on : (q : ℕ) (ps : List Property) (a c : CellCount) (n : ℕ) (inner : Search) (m : ℕ) → tried target s q ps a c n inner ≡ On m → inner ≡ On m
  unfolding tried
  tried_on q ps a c n inner m e = go (eqb q target) e
    where
      go : (b : Bool) → cond b (begun_at (start_of s a c (value_of reg_name ps)) (n + 1)) (up_through (λ x size. over ps a x size) inner) ≡ On m → inner ≡ On m
      go true h = begun_stops (start_of s a c (value_of reg_name ps)) (n + 1) m h
      go false h = up_on (λ x size. over ps a x size) inner m h

  -- THE THEOREM: where the target is not among these nodes, all of them were counted
  pub on_count : (t : Nodes) (a c : CellCount) (n m : ℕ) → searched target s t a c n ≡ On m → m ≡ n + count t
  unfolding searched
  on_count none a c n m e = let z : m ≡ n = cc in omega arith
  on_count (node q nm ps kids rest) a c n m e =
      or_on_lem _ (λ j. searched target s rest a c j) m e
      (λ j h i.
      let k = on_count kids (address_of ps) (size_of ps) (n + 1) j (tried_on q ps a c n _ j h) in
      let l = on_count rest a c j m i in
      omega arith)

-- ── The climb ──

-- a start, through these ancestors
abbrev begun : Start → List (List Property) → ℕ → Search
begun no_start above k = Lost
begun (from r) above k = via_window (climb above r.address r.size) r.size k

-- where a trail leads, with the number k; where there is none, m nodes were passed
abbrev ends : Sought → List (List Property) → ℕ → ℕ → Search
ends s [] k m = On m
ends s (own ∷ above) k m = begun (start_of s (address_of (parent_of above)) (size_of (parent_of above)) (value_of reg_name own)) above k

begun_or : (r : Start) (above : List (List Property)) (k : ℕ) (g : ℕ → Search) → or_on (begun r above k) g ≡ begun r above k
begun_or no_start above k g = refl
begun_or (from r) above k g = via_or (climb above r.address r.size) r.size k g

begun_up : (r : Start) (above : List (List Property)) (k : ℕ) (g : ℕ → Search) → up_through (climb above) (or_on (begun_at r k) g) ≡ begun r above k
begun_up no_start above k g = refl
begun_up (from r) above k g = refl

-- the number of a target that is not among these nodes is its number in what comes after them
none_step : (target : ℕ) (ps : List Property) (kids rest : Nodes) (above u : List (List Property)) (l : List ℕ) (k : ℕ) (b : Bool)
    → cond b (ps ∷ above) (or_else u (trail target rest above)) ≡ []
    → (u ≡ [] → number_in (order kids (order rest l)) target (k + 1) ≡ number_in (order rest l) target (k + 1 + count kids))
    → (trail target rest above ≡ [] → number_in (order rest l) target (k + 1 + count kids) ≡ number_in l target (k + 1 + count kids + count rest))
    → cond b k (number_in (order kids (order rest l)) target (k + 1)) ≡ number_in l target (k + suc (count kids + count rest))
none_step target ps kids rest above u l k true e f g = never (cc)
none_step target ps kids rest above (x ∷ xs) l k false e f g = never (cc)
none_step target ps kids rest above [] l k false e f g =
    let z : k + 1 + count kids + count rest ≡ k + suc (count kids + count rest) = omega arith in
    f refl ∙ g e ∙ ap (number_in l target) z

none_numbered : (target : ℕ) (t : Nodes) (above : List (List Property)) (l : List ℕ) (k : ℕ) → trail target t above ≡ []
    → number_in (order t l) target k ≡ number_in l target (k + count t)
unfolding trail order number_in
none_numbered target none above l k e = let z : k ≡ k + 0 = omega arith in ap (number_in l target) z
none_numbered target (node q nm ps kids rest) above l k e =
    none_step target ps kids rest above (trail target kids (ps ∷ above)) l k (eqb q target) e
    (none_numbered target kids (ps ∷ above) (order rest l) (k + 1))
    (none_numbered target rest above l (k + 1 + count kids))

module _ (target : ℕ) (s : Sought) where
  -- what the search gives, through the parent and its ancestors, is where the trail leads
  abbrev Climbs : Nodes → List Property → List (List Property) → List ℕ → ℕ → Type 0
  Climbs t p above l n =
      up_through (climb (p ∷ above)) (searched target s t (address_of p) (size_of p) n)
      ≡ ends s (trail target t (p ∷ above)) (number_in (order t l) target (n + 1)) (n + count t)

  -- a node that is not the target: what its children give, through it and the rest, or the nodes after it
  climbs_on : (ps p : List Property) (kids rest : Nodes) (above : List (List Property)) (n : ℕ) (r : Search)
      → up_through (climb (ps ∷ p ∷ above)) (searched target s kids (address_of ps) (size_of ps) (n + 1)) ≡ r
      → up_through (climb (p ∷ above))
      (or_on (up_through (λ x size. over ps (address_of p) x size) (searched target s kids (address_of ps) (size_of ps) (n + 1)))
      (λ m. searched target s rest (address_of p) (size_of p) m))
      ≡ or_on r (λ m. up_through (climb (p ∷ above)) (searched target s rest (address_of p) (size_of p) m))
  unfolding climb
  climbs_on ps p kids rest above n r e =
      up_up (climb (p ∷ above)) (λ x size. over ps (address_of p) x size) (searched target s kids (address_of ps) (size_of ps) (n + 1)) (λ m. searched target s rest (address_of p) (size_of p) m)
      ∙ ap (λ (y : Search). or_on y (λ m. up_through (climb (p ∷ above)) (searched target s rest (address_of p) (size_of p) m))) e

  climbs_step : (ps p : List Property) (kids rest : Nodes) (above u : List (List Property)) (l : List ℕ) (n : ℕ) (b : Bool)
      → trail target kids (ps ∷ p ∷ above) ≡ u → Climbs kids ps (p ∷ above) (order rest l) (n + 1) → Climbs rest p above l (n + 1 + count kids)
      → up_through (climb (p ∷ above))
      (or_on
      (cond b (begun_at (start_of s (address_of p) (size_of p) (value_of reg_name ps)) (n + 1))
      (up_through (λ x size. over ps (address_of p) x size) (searched target s kids (address_of ps) (size_of ps) (n + 1))))
      (λ m. searched target s rest (address_of p) (size_of p) m))
      ≡ ends s (cond b (ps ∷ p ∷ above) (or_else u (trail target rest (p ∷ above))))
      (cond b (n + 1) (number_in (order kids (order rest l)) target (n + 1 + 1))) (n + suc (count kids + count rest))
  climbs_step ps p kids rest above u l n true e i j = begun_up (start_of s (address_of p) (size_of p) (value_of reg_name ps)) (p ∷ above) (n + 1) _
  climbs_step ps p kids rest above [] l n false e i j =
      let z : n + 1 + count kids + 1 ≡ n + 1 + 1 + count kids = omega arith in
      let w : n + 1 + count kids + count rest ≡ n + suc (count kids + count rest) = omega arith in
      let k = ap (number_in (order rest l) target) z ∙ sym (none_numbered target kids (ps ∷ p ∷ above) (order rest l) (n + 1 + 1) e) in
      climbs_on ps p kids rest above n _ (rw e at i) ∙ j ∙ ap₂ (ends s (trail target rest (p ∷ above))) k w
  climbs_step ps p kids rest above (x ∷ xs) l n false e i j =
      climbs_on ps p kids rest above n _ (rw e at i)
      ∙ begun_or (start_of s (address_of (parent_of xs)) (size_of (parent_of xs)) (value_of reg_name x)) xs (number_in (order kids (order rest l)) target (n + 1 + 1)) _

  climbs : (t : Nodes) (p : List Property) (above : List (List Property)) (l : List ℕ) (n : ℕ) → Climbs t p above l n
  unfolding searched tried trail order number_in
  climbs none p above l n = let z : n ≡ n + 0 = omega arith in ap On z
  climbs (node q nm ps kids rest) p above l n =
      climbs_step ps p kids rest above (trail target kids (ps ∷ p ∷ above)) l n (eqb q target) refl
      (climbs kids ps (p ∷ above) (order rest l) (n + 1))
      (climbs rest p above l (n + 1 + count kids))

-- the root translates nothing
up_root : (p : List Property) (r : Search) → up_through (climb (p ∷ [])) r ≡ r
unfolding climb
up_root p (Gone x size k) = refl
up_root p Lost = refl
up_root p (On m) = refl

via_finished : (w : Window) (size k : ℕ) → finished (via_window w size k) ≡ answer (arrived size w) size k
unfolding finished arrived
via_finished (To x) size k = refl
via_finished Nowhere size k = refl
via_finished Unreadable size k = refl

begun_finished : (r : Start) (above : List (List Property)) (k : ℕ) → finished (begun r above k) ≡ from_start r above k
unfolding finished climbed
begun_finished no_start above k = refl
begun_finished (from r) above k = via_finished (climb above r.address r.size) r.size k

ends_finished : (s : Sought) (u : List (List Property)) (k m : ℕ) → finished (ends s u k m) ≡ along_trail u s k
unfolding finished
ends_finished s [] k m = refl
ends_finished s (own ∷ above) k m = begun_finished (start_of s (address_of (parent_of above)) (size_of (parent_of above)) (value_of reg_name own)) above k

-- THE THEOREM: on every tree, the search that climbs on its way back gives the climb along the trail, with the place in document order
pub search_is : (t : Nodes) (target : ℕ) (s : Sought) → finished (searched target s (kids_of t) (address_of (props_of t)) (size_of (props_of t)) 0) ≡ translated t target s
unfolding translated
search_is t target s =
    ap finished (sym (up_root (props_of t) (searched target s (kids_of t) (address_of (props_of t)) (size_of (props_of t)) 0)) ∙ climbs target s (kids_of t) (props_of t) [] [] 0)
    ∙ ends_finished s (trail target (kids_of t) (props_of t ∷ [])) (number_in (order (kids_of t) []) target 1) (0 + count (kids_of t))
