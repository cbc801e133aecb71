-- What a token does to the walk over tokens that are read already, whatever follows it and however much the limits are raised; and what that
-- says of the trees that the tokens before it can become. Assumes nothing.
use mathlib.Core.Path.{◌≡◌, refl, sym, ◌∙◌, ap}
use mathlib.Core.Logic.{◌⊎◌, inl, inr, ⊎_elim}
use Prim.Native.Nat.{ℕ, zero, suc, ◌+◌, ◌≤◌, ◌<◌}
use native.Mathlib.Omega.{arith}
use mathlib.Core.List.{List, [], ◌∷◌, ◌++◌, append_assoc}
use mathlib.Core.Bool.{Bool, true, false, cond}
use lib.ListN.{length}
use lib.Dec.{leb, eqb}
use borrow.Author.Tests.{leb-true, leb-false, eqb-true, eqb-false, le-leb, lt-leb, ne_eqb}
use Rattle.std.specs.Prelude.{Ok, Err}
use Rattle.std.specs.Prelude.{Result}
use Rattle.fdt.specs.Tree.{Property, none, node, Tok, begin, ended, prop, fin, bad, flat_k, count, height}
use Rattle.words.proofs.BytesLaws.{never}
use Rattle.fdt.specs.declared.TreeFault.TheVariants.{OverLimit, BadStructure}
use Rattle.fdt.specs.declared.TreeFault.{TreeFault}
use Rattle.grammar.specs.Faults.{Begins, BeginsWithin, begun, closed, ChildLast}
use Rattle.grammar.proofs.TreeLaws.{run_l, run_t, went_left, went_right, accepted_tree, tree_accepted}

-- ── What a token does, whatever follows it and however much the limits are raised ──

-- how many nodes can be open, and begun; and a property stands in a node
pub record Sane (d c : ℕ) (a : Bool) : Type 0 where
  pub deep : d ≤ 32
  pub many : c ≤ 4096
  pub some : 0 < d → 0 < c
  pub room : a ≡ true → 0 < d

-- each limit is raised, or stays
pub record Raised (lv nd : ℕ) : Type 0 where
  pub high : 32 ≤ lv
  pub more : 4096 ≤ nd

abbrev pub Onward : Tok → ℕ → ℕ → Bool → ℕ → ℕ → Bool → Type 0
Onward t d c a e m o = (lv nd : ℕ) → Raised lv nd → (r : List Tok) → run_l lv nd (t ∷ r) d c a ≡ run_l lv nd r e m o

abbrev pub Refused : Tok → ℕ → ℕ → Bool → Type 0
Refused t d c a = (lv nd : ℕ) → Raised lv nd → (r : List Tok) → run_l lv nd (t ∷ r) d c a ≡ Err BadStructure

-- why a token is refused: a root after the root, or with a name; no node to end; no property here; nodes still open, or none begun
abbrev pub Why : Tok → ℕ → ℕ → Bool → Type 0
Why (begin p nm) d c a = (d ≡ 0) × ((0 < c) ⊎ (0 < length nm))
Why ended d c a = d ≡ 0
Why (prop x) d c a = a ≡ false
Why fin d c a = (0 < d) ⊎ (c ≡ 0)
Why bad d c a = Unit {0}

-- a property may stand after every token but FDT_END_NODE
abbrev pub Marks : Tok → Bool → Type 0
Marks t o = (o ≡ true → t ≡ ended → ⊥) × (o ≡ false → t ≡ ended)

-- a node begins inside the root, and a limit is reached
abbrev pub AtLimit : Tok → ℕ → ℕ → Type 0
AtLimit t d c = (begun (t ∷ []) ≡ 1) × (0 < d) × ((d ≡ 32) ⊎ (c ≡ 4096))

pub data Turn (t : Tok) (d c : ℕ) (a : Bool) : Type 0 where
  goes : (e m : ℕ) (o : Bool) → Sane e m o → Marks t o → e + closed (t ∷ []) ≡ d + begun (t ∷ []) → m ≡ c + begun (t ∷ []) → Onward t d c a e m o → Turn t d c a
  breaks : Why t d c a → Turn t d c a
  exceeds : (e m : ℕ) (o : Bool) → (0 < e → 0 < m) → AtLimit t d c → ((r : List Tok) → run_t (t ∷ r) d c a ≡ Err OverLimit)
      → ((r : List Tok) → run_l 33 4097 (t ∷ r) d c a ≡ run_l 33 4097 r e m o) → Turn t d c a

-- a node that begins inside the root: the limits raised by one let it pass
pub begin_raised : (p : ℕ) (nm : List ℕ) (d c : ℕ) (a : Bool) → Sane (suc d) c a → (r : List Tok) → run_l 33 4097 (begin p nm ∷ r) (suc d) c a ≡ run_l 33 4097 r (suc (suc d)) (suc c) true
unfolding run_l
begin_raised p nm d c a s r =
    let l1 : suc d < 33 = omega arith in
    let l2 : c < 4097 = omega arith in
    rw (lt-leb _ _ l1, lt-leb _ _ l2)

pub begin_over : (p : ℕ) (nm : List ℕ) (d c : ℕ) (a : Bool) → (suc d ≡ 32) ⊎ (c ≡ 4096) → (r : List Tok) → run_t (begin p nm ∷ r) (suc d) c a ≡ Err OverLimit
unfolding run_l
begin_over p nm d c a (inl h) r =
    let l : 32 ≤ suc d = omega arith in
    rw (le-leb _ _ l)
begin_over p nm d c a (inr h) r =
    let l : 4096 ≤ c = omega arith in
    rw (le-leb 4096 c l) (either (leb 32 (suc d)))
  where
    either : (t : Bool) → ◌≡◌ {A = Result Unit TreeFault} (cond t (Err OverLimit) (Err OverLimit)) (Err OverLimit)
    either true = refl
    either false = refl

pub turn_begin : (p : ℕ) (nm : List ℕ) (d c : ℕ) (a : Bool) → Sane d c a → Turn (begin p nm) d c a
unfolding run_l
turn_begin p nm zero c a s = go (eqb c 0) refl (eqb (length nm) 0) refl
  where
    go : (t : Bool) → eqb c 0 ≡ t → (u : Bool) → eqb (length nm) 0 ≡ u → Turn (begin p nm) zero c a
    go true h true g =
        let z : c ≡ 0 = eqb-true _ _ h in
        goes 1 1 true (record { deep = omega arith; many = omega arith; some = λ z. omega arith; room = λ z. omega arith }) ((λ x y. never (cc)), (λ x. never (cc))) refl (omega arith) (λ lv nd w r. rw (h, g))
    go true h false g = let z : length nm ≡ 0 → ⊥ = eqb-false _ _ g in breaks (refl, inr (omega arith))
    go false h u g = let z : c ≡ 0 → ⊥ = eqb-false _ _ h in breaks (refl, inl (omega arith))
turn_begin p nm (suc d) c a s = go (leb 32 (suc d)) refl (leb 4096 c) refl
  where
    go : (t : Bool) → leb 32 (suc d) ≡ t → (u : Bool) → leb 4096 c ≡ u → Turn (begin p nm) (suc d) c a
    go true h u g =
        let x : 32 ≤ suc d = leb-true _ _ h in
        exceeds (suc (suc d)) (suc c) true (λ z. omega arith) (refl, omega arith, inl (omega arith)) (λ r. rw h) (begin_raised p nm d c a s)
    go false h true g =
        let y : 4096 ≤ c = leb-true _ _ g in
        exceeds (suc (suc d)) (suc c) true (λ z. omega arith) (refl, omega arith, inr (omega arith)) (λ r. rw (h, g)) (begin_raised p nm d c a s)
    go false h false g =
        let x : suc d < 32 = leb-false _ _ h in
        let y : c < 4096 = leb-false _ _ g in
        goes (suc (suc d)) (suc c) true (record { deep = omega arith; many = omega arith; some = λ z. omega arith; room = λ z. omega arith }) ((λ x y. never (cc)), (λ x. never (cc))) (omega arith) (omega arith) (λ lv nd w r.
        let l1 : suc d < lv = omega arith in
        let l2 : c < nd = omega arith in
        rw (lt-leb _ _ l1, lt-leb _ _ l2))

pub turn_end : (d c : ℕ) (a : Bool) → Sane d c a → Turn ended d c a
unfolding run_l
turn_end zero c a s = breaks refl
turn_end (suc d) c a s =
    let q = s.some (omega arith) in
    goes d c false (record { deep = omega arith; many = s.many; some = λ z. q; room = λ z. never (cc) }) ((λ x y. never (cc)), (λ x. refl)) (omega arith) (omega arith) (λ lv nd w r. refl)

pub turn_prop : (x : Property) (d c : ℕ) (a : Bool) → Sane d c a → Turn (prop x) d c a
unfolding run_l
turn_prop x d c true s = goes d c true s ((λ x y. never (cc)), (λ x. never (cc))) refl (omega arith) (λ lv nd w r. refl)
turn_prop x d c false s = breaks refl

fin_more : (lv nd d c : ℕ) (a : Bool) (r : List Tok) → run_l lv nd (fin ∷ []) d c a ≡ Err BadStructure → run_l lv nd (fin ∷ r) d c a ≡ Err BadStructure
unfolding run_l
fin_more lv nd d c a [] h = h
fin_more lv nd d c a (t ∷ r) h = refl

-- FDT_END closes the block, or is at fault
pub fin_way : (d c : ℕ) (a : Bool) → (run_t (fin ∷ []) d c a ≡ Ok tt) ⊎ Why fin d c a
unfolding run_l
fin_way zero c a = go (eqb c 0) refl
  where
    go : (t : Bool) → eqb c 0 ≡ t → (run_t (fin ∷ []) zero c a ≡ Ok tt) ⊎ Why fin zero c a
    go true h = inr (inr (eqb-true _ _ h))
    go false h = inl (rw h)
fin_way (suc d) c a = inr (inl (omega arith))

both_broken : (t : Bool) → ◌≡◌ {A = Result Unit TreeFault} (cond t (Err BadStructure) (Err BadStructure)) (Err BadStructure)
both_broken true = refl
both_broken false = refl

-- whatever follows, and however much the limits are raised
pub refused : (t : Tok) (d c : ℕ) (a : Bool) → Why t d c a → Refused t d c a
unfolding run_l
refused (begin p nm) zero c a (z, inl h) lv nd w r =
    let x : c ≡ 0 → ⊥ = λ q. omega arith in
    rw (ne_eqb _ _ x)
refused (begin p nm) zero c a (z, inr h) lv nd w r =
    let x : length nm ≡ 0 → ⊥ = λ q. omega arith in
    rw (ne_eqb _ _ x) (both_broken (eqb c 0))
refused (begin p nm) (suc d) c a (z, h) lv nd w r = let x : ⊥ = omega arith in absurd x
refused ended zero c a h lv nd w r = refl
refused ended (suc d) c a h lv nd w r = let x : ⊥ = omega arith in absurd x
refused (prop x) d c a h lv nd w r = rw h
refused fin zero c a (inl h) lv nd w r = let x : ⊥ = omega arith in absurd x
refused fin zero c a (inr h) lv nd w r = fin_more lv nd 0 c a r (rw h)
refused fin (suc d) c a h lv nd w r = fin_more lv nd (suc d) c a r refl
refused bad d c a h lv nd w r = refl

-- ── From wherever the walk stands, the open nodes can be closed ──

closing : ℕ → List Tok
closing zero = fin ∷ []
closing (suc d) = ended ∷ closing d

closing_accepted : (lv nd d c : ℕ) (a : Bool) → 0 < c → run_l lv nd (closing d) d c a ≡ Ok tt
unfolding run_l closing
closing_accepted lv nd zero c a h =
    let z : c ≡ 0 → ⊥ = λ q. omega arith in
    rw (ne_eqb _ _ z)
closing_accepted lv nd (suc d) c a h = closing_accepted lv nd d c false h

closable : (lv nd d c : ℕ) (a : Bool) → (0 < d → 0 < c) → (r : List Tok) × (run_l lv nd r d c a ≡ Ok tt)
unfolding run_l
closable lv nd zero zero a h = (begin 0 [] ∷ closing 1, closing_accepted lv nd 1 1 true (omega arith))
closable lv nd zero (suc c) a h = (closing 0, closing_accepted lv nd 0 (suc c) a (omega arith))
closable lv nd (suc d) c a h = (closing (suc d), closing_accepted lv nd (suc d) c a (h (omega arith)))

-- ── Where the walk comes to stand after some tokens ──

pub as_given : Raised 32 4096
as_given = record { high = omega arith; more = omega arith }

one_more : Raised 33 4097
one_more = record { high = omega arith; more = omega arith }

begun_more : (x y : List Tok) → begun (x ++ y) ≡ begun x + begun y
begun_more [] y = omega arith
begun_more (begin p nm ∷ x) y = let h = begun_more x y in omega arith
begun_more (ended ∷ x) y = begun_more x y
begun_more (prop q ∷ x) y = begun_more x y
begun_more (fin ∷ x) y = begun_more x y
begun_more (bad ∷ x) y = begun_more x y

closed_more : (x y : List Tok) → closed (x ++ y) ≡ closed x + closed y
closed_more [] y = omega arith
closed_more (begin p nm ∷ x) y = closed_more x y
closed_more (ended ∷ x) y = let h = closed_more x y in omega arith
closed_more (prop q ∷ x) y = closed_more x y
closed_more (fin ∷ x) y = closed_more x y
closed_more (bad ∷ x) y = closed_more x y

-- the tree that is written in accepted tokens begins with the first of them
tree_of : (lv nd : ℕ) → 1 ≤ lv → 1 ≤ nd → (ts r : List Tok) → run_l lv nd (ts ++ r) 0 0 false ≡ Ok tt → (g : Begins ts) × (suc (height g.kids) ≤ lv) × (suc (count g.kids) ≤ nd)
tree_of lv nd x y ts r e =
    let w = accepted_tree lv nd x y (ts ++ r) e in
    (record { root = w.0; ps = w.1; kids = w.2; rest = r; form = sym w.3 }, w.4, w.5)

-- the last token of a list with one more is that one
last_same : (x y : List Tok) (t u : Tok) → x ++ (t ∷ []) ≡ y ++ (u ∷ []) → t ≡ u
last_same [] [] t u h = cc
last_same [] (v ∷ []) t u h = never (cc)
last_same [] (v ∷ w ∷ y) t u h = never (cc)
last_same (v ∷ []) [] t u h = never (cc)
last_same (v ∷ w ∷ x) [] t u h = never (cc)
last_same (v ∷ x) (w ∷ y) t u h = last_same x y t u (cc)

pub record Comes (ts : List Tok) (d c : ℕ) (a : Bool) : Type 0 where
  pub sane : Sane d c a
  pub off : a ≡ false → (begun ts ≡ 0) ⊎ ChildLast ts
  pub on : a ≡ true → ChildLast ts → ⊥
  pub open_now : begun ts ≡ d + closed ts
  pub all_now : begun ts ≡ c
  pub stands : (lv nd : ℕ) → Raised lv nd → (r : List Tok) → run_l lv nd (ts ++ r) 0 0 false ≡ run_l lv nd r d c a

module _ (ts : List Tok) (d c : ℕ) (a : Bool) (k : Comes ts d c a) where
  past : (t : Tok) (lv nd : ℕ) → Raised lv nd → (r : List Tok) → run_l lv nd ((ts ++ (t ∷ [])) ++ r) 0 0 false ≡ run_l lv nd (t ∷ r) d c a
  past t lv nd w r = ap (λ (x : List Tok). run_l lv nd x 0 0 false) (append_assoc ts (t ∷ []) r) ∙ k.stands lv nd w (t ∷ r)

  pub come_next : (t : Tok) (e m : ℕ) (o : Bool) → Sane e m o → Marks t o → e + closed (t ∷ []) ≡ d + begun (t ∷ []) → m ≡ c + begun (t ∷ []) → Onward t d c a e m o → Comes (ts ++ (t ∷ [])) e m o
  come_next t e m o s v x y f =
      let g = begun_more ts (t ∷ []) in
      let h = closed_more ts (t ∷ []) in
      record { sane = s; off = λ z. inr (ts, ap (λ (u : Tok). ts ++ (u ∷ [])) (v.1 z)); on = λ z u. v.0 z (last_same ts u.0 t ended u.1); open_now = omega arith; all_now = omega arith; stands = λ lv nd w r. past t lv nd w r ∙ f lv nd w r }

  -- they are the first of a tree within the limits
  pub come_within : (b n : List ℕ) → BeginsWithin b n ts
  come_within b n =
      let j = closable 32 4096 d c a k.sane.some in
      let w = tree_of 32 4096 (omega arith) (omega arith) ts j.0 (k.stands 32 4096 as_given j.0 ∙ j.1) in
      record { begins = w.0; within = record { levels = w.1; nodes = w.2 } }

  -- with FDT_END that closes the block too
  pub come_whole : run_t (fin ∷ []) d c a ≡ Ok tt → (b n : List ℕ) → BeginsWithin b n (ts ++ (fin ∷ []))
  come_whole f b n =
      let w = tree_of 32 4096 (omega arith) (omega arith) (ts ++ (fin ∷ [])) [] (past fin 32 4096 as_given [] ∙ f) in
      record { begins = w.0; within = record { levels = w.1; nodes = w.2 } }

  -- with a token that is refused they are the first of no tree
  pub come_none : (t : Tok) → Why t d c a → Begins (ts ++ (t ∷ [])) → ⊥
  come_none t y g =
      let lv = 32 + suc (height g.kids) in
      let nd = 4096 + suc (count g.kids) in
      let w : Raised lv nd = record { high = omega arith; more = omega arith } in
      let e : Ok tt ≡ Err BadStructure = sym (tree_accepted lv nd g.root g.ps g.kids (omega arith) (omega arith)) ∙ ap (λ (x : List Tok). run_l lv nd x 0 0 false) g.form ∙ past t lv nd w g.rest ∙ refused t d c a y lv nd w g.rest in
      never (cc)

  module _ (t : Tok) (f : (r : List Tok) → run_t (t ∷ r) d c a ≡ Err OverLimit) where
    -- with one that exceeds they are the first of no tree within the limits
    pub come_over : (b n : List ℕ) → BeginsWithin b n (ts ++ (t ∷ [])) → ⊥
    come_over b n g =
        let h = g.begins in
        let e : Ok tt ≡ Err OverLimit = sym (tree_accepted 32 4096 h.root h.ps h.kids g.within.levels g.within.nodes) ∙ ap (λ (x : List Tok). run_t x 0 0 false) h.form ∙ past t 32 4096 as_given h.rest ∙ f h.rest in
        never (cc)

    -- but of some tree
    pub come_fits : (e m : ℕ) (o : Bool) → (0 < e → 0 < m) → ((r : List Tok) → run_l 33 4097 (t ∷ r) d c a ≡ run_l 33 4097 r e m o) → Begins (ts ++ (t ∷ []))
    come_fits e m o s g =
        let j = closable 33 4097 e m o s in
        (tree_of 33 4097 (omega arith) (omega arith) (ts ++ (t ∷ [])) j.0 (past t 33 4097 one_more j.0 ∙ g j.0 ∙ j.1)).0

pub comes_first : Comes [] 0 0 false
comes_first = record { sane = record { deep = omega arith; many = omega arith; some = λ x. omega arith; room = λ x. never (cc) }; off = λ x. inl refl; on = λ x. never (cc); open_now = refl; all_now = refl; stands = λ lv nd w r. refl }

-- ── The first tokens of a tree ──

pub begins_less : (x m : List Tok) → Begins (x ++ m) → Begins x
begins_less x m g = record { root = g.root; ps = g.ps; kids = g.kids; rest = m ++ g.rest; form = g.form ∙ append_assoc x m g.rest }

pub within_less : (b n : List ℕ) (x m : List Tok) → BeginsWithin b n (x ++ m) → BeginsWithin b n x
unfolding begins_less
within_less b n x m g = record { begins = begins_less x m g.begins; within = g.within }

-- of two that begin the same list, one begins the other
pub comparable : (x y r s : List Tok) → x ++ r ≡ y ++ s → ((m : List Tok) × (y ≡ x ++ m)) ⊎ ((m : List Tok) × (x ≡ y ++ m))
comparable [] y r s h = inl (y, refl)
comparable (t ∷ x) [] r s h = inr (t ∷ x, refl)
comparable (t ∷ x) (u ∷ y) r s h =
    let e : t ≡ u = cc in
    let i : x ++ r ≡ y ++ s = cc in
    ⊎_elim (λ w. inl (w.0, ap (λ (z : Tok). z ∷ y) (sym e) ∙ ap (λ (z : List Tok). t ∷ z) w.1)) (λ w. inr (w.0, ap (λ (z : Tok). z ∷ x) e ∙ ap (λ (z : List Tok). u ∷ z) w.1)) (comparable x y r s i)

none_left : (x m : List Tok) → [] ≡ x ++ m → x ≡ []
none_left [] m h = refl
none_left (t ∷ x) m h = never (cc)

-- what begins a list with one more token is that list, or begins the list before
pub shorter : (x : List Tok) (t : Tok) (y m : List Tok) → x ++ (t ∷ []) ≡ y ++ m → ((w : List Tok) × (x ≡ y ++ w)) ⊎ (y ≡ x ++ (t ∷ []))
shorter x t [] m h = inl (x, refl)
shorter [] t (u ∷ y) m h =
    let e : u ≡ t = cc in
    let i : [] ≡ y ++ m = cc in
    inr (ap (λ (z : Tok). z ∷ y) e ∙ ap (λ (z : List Tok). t ∷ z) (none_left y m i))
shorter (s ∷ x) t (u ∷ y) m h =
    let e : s ≡ u = cc in
    let i : x ++ (t ∷ []) ≡ y ++ m = cc in
    ⊎_elim (λ w. inl (w.0, ap (λ (z : Tok). z ∷ x) e ∙ ap (λ (z : List Tok). u ∷ z) w.1)) (λ w. inr (ap (λ (z : Tok). z ∷ y) (sym e) ∙ ap (λ (z : List Tok). s ∷ z) w)) (shorter x t y m i)

-- ── Nothing follows FDT_END in accepted tokens ──

end_last : (lv nd : ℕ) (x r : List Tok) (d c : ℕ) (a : Bool) → run_l lv nd (x ++ (fin ∷ r)) d c a ≡ Ok tt → r ≡ []
unfolding run_l
end_last lv nd [] [] d c a h = refl
end_last lv nd [] (t ∷ r) d c a h = never (cc)
end_last lv nd (begin p nm ∷ x) r zero c a h =
    let w = went_left (eqb c 0) _ h in
    end_last lv nd x r 1 1 true (went_left (eqb (length nm) 0) _ w.1).1
end_last lv nd (begin p nm ∷ x) r (suc d) c a h =
    let w = went_right (leb lv (suc d)) _ h in
    end_last lv nd x r (suc (suc d)) (suc c) true (went_right (leb nd c) _ w.1).1
end_last lv nd (ended ∷ x) r zero c a h = never (cc)
end_last lv nd (ended ∷ x) r (suc d) c a h = end_last lv nd x r d c false h
end_last lv nd (prop q ∷ x) r d c a h = end_last lv nd x r d c true (went_left a _ h).1
end_last lv nd (fin ∷ []) r d c a h = never (cc)
end_last lv nd (fin ∷ y ∷ x) r d c a h = never (cc)
end_last lv nd (bad ∷ x) r d c a h = never (cc)

-- so the tokens up to FDT_END are all of a tree's
pub end_form : (ts : List Tok) (g : Begins (ts ++ (fin ∷ []))) → ts ++ (fin ∷ []) ≡ flat_k (node g.root [] g.ps g.kids none) (fin ∷ [])
end_form ts g =
    let lv = suc (height g.kids) in
    let nd = suc (count g.kids) in
    let e : flat_k (node g.root [] g.ps g.kids none) (fin ∷ []) ≡ ts ++ (fin ∷ g.rest) = g.form ∙ append_assoc ts (fin ∷ []) g.rest in
    let z = end_last lv nd ts g.rest 0 0 false (ap (λ (x : List Tok). run_l lv nd x 0 0 false) (sym e) ∙ tree_accepted lv nd g.root g.ps g.kids (omega arith) (omega arith)) in
    sym (e ∙ ap (λ (x : List Tok). ts ++ (fin ∷ x)) z)
