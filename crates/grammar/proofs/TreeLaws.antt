-- The walk as a walk over tokens that are read already: it accepts exactly the tokens of a tree within the limits, and the tree can be
-- read back from its tokens. Assumes nothing.
use mathlib.Core.Path.{◌≡◌, refl, ◌∙◌, ap, subst}
use Prim.Native.Nat.{ℕ, zero, suc, ◌+◌, ◌-◌, ◌≤◌, ◌<◌}
use native.Mathlib.Omega.{arith}
use native.Mathlib.Numerals.{add-one}
use mathlib.Core.List.{List, [], ◌∷◌}
use mathlib.Core.Bool.{Bool, true, false, cond}
use lib.ListN.{length}
use lib.Dec.{leb, eqb, eqb-suc-zero}
use borrow.Author.Tests.{leb-false, eqb-true, lt-leb, ne_eqb}
use Rattle.std.specs.Prelude.{Result, Ok, Err}
use Rattle.fdt.specs.Token.{tok_at}
use Rattle.fdt.specs.Tree.{Property, Nodes, none, node, Tok, begin, ended, prop, fin, bad, flat_p, flat_k, count, height, taken, lex, lex_at, Level, level, opened, added, levels}
use Rattle.fdt.specs.Walk.{state, begin_step, step_of, after, walk_at, walked}
use Rattle.fdt.specs.declared.Token.{Token}
use Rattle.fdt.specs.declared.Token.TheVariants.{Bad, Nop, Begin, EndNode, Prop, Fin}
use Rattle.fdt.specs.declared.State.{State}
use Rattle.fdt.specs.declared.Step.{Step}
use Rattle.words.proofs.BytesLaws.{never, bytes_long}
use Rattle.fdt.specs.declared.TreeFault.{TreeFault}
use Rattle.fdt.specs.declared.TreeFault.TheVariants.{OverLimit, BadStructure}
use Rattle.fdt.proofs.TokLaws.{Reach, reach}

-- the walk on tokens that are read already, with at most lv levels and nd nodes
unfoldable pub run_l : ℕ → ℕ → List Tok → ℕ → ℕ → Bool → Result Unit TreeFault
run_l lv nd [] d n a = Err BadStructure
run_l lv nd (begin p nm ∷ ts) zero n a = cond (eqb n 0) (cond (eqb (length nm) 0) (run_l lv nd ts 1 1 true) (Err BadStructure)) (Err BadStructure)
run_l lv nd (begin p nm ∷ ts) (suc d) n a = cond (leb lv (suc d)) (Err OverLimit) (cond (leb nd n) (Err OverLimit) (run_l lv nd ts (suc (suc d)) (suc n) true))
run_l lv nd (ended ∷ ts) zero n a = Err BadStructure
run_l lv nd (ended ∷ ts) (suc d) n a = run_l lv nd ts d n false
run_l lv nd (prop q ∷ ts) d n a = cond a (run_l lv nd ts d n true) (Err BadStructure)
run_l lv nd (fin ∷ []) zero n a = cond (eqb n 0) (Err BadStructure) (Ok tt)
run_l lv nd (fin ∷ []) (suc d) n a = Err BadStructure
run_l lv nd (fin ∷ t ∷ ts) d n a = Err BadStructure
run_l lv nd (bad ∷ ts) d n a = Err BadStructure

-- with those of document 01
abbrev pub run_t : List Tok → ℕ → ℕ → Bool → Result Unit TreeFault
run_t ts d n a = run_l 32 4096 ts d n a

no_broken : {A : Type 0} → ◌≡◌ {A = Result Unit TreeFault} (Err BadStructure) (Ok tt) → A
no_broken e = never (cc)

-- a test that was accepted went one way
pub went_left : (t : Bool) (v : Result Unit TreeFault) → cond t v (Err BadStructure) ≡ Ok tt → (t ≡ true) × (v ≡ Ok tt)
went_left true v h = (refl, h)
went_left false v h = never (cc)

pub went_right : (t : Bool) (v : Result Unit TreeFault) → cond t (Err OverLimit) v ≡ Ok tt → (t ≡ false) × (v ≡ Ok tt)
went_right true v h = never (cc)
went_right false v h = (refl, h)

nil_of_zero : (l : List ℕ) → length l ≡ 0 → l ≡ []
nil_of_zero [] h = refl
nil_of_zero (x ∷ l) h = let b : ⊥ = omega arith in absurd b

module _ (lv nd : ℕ) where
  -- after the properties, with more allowed, the walk stands as before
  run_props : (ps : List Property) (r : List Tok) (d n : ℕ) → run_l lv nd (flat_p ps r) d n true ≡ run_l lv nd r d n true
  unfolding run_l
  run_props [] r d n = refl
  run_props (p ∷ ps) r d n = run_props ps r d n

  -- after the children and the end of their node, the walk stands one level up
  run_kids : (ks : Nodes) (r : List Tok) (d n : ℕ) (a : Bool) → height ks + suc d ≤ lv → n + count ks ≤ nd
      → run_l lv nd (flat_k ks (ended ∷ r)) (suc d) n a ≡ run_l lv nd r d (n + count ks) false
  unfolding run_l
  run_kids none r d n a h c =
      let q : n ≡ n + 0 = omega arith in
      ap (λ (x : ℕ). run_l lv nd r d x false) q
  run_kids (node p nm ps kids rest) r d n a h c =
      let i1 = run_kids kids (flat_k rest (ended ∷ r)) (suc d) (suc n) true (omega arith) (omega arith) in
      let i2 = run_kids rest r d (suc n + count kids) false (omega arith) (omega arith) in
      let l1 : suc d < lv = omega arith in
      let l2 : n < nd = omega arith in
      let q : suc n + count kids + count rest ≡ n + suc (count kids + count rest) = omega arith in
      rw (lt-leb _ _ l1, lt-leb _ _ l2)
      (run_props ps _ (suc (suc d)) (suc n) ∙ i1 ∙ i2 ∙ ap (λ (x : ℕ). run_l lv nd r d x false) q)

  -- d nodes are open, n were begun: what is left of each, and then the end
  abbrev Closes : ℕ → ℕ → Bool → List Tok → Type 0
  Closes zero n a ts = ts ≡ fin ∷ []
  Closes (suc d) n a ts = (ps : List Property) × (ks : Nodes) × (r : List Tok) × (ts ≡ flat_p ps (flat_k ks (ended ∷ r))) × (a ≡ false → ps ≡ []) × (height ks + suc d ≤ lv) × (n + count ks ≤ nd) × Closes d (n + count ks) false r

  -- a node that begins is the first of what is left one level up
  close_begin : (p : ℕ) (nm : List ℕ) (ts : List Tok) (d n : ℕ) (a : Bool) → Closes (suc (suc d)) (suc n) true ts → Closes (suc d) n a (begin p nm ∷ ts)
  close_begin p nm ts d n a i =
      let j = i.7 in
      let q : suc n + count i.1 + count j.1 ≡ n + suc (count i.1 + count j.1) = omega arith in
      let hi = i.5 in
      let hj = j.5 in
      let cj = j.6 in
      let e : i.2 ≡ flat_k j.1 (ended ∷ j.2) = j.3 ∙ ap (λ (x : List Property). flat_p x (flat_k j.1 (ended ∷ j.2))) (j.4 refl) in (
        [],
        node p nm i.0 i.1 j.1,
        j.2,
        ap (λ (x : List Tok). begin p nm ∷ x) (i.3 ∙ ap (λ (x : List Tok). flat_p i.0 (flat_k i.1 (ended ∷ x))) e),
        (λ z. refl),
        omega arith,
        omega arith,
        subst (λ (x : ℕ). Closes d x false j.2) q j.7,
      )

  closes : (ts : List Tok) (d n : ℕ) (a : Bool) → d ≤ lv → n ≤ nd → 0 < n → (d ≡ 0 → a ≡ false) → run_l lv nd ts d n a ≡ Ok tt → Closes d n a ts
  unfolding run_l
  closes [] d n a hd hn h0 hf e = no_broken e
  closes (begin p nm ∷ ts) zero n a hd hn h0 hf e =
      let w = went_left (eqb n 0) _ e in
      let q : n ≡ 0 = eqb-true _ _ w.0 in
      let b : ⊥ = omega arith in absurd b
  closes (begin p nm ∷ ts) (suc d) n a hd hn h0 hf e =
      let w = went_right (leb lv (suc d)) _ e in
      let w2 = went_right (leb nd n) _ w.1 in
      let l1 : suc d < lv = leb-false _ _ w.0 in
      let l2 : n < nd = leb-false _ _ w2.0 in
      let i = closes ts (suc (suc d)) (suc n) true (omega arith) (omega arith) (omega arith) (λ z. let b : ⊥ = omega arith in absurd b) w2.1 in
      close_begin p nm ts d n a i
  closes (ended ∷ ts) zero n a hd hn h0 hf e = no_broken e
  closes (ended ∷ ts) (suc d) n a hd hn h0 hf e =
      let i = closes ts d n false (omega arith) hn h0 (λ z. refl) e in
      let q : n ≡ n + 0 = omega arith in
      ([], none, ts, refl, (λ z. refl), omega arith, omega arith, subst (λ (x : ℕ). Closes d x false ts) q i)
  closes (prop q ∷ ts) zero n a hd hn h0 hf e =
      let w = went_left a _ e in
      let f : a ≡ false = hf refl in
      let g : a ≡ true = w.0 in
      never (cc)
  closes (prop q ∷ ts) (suc d) n a hd hn h0 hf e =
      let w = went_left a _ e in
      let i = closes ts (suc d) n true hd hn h0 (λ z. let b : ⊥ = omega arith in absurd b) w.1 in
      (q ∷ i.0, i.1, i.2, ap (λ (x : List Tok). prop q ∷ x) i.3, (λ z. let g : a ≡ true = w.0 in never (cc)), i.5, i.6, i.7)
  closes (fin ∷ []) zero n a hd hn h0 hf e = refl
  closes (fin ∷ []) (suc d) n a hd hn h0 hf e = no_broken e
  closes (fin ∷ t ∷ ts) d n a hd hn h0 hf e = no_broken e
  closes (bad ∷ ts) d n a hd hn h0 hf e = no_broken e

  -- what the walk accepts is the tree's tokens
  pub accepted_tree : 1 ≤ lv → 1 ≤ nd → (ts : List Tok) → run_l lv nd ts 0 0 false ≡ Ok tt
      → (p : ℕ) × (ps : List Property) × (ks : Nodes) × (ts ≡ flat_k (node p [] ps ks none) (fin ∷ [])) × (suc (height ks) ≤ lv) × (suc (count ks) ≤ nd)
  unfolding run_l
  accepted_tree hl hn [] e = no_broken e
  accepted_tree hl hn (begin p nm ∷ ts) e =
      let w = went_left (eqb (length nm) 0) _ e in
      let z = nil_of_zero nm (eqb-true _ _ w.0) in
      let i = closes ts 1 1 true (omega arith) (omega arith) (omega arith) (λ z. let b : ⊥ = omega arith in absurd b) w.1 in
      let hi = i.5 in
      let ci = i.6 in (
        p,
        i.0,
        i.1,
        ap (λ (x : List ℕ). begin p x ∷ ts) z ∙ ap (λ (x : List Tok). begin p [] ∷ x) (i.3 ∙ ap (λ (x : List Tok). flat_p i.0 (flat_k i.1 (ended ∷ x))) i.7),
        omega arith,
        omega arith,
      )
  accepted_tree hl hn (ended ∷ ts) e = no_broken e
  accepted_tree hl hn (prop q ∷ ts) e = no_broken e
  accepted_tree hl hn (fin ∷ []) e = no_broken e
  accepted_tree hl hn (fin ∷ t ∷ ts) e = no_broken e
  accepted_tree hl hn (bad ∷ ts) e = no_broken e

  -- and a tree's tokens are accepted
  pub tree_accepted : (p : ℕ) (ps : List Property) (ks : Nodes) → suc (height ks) ≤ lv → suc (count ks) ≤ nd → run_l lv nd (flat_k (node p [] ps ks none) (fin ∷ [])) 0 0 false ≡ Ok tt
  unfolding run_l
  tree_accepted p ps ks h c =
      let n0 : 1 + count ks ≡ 0 → ⊥ = λ q. omega arith in
      run_props ps _ 1 1 ∙ run_kids ks (fin ∷ []) 0 1 true (omega arith) (omega arith) ∙ rw (ne_eqb _ _ n0)

-- ── The walk on bytes is the walk on the tokens that are read from them ──

after_cond : (t : Bool) (x y : Step) (k : State → Result Unit TreeFault) (v w : Result Unit TreeFault) → after x k ≡ v → after y k ≡ w → after (cond t x y) k ≡ cond t v w
after_cond true x y k v w p q = p
after_cond false x y k v w p q = q

module _ (b n : List ℕ) (p : ℕ) (k : State → Result Unit TreeFault) (j : ℕ → List Tok) (h : (st : State) → k st ≡ run_t (j st.at) st.depth st.nodes st.props) where
  step_run : (t : Token) (d c : ℕ) (a : Bool) → Reach p (length b) (length n) t → after (step_of (state p d c a) t) k ≡ run_t (taken b n p t j) d c a
  unfolding step_of begin_step run_l
  step_run Bad d c a m = refl
  step_run (Nop x) d c a m = h (state x d c a)
  step_run (Begin l x) zero c a m =
      let q = bytes_long b (p + 4) l (omega arith) in
      rw q (after_cond (eqb c 0) _ _ k _ _ (after_cond (eqb l 0) _ _ k _ _ (h (state x 1 1 true)) refl) refl)
  step_run (Begin l x) (suc d) c a m =
      rw (eqb-suc-zero d, ← add-one c, ← add-one (suc d)) (after_cond (leb 32 (suc d)) _ _ k _ _ refl (after_cond (leb 4096 c) _ _ k _ _ refl (h (state x (suc d + 1) (c + 1) true))))
  step_run (EndNode x) zero c a m = refl
  step_run (EndNode x) (suc d) c a m =
      let q : suc d - 1 ≡ d = omega arith in
      rw (eqb-suc-zero d) (h (state x (suc d - 1) c false) ∙ ap (λ (y : ℕ). run_t (j x) y c false) q)
  step_run (Prop l y z x) d c a m = after_cond a _ _ k _ _ (h (state x d c true)) refl
  step_run Fin zero c a m = after_cond (eqb c 0) _ _ k _ _ refl refl
  step_run Fin (suc d) c a m = rw (eqb-suc-zero d)

walk_run : (b n : List ℕ) (f : ℕ) (st : State) → walk_at f b n st ≡ run_t (lex f b n st.at) st.depth st.nodes st.props
unfolding walk_at lex run_l
walk_run b n zero st = refl
walk_run b n (suc f) st =
    step_run b n st.at (λ next. walk_at f b n next) (λ q. lex f b n q) (walk_run b n f) (tok_at b n st.at) st.depth st.nodes st.props (reach b n st.at)

pub walked_run : (b n : List ℕ) → walked b n ≡ run_t (lex_at b n 0) 0 0 false
unfolding walked lex_at
walked_run b n = walk_run b n (suc (length b)) (state 0 0 0 false)

-- ── The tree read back from its tokens, from the last to the first ──

abbrev joined : Nodes → Nodes → Nodes
joined none r = r
joined (node p nm ps ks rest) r = node p nm ps ks (joined rest r)

joined_none : (t : Nodes) → joined t none ≡ t
joined_none none = refl
joined_none (node p nm ps ks rest) = ap (λ (x : Nodes). node p nm ps ks x) (joined_none rest)

levels_props : (ps : List Property) (r : List Tok) (ks : Nodes) (ls : List Level) → levels r ≡ level [] ks ∷ ls → levels (flat_p ps r) ≡ level ps ks ∷ ls
unfolding levels
levels_props [] r ks ls h = h
levels_props (p ∷ ps) r ks ls h = ap (added p) (levels_props ps r ks ls h)

levels_kids : (t : Nodes) (r : List Tok) (n : Nodes) (ls : List Level) → levels r ≡ level [] n ∷ ls → levels (flat_k t r) ≡ level [] (joined t n) ∷ ls
unfolding levels
levels_kids none r n ls h = h
levels_kids (node p nm ps ks rest) r n ls h =
    let i2 = levels_kids rest r n ls h in
    let i1 = levels_kids ks (ended ∷ flat_k rest r) none (level [] (joined rest n) ∷ ls) (ap (λ (x : List Level). level [] none ∷ x) i2) in
    let i0 = levels_props ps _ (joined ks none) _ i1 in
    ap (opened p nm) i0 ∙ ap (λ (x : Nodes). level [] (node p nm ps x (joined rest n)) ∷ ls) (joined_none ks)

pub levels_tree : (t : Nodes) → levels (flat_k t (fin ∷ [])) ≡ level [] t ∷ []
unfolding levels
levels_tree t = levels_kids t (fin ∷ []) none [] refl ∙ ap (λ (x : Nodes). level [] x ∷ []) (joined_none t)
