-- The walk accepts a structure block exactly when it is whole, gives 5 exactly when it is faulty, and 6 exactly when it exceeds: by the first
-- token with which the tokens read are no longer the first of a tree within the limits. Assumes nothing.
use mathlib.Core.Path.{◌≡◌, refl, sym, ◌∙◌, ap, subst}
use mathlib.Core.Logic.{◌↔◌, ◌⊎◌, inl, inr, ⊎_elim}
use Prim.Native.Nat.{ℕ, zero, suc, ◌+◌, ◌≤◌}
use native.Mathlib.Omega.{arith}
use mathlib.Core.List.{List, [], ◌∷◌, ◌++◌, append_assoc, append-nil}
use mathlib.Core.Bool.{Bool, true, false}
use lib.ListN.{length}
use Rattle.std.specs.Prelude.{Result, Ok, Err}
use Rattle.words.specs.Bytes.{bytes}
use Rattle.fdt.specs.Token.{tok_at}
use Rattle.fdt.specs.Tree.{Property, Nodes, Tok, begin, ended, fin, bad, taken, lex_at}
use Rattle.fdt.specs.Walk.{walked}
use Rattle.fdt.specs.Grammar.{Nops, no_nop, a_nop, Props, no_prop, a_prop, Kids, no_kid, a_kid, Block, Within}
use Rattle.fdt.specs.declared.Token.{Token}
use Rattle.fdt.specs.declared.Token.TheVariants.{Bad, Nop, Begin, EndNode, Prop, Fin}
use Rattle.words.proofs.BytesLaws.{bytes_long}
use Rattle.fdt.specs.declared.TreeFault.{TreeFault}
use Rattle.fdt.specs.declared.TreeFault.TheVariants.{BadHeader, OverLimit, BadStructure}
use Rattle.fdt.proofs.TokLaws.{ahead_of, reach_of}
use Rattle.fdt.proofs.LexLaws.{lex_of}
use Rattle.grammar.specs.Faults.{Begins, BeginsWithin, Upto, start, past_nop, past_begin, past_end, past_prop, begun, closed, here, Whole, Faulty, Exceeds, Counted, ChildLast, Wrong, Named}
use Rattle.grammar.proofs.TreeLaws.{run_l, run_t, walked_run}
use Rattle.grammar.proofs.GrammarLaws.{tokens_are, block_of, accepted_exactly, one_block}
use Rattle.grammar.proofs.TurnLaws.{Sane, Why, AtLimit, Turn, goes, breaks, exceeds, begin_raised, begin_over, turn_begin, turn_end, turn_prop, fin_way, refused, as_given, Comes, come_next, come_within, come_whole, come_none, come_over, come_fits, comes_first, begins_less, within_less, comparable, shorter, end_form}

module _ (b n : List ℕ) where
  abbrev L : ℕ → List Tok
  L p = lex_at b n p

  abbrev Outcome : Result Unit TreeFault → Type 0
  Outcome (Ok _) = Whole b n
  Outcome (Err BadHeader) = ⊥
  Outcome (Err BadStructure) = Faulty b n
  Outcome (Err OverLimit) = Exceeds b n

  module _ (p : ℕ) (ts : List Tok) (d c : ℕ) (a : Bool) (u : Upto b n p ts) (k : Comes ts d c a) where
    module _ (t : Tok) (is : here b n p ≡ t ∷ []) where
      with_it : Begins (ts ++ here b n p) → Begins (ts ++ (t ∷ []))
      with_it g = subst (λ (x : List Tok). Begins (ts ++ x)) is g

      faulty_here : Why t d c a → Faulty b n
      faulty_here f = record { at = p; before = ts; upto = u; sound = come_within ts d c a k b n; fault = λ g. come_none ts d c a k t f (with_it g) }

      by_turn : (r : List Tok) → L p ≡ t ∷ r → Turn t d c a → ((e m : ℕ) (o : Bool) → Comes (ts ++ (t ∷ [])) e m o → Outcome (run_t r e m o)) → Outcome (run_t (L p) d c a)
      by_turn r h (goes e m o s v x y f) next =
          subst Outcome (sym (ap (λ (x : List Tok). run_t x d c a) h ∙ f 32 4096 as_given r)) (next e m o (come_next ts d c a k t e m o s v x y f))
      by_turn r h (breaks f) next =
          subst Outcome (sym (ap (λ (x : List Tok). run_t x d c a) h ∙ refused t d c a f 32 4096 as_given r)) (faulty_here f)
      by_turn r h (exceeds e m o s x f g) next =
          subst Outcome (sym (ap (λ (x : List Tok). run_t x d c a) h ∙ f r)) (record {
            at = p;
            before = ts;
            upto = u;
            sound = come_within ts d c a k b n;
            fits = subst (λ (x : List Tok). Begins (ts ++ x)) (sym is) (come_fits ts d c a k t f e m o s g);
            over = λ w. come_over ts d c a k t f b n (subst (λ (x : List Tok). BeginsWithin b n (ts ++ x)) is w);
          })

    stands_so : (x : Token) → tok_at b n p ≡ x → here b n p ≡ taken b n p x (λ q. [])
    stands_so x h = ap (λ (y : Token). taken b n p y (λ q. [])) h

    outcome_step : (x : Token) → tok_at b n p ≡ x
        → ((q : ℕ) (us : List Tok) (e m : ℕ) (o : Bool) → p + 4 ≤ length b → p + 4 ≤ q → Upto b n q us → Comes us e m o → Outcome (run_t (L q) e m o))
        → Outcome (run_t (L p) d c a)
    unfolding run_l
    outcome_step Bad h ih =
        subst Outcome (sym (ap (λ (x : List Tok). run_t x d c a) (lex_of b n p _ h))) (faulty_here bad (stands_so _ h) tt)
    outcome_step (Nop q) h ih =
        let w = ahead_of b n p _ h in
        subst Outcome (sym (ap (λ (x : List Tok). run_t x d c a) (lex_of b n p _ h))) (ih q ts d c a w.0 w.1 (past_nop u h) k)
    outcome_step (Begin l q) h ih =
        let w = ahead_of b n p _ h in
        by_turn _ (stands_so _ h) (L q) (lex_of b n p _ h) (turn_begin _ _ d c a k.sane) (λ e m o v. ih q _ e m o w.0 w.1 (past_begin u h) v)
    outcome_step (EndNode q) h ih =
        let w = ahead_of b n p _ h in
        by_turn _ (stands_so _ h) (L q) (lex_of b n p _ h) (turn_end d c a k.sane) (λ e m o v. ih q _ e m o w.0 w.1 (past_end u h) v)
    outcome_step (Prop l y z q) h ih =
        let w = ahead_of b n p _ h in
        by_turn _ (stands_so _ h) (L q) (lex_of b n p _ h) (turn_prop _ d c a k.sane) (λ e m o v. ih q _ e m o w.0 w.1 (past_prop u h) v)
    outcome_step Fin h ih =
        let e : run_t (L p) d c a ≡ run_t (fin ∷ []) d c a = ap (λ (x : List Tok). run_t x d c a) (lex_of b n p _ h) in
        ⊎_elim
        (λ f. subst Outcome (sym (e ∙ f)) (record { at = p; before = ts; upto = u; end = h; sound = subst (λ (x : List Tok). BeginsWithin b n (ts ++ x)) (sym (stands_so _ h)) (come_whole ts d c a k f b n) }))
        (λ f. subst Outcome (sym (e ∙ refused fin d c a f 32 4096 as_given [])) (faulty_here fin (stands_so _ h) f))
        (fin_way d c a)

  outcome_within : (f p : ℕ) (ts : List Tok) (d c : ℕ) (a : Bool) → length b ≤ p + f → Upto b n p ts → Comes ts d c a → Outcome (run_t (L p) d c a)
  outcome_within zero p ts d c a e u k = outcome_step p ts d c a u k (tok_at b n p) refl (λ q us i m o x y v j. let w : ⊥ = omega arith in absurd w)
  outcome_within (suc f) p ts d c a e u k = outcome_step p ts d c a u k (tok_at b n p) refl (λ q us i m o x y v j. outcome_within f q us i m o (omega arith) v j)

  outcome : (v : Result Unit TreeFault) → walked b n ≡ v → Outcome v
  outcome v e = subst Outcome (sym (walked_run b n) ∙ e) (outcome_within (length b) 0 [] 0 0 false (omega arith) start comes_first)

  -- the header is none of the walk's matters
  pub no_header : walked b n ≡ Err BadHeader → ⊥
  no_header = outcome (Err BadHeader)

  -- ── Both are tokens that the block has ──

  upto_lex : {p : ℕ} {ts : List Tok} → Upto b n p ts → L 0 ≡ ts ++ L p
  upto_lex start = refl
  upto_lex (past_nop {p = p} {ts = ts} u h) = upto_lex u ∙ ap (λ (x : List Tok). ts ++ x) (lex_of b n p _ h)
  upto_lex (past_begin {p = p} {ts = ts} u h) = upto_lex u ∙ ap (λ (x : List Tok). ts ++ x) (lex_of b n p _ h) ∙ sym (append_assoc ts (_ ∷ []) _)
  upto_lex (past_end {p = p} {ts = ts} u h) = upto_lex u ∙ ap (λ (x : List Tok). ts ++ x) (lex_of b n p _ h) ∙ sym (append_assoc ts (_ ∷ []) _)
  upto_lex (past_prop {p = p} {ts = ts} u h) = upto_lex u ∙ ap (λ (x : List Tok). ts ++ x) (lex_of b n p _ h) ∙ sym (append_assoc ts (_ ∷ []) _)

  -- at a place there is one token at most, and the block's tokens from there on begin with it
  taken_splits : (p : ℕ) (x : Token) → (r : List Tok) × (taken b n p x L ≡ taken b n p x (λ q. []) ++ r)
  taken_splits p Bad = ([], refl)
  taken_splits p (Nop q) = (L q, refl)
  taken_splits p (Begin l q) = (L q, refl)
  taken_splits p (EndNode q) = (L q, refl)
  taken_splits p (Prop l a z q) = (L q, refl)
  taken_splits p Fin = ([], refl)

  taken_one : (p : ℕ) (x : Token) → (taken b n p x (λ q. []) ≡ []) ⊎ ((t : Tok) × (taken b n p x (λ q. []) ≡ t ∷ []))
  taken_one p Bad = inr (bad, refl)
  taken_one p (Nop q) = inl refl
  taken_one p (Begin l q) = inr (_, refl)
  taken_one p (EndNode q) = inr (ended, refl)
  taken_one p (Prop l a z q) = inr (_, refl)
  taken_one p Fin = inr (fin, refl)

  upto_here : {p : ℕ} {ts : List Tok} → Upto b n p ts → (r : List Tok) × (L 0 ≡ (ts ++ here b n p) ++ r)
  upto_here {p} {ts} u =
      let k = taken_splits p (tok_at b n p) in
      (k.0, upto_lex u ∙ ap (λ (x : List Tok). ts ++ x) (lex_of b n p _ refl ∙ k.1) ∙ sym (append_assoc ts (here b n p) k.0))

  -- a block of the grammar begins with its own tokens
  pub block_begins : {root : ℕ} {ps : List Property} {kids : Nodes} {p : ℕ} {ts : List Tok} → Block b n root ps kids → Upto b n p ts → Begins (ts ++ here b n p)
  block_begins {root} {ps} {kids} k u =
      let w = upto_here u in
      record { root = root; ps = ps; kids = kids; rest = w.0; form = sym (tokens_are b n root ps kids k) ∙ w.1 }

  -- ── The grammar on bytes is to go on so up to FDT_END ──

  nops_upto : {p q : ℕ} {ts : List Tok} → Upto b n p ts → Nops b n p q → Upto b n q ts
  nops_upto u no_nop = u
  nops_upto u (a_nop h r) = nops_upto (past_nop u h) r

  props_upto : {p q : ℕ} {ps : List Property} {ts : List Tok} → Upto b n p ts → Props b n p ps q → (us : List Tok) × Upto b n q us
  props_upto {ts = ts} u no_prop = (ts, u)
  props_upto u (a_prop w h r) = props_upto (past_prop (nops_upto u w) h) r

  kids_upto : {p q : ℕ} {ks : Nodes} {ts : List Tok} → Upto b n p ts → Kids b n p ks q → (us : List Tok) × Upto b n q us
  kids_upto {ts = ts} u no_kid = (ts, u)
  kids_upto u (a_kid w h x i v g r) =
      let j = props_upto (past_begin (nops_upto u w) h) x in
      let k = kids_upto j.1 i in
      kids_upto (past_end (nops_upto k.1 v) g) r

  -- the tokens up to FDT_END, and no more
  end_lex : {p : ℕ} {ts : List Tok} → Upto b n p ts → tok_at b n p ≡ Fin → L 0 ≡ ts ++ (fin ∷ [])
  end_lex {p} {ts} u h = upto_lex u ∙ ap (λ (x : List Tok). ts ++ x) (lex_of b n p _ h)

  abbrev InGrammar : Type 0
  InGrammar = (root : ℕ) × (ps : List Property) × (kids : Nodes) × Block b n root ps kids

  abbrev GoesOn : Type 0
  GoesOn = (p : ℕ) × (ts : List Tok) × Upto b n p ts × (tok_at b n p ≡ Fin) × Begins (ts ++ here b n p)

  goes_on : InGrammar → GoesOn
  goes_on (root, ps, kids, k) =
      let w = kids_upto start k.nodes in
      let u = nops_upto w.1 k.nops in
      (k.last, w.0, u, k.end, block_begins k u)

  in_grammar : GoesOn → InGrammar
  in_grammar (p, ts, u, h, g) =
      let f : Begins (ts ++ (fin ∷ [])) = subst (λ (x : Token). Begins (ts ++ taken b n p x (λ q. []))) h g in
      (f.root, f.ps, f.kids, block_of b n f.root f.ps f.kids (end_lex u h ∙ end_form ts f))

  pub grammar_exactly : ((root : ℕ) × (ps : List Property) × (kids : Nodes) × Block b n root ps kids)
      ↔ ((p : ℕ) × (ts : List Tok) × Upto b n p ts × (tok_at b n p ≡ Fin) × Begins (ts ++ here b n p))
  grammar_exactly = (goes_on, in_grammar)

  -- ── No block is both ──

  -- a token that is refused is no NOP
  fault_token : (f : Faulty b n) → (t : Tok) × (here b n f.at ≡ t ∷ [])
  fault_token f =
      ⊎_elim (λ e. absurd (f.fault (subst (λ (x : List Tok). Begins (f.before ++ x)) (sym e) (subst Begins (sym (append-nil f.before)) f.sound.begins)))) (λ t. t) (taken_one f.at (tok_at b n f.at))

  pub never_both : Faulty b n → Exceeds b n → ⊥
  never_both f e =
      let t = fault_token f in
      let x = upto_here f.upto in
      let y = upto_here e.upto in
      let both : (f.before ++ here b n f.at) ++ x.0 ≡ (e.before ++ here b n e.at) ++ y.0 = sym x.1 ∙ y.1 in
      ⊎_elim (λ w. f.fault (begins_less _ w.0 (subst Begins w.1 e.fits)))
      (λ w. ⊎_elim (λ v. e.over (within_less b n _ v.0 (subst (BeginsWithin b n) v.1 f.sound)))
      (λ v. f.fault (subst (λ (z : List Tok). Begins (f.before ++ z)) (sym t.1) (subst Begins v e.fits)))
      (shorter f.before t.0 _ w.0 (ap (λ (z : List Tok). f.before ++ z) (sym t.1) ∙ w.1)))
      (comparable _ _ x.0 y.0 both)

  -- THE NUMBERS OF THE WALK
  broken_if : Faulty b n → walked b n ≡ Err BadStructure
  broken_if f = go (walked b n) refl
    where
      go : (v : Result Unit TreeFault) → walked b n ≡ v → walked b n ≡ Err BadStructure
      go (Ok _) h = absurd (f.fault (block_begins ((accepted_exactly b n).0 h).block f.upto))
      go (Err BadHeader) h = absurd (outcome (Err BadHeader) h)
      go (Err BadStructure) h = h
      go (Err OverLimit) h = absurd (never_both f (outcome (Err OverLimit) h))

  over_if : Exceeds b n → walked b n ≡ Err OverLimit
  unfolding block_begins
  over_if e = go (walked b n) refl
    where
      go : (v : Result Unit TreeFault) → walked b n ≡ v → walked b n ≡ Err OverLimit
      go (Ok _) h =
          let w = (accepted_exactly b n).0 h in
          absurd (e.over (record { begins = block_begins w.block e.upto; within = w.within }))
      go (Err BadHeader) h = absurd (outcome (Err BadHeader) h)
      go (Err BadStructure) h = absurd (never_both (outcome (Err BadStructure) h) e)
      go (Err OverLimit) h = h

  -- the tokens of a whole block end with FDT_END
  whole_lex : (w : Whole b n) → L 0 ≡ w.before ++ here b n w.at
  whole_lex w = end_lex w.upto w.end ∙ ap (λ (x : Token). w.before ++ taken b n w.at x (λ q. [])) (sym w.end)

  -- so what is first in it is the first of its tree
  whole_within : (w : Whole b n) {p : ℕ} {ts : List Tok} → Upto b n p ts → BeginsWithin b n (ts ++ here b n p)
  whole_within w {p} {ts} u =
      let k = upto_here u in
      within_less b n (ts ++ here b n p) k.0 (subst (BeginsWithin b n) (sym (whole_lex w) ∙ k.1) w.sound)

  whole_if : Whole b n → walked b n ≡ Ok tt
  whole_if w = go (walked b n) refl
    where
      go : (v : Result Unit TreeFault) → walked b n ≡ v → walked b n ≡ Ok tt
      go (Ok _) h = h
      go (Err BadHeader) h = absurd (outcome (Err BadHeader) h)
      go (Err BadStructure) h = let f = outcome (Err BadStructure) h in absurd (f.fault (whole_within w f.upto).begins)
      go (Err OverLimit) h = let f = outcome (Err OverLimit) h in absurd (f.over (whole_within w f.upto))

  pub whole_exactly : (walked b n ≡ Ok tt) ↔ Whole b n
  whole_exactly = (outcome (Ok tt), whole_if)

  pub broken_exactly : (walked b n ≡ Err BadStructure) ↔ Faulty b n
  broken_exactly = (outcome (Err BadStructure), broken_if)

  pub exceeds_exactly : (walked b n ≡ Err OverLimit) ↔ Exceeds b n
  exceeds_exactly = (outcome (Err OverLimit), over_if)

  -- a block in the grammar that is not within the limits gives 6, and never 5
  pub grammar_over : (root : ℕ) (ps : List Property) (kids : Nodes) → Block b n root ps kids → (Within b n kids → ⊥) → walked b n ≡ Err OverLimit
  grammar_over root ps kids k h = go (walked b n) refl
    where
      go : (v : Result Unit TreeFault) → walked b n ≡ v → walked b n ≡ Err OverLimit
      go (Ok _) e =
          let w = (accepted_exactly b n).0 e in
          let q = one_block b n w.root root w.ps ps w.kids kids w.block k in
          absurd (h (subst (Within b n) q.2 w.within))
      go (Err BadHeader) e = absurd (outcome (Err BadHeader) e)
      go (Err BadStructure) e = let f = outcome (Err BadStructure) e in absurd (f.fault (block_begins k f.upto))
      go (Err OverLimit) e = e

  -- a block not in the grammar gives 5, where all that is in order in it is within the limits
  pub no_grammar_broken : ((root : ℕ) (ps : List Property) (kids : Nodes) → Block b n root ps kids → ⊥)
      → ((p : ℕ) (ts : List Tok) → Upto b n p ts → Begins (ts ++ here b n p) → BeginsWithin b n (ts ++ here b n p)) → walked b n ≡ Err BadStructure
  no_grammar_broken h g = go (walked b n) refl
    where
      go : (v : Result Unit TreeFault) → walked b n ≡ v → walked b n ≡ Err BadStructure
      go (Ok _) e = let w = (accepted_exactly b n).0 e in absurd (h w.root w.ps w.kids w.block)
      go (Err BadHeader) e = absurd (outcome (Err BadHeader) e)
      go (Err BadStructure) e = e
      go (Err OverLimit) e = let f = outcome (Err OverLimit) e in absurd (f.over (g f.at f.before f.upto f.fits))

  -- ── The limits counted ──

  module _ (ts : List Tok) (t : Tok) (w : BeginsWithin b n (ts ++ (t ∷ []))) where
    come_turn : ((d : ℕ) × (c : ℕ) × (a : Bool) × Comes ts d c a) → ((d c : ℕ) (a : Bool) → Sane d c a → Turn t d c a) → (d : ℕ) × (c : ℕ) × (a : Bool) × Comes (ts ++ (t ∷ [])) d c a
    come_turn k f = go (f k.0 k.1 k.2 k.3.sane)
      where
        go : Turn t k.0 k.1 k.2 → (d : ℕ) × (c : ℕ) × (a : Bool) × Comes (ts ++ (t ∷ [])) d c a
        go (goes e m o s v x y g) = (e, m, o, come_next ts k.0 k.1 k.2 k.3 t e m o s v x y g)
        go (breaks g) = absurd (come_none ts k.0 k.1 k.2 k.3 t g w.begins)
        go (exceeds e m o s x g j) = absurd (come_over ts k.0 k.1 k.2 k.3 t g b n w)

  -- the walk comes past tokens that are the first of a tree within the limits
  comes_of : {p : ℕ} {ts : List Tok} → Upto b n p ts → BeginsWithin b n ts → (d : ℕ) × (c : ℕ) × (a : Bool) × Comes ts d c a
  comes_of start w = (0, 0, false, comes_first)
  comes_of (past_nop u h) w = comes_of u w
  comes_of (past_begin {ts = ts} u h) w = come_turn ts _ w (comes_of u (within_less b n ts _ w)) (turn_begin _ _)
  comes_of (past_end {ts = ts} u h) w = come_turn ts _ w (comes_of u (within_less b n ts _ w)) turn_end
  comes_of (past_prop {ts = ts} u h) w = come_turn ts _ w (comes_of u (within_less b n ts _ w)) (turn_prop _)

  module _ (e : Exceeds b n) (d c : ℕ) (a : Bool) (k : Comes e.before d c a) where
    with_token : (t : Tok) → here b n e.at ≡ t ∷ [] → Turn t d c a → AtLimit t d c
    with_token t is (goes i m o s v x y g) =
        absurd (e.over (subst (λ (z : List Tok). BeginsWithin b n (e.before ++ z)) (sym is) (come_within (e.before ++ (t ∷ [])) i m o (come_next e.before d c a k t i m o s v x y g) b n)))
    with_token t is (breaks g) = absurd (come_none e.before d c a k t g (subst (λ (z : List Tok). Begins (e.before ++ z)) is e.fits))
    with_token t is (exceeds i m o s x g j) = x

    counted_step : (x : Token) → tok_at b n e.at ≡ x → Counted b n
    unfolding run_l
    counted_step Bad h =
        absurd (come_none e.before d c a k bad tt (subst (λ (z : Token). Begins (e.before ++ taken b n e.at z (λ q. []))) h e.fits))
    counted_step (Nop q) h =
        absurd (e.over (subst (λ (z : Token). BeginsWithin b n (e.before ++ taken b n e.at z (λ q. []))) (sym h) (subst (BeginsWithin b n) (sym (append-nil e.before)) e.sound)))
    counted_step (Begin l q) h =
        let w = with_token _ (ap (λ (z : Token). taken b n e.at z (λ q. [])) h) (turn_begin _ _ d c a k.sane) in
        let i = w.1 in
        record {
          at = e.at;
          before = e.before;
          upto = e.upto;
          sound = e.sound;
          len = l;
          next = q;
          begins = h;
          inside = omega arith;
          limit = ⊎_elim (λ x. inl (omega arith)) (λ x. inr (omega arith)) w.2;
        }
    counted_step (EndNode q) h =
        let w = with_token ended (ap (λ (z : Token). taken b n e.at z (λ q. [])) h) (turn_end d c a k.sane) in
        let z = w.0 in
        let y : ⊥ = omega arith in absurd y
    counted_step (Prop l y z q) h =
        let w = with_token _ (ap (λ (z : Token). taken b n e.at z (λ q. [])) h) (turn_prop _ d c a k.sane) in
        let z = w.0 in
        let y : ⊥ = omega arith in absurd y
    counted_step Fin h =
        let is = ap (λ (z : Token). taken b n e.at z (λ q. [])) h in
        ⊎_elim
        (λ f. absurd (e.over (subst (λ (z : List Tok). BeginsWithin b n (e.before ++ z)) (sym is) (come_whole e.before d c a k f b n))))
        (λ f. absurd (come_none e.before d c a k fin f (subst (λ (z : List Tok). Begins (e.before ++ z)) is e.fits)))
        (fin_way d c a)

  to_counted : Exceeds b n → Counted b n
  to_counted e =
      let k = comes_of e.upto e.sound in
      counted_step e k.0 k.1 k.2 k.3 (tok_at b n e.at) refl

  from_counted : Counted b n → Exceeds b n
  from_counted e = go (comes_of e.upto e.sound)
    where
      go : ((d : ℕ) × (c : ℕ) × (a : Bool) × Comes e.before d c a) → Exceeds b n
      go (zero, c, a, k) = let i = e.inside in let w : ⊥ = omega arith in absurd w
      go (suc d, c, a, k) =
          let is : here b n e.at ≡ begin e.at (bytes b (e.at + 4) (e.at + 4 + e.len)) ∷ [] = ap (λ (z : Token). taken b n e.at z (λ q. [])) e.begins in
          let m : (suc d ≡ 32) ⊎ (c ≡ 4096) = ⊎_elim (λ x. inl (omega arith)) (λ x. inr (omega arith)) e.limit in
          record {
            at = e.at;
            before = e.before;
            upto = e.upto;
            sound = e.sound;
            fits = subst (λ (x : List Tok). Begins (e.before ++ x)) (sym is) (come_fits e.before (suc d) c a k _ (begin_over _ _ d c a m) (suc (suc d)) (suc c) true (λ z. omega arith) (begin_raised _ _ d c a k.sane));
            over = λ w. come_over e.before (suc d) c a k _ (begin_over _ _ d c a m) b n (subst (λ (x : List Tok). BeginsWithin b n (e.before ++ x)) is w);
          }

  pub counted_exactly : Exceeds b n ↔ Counted b n
  counted_exactly = (to_counted, from_counted)

  -- ── The faults named ──

  module _ (ts : List Tok) (d c : ℕ) (a : Bool) (k : Comes ts d c a) where
    -- a token with which no tree begins is refused
    why_of : (t : Tok) → Turn t d c a → (Begins (ts ++ (t ∷ [])) → ⊥) → Why t d c a
    why_of t (goes e m o s v x y g) f = absurd (f (come_within (ts ++ (t ∷ [])) e m o (come_next ts d c a k t e m o s v x y g) b n).begins)
    why_of t (breaks w) f = w
    why_of t (exceeds e m o s x g j) f = absurd (f (come_fits ts d c a k t g e m o s j))

    fin_why : (Begins (ts ++ (fin ∷ [])) → ⊥) → Why fin d c a
    fin_why f = ⊎_elim (λ h. absurd (f (come_whole ts d c a k h b n).begins)) (λ w. w) (fin_way d c a)

    module _ (p : ℕ) where
      name_length : (l q : ℕ) → tok_at b n p ≡ Begin l q → length (bytes b (p + 4) (p + 4 + l)) ≡ l
      name_length l q h = let r = reach_of b n p _ h in bytes_long b (p + 4) l (omega arith)

      to_wrong : (x : Token) → tok_at b n p ≡ x → (Begins (ts ++ taken b n p x (λ q. [])) → ⊥) → Wrong x ts
      to_wrong Bad h f = tt
      to_wrong (Nop q) h f = absurd (f (subst Begins (sym (append-nil ts)) (come_within ts d c a k b n).begins))
      to_wrong (Begin l q) h f =
          let e = name_length l q h in
          let w = why_of _ (turn_begin _ _ d c a k.sane) f in
          let z = w.0 in
          (omega arith, ⊎_elim (λ x. inl (omega arith)) (λ x. inr (omega arith)) w.1)
      to_wrong (EndNode q) h f = let w = why_of ended (turn_end d c a k.sane) f in omega arith
      to_wrong (Prop l y z q) h f =
          ⊎_elim (λ x. inl (omega arith)) (λ x. inr x) (k.off (why_of _ (turn_prop _ d c a k.sane) f))
      to_wrong Fin h f = ⊎_elim (λ x. inl (omega arith)) (λ x. inr (omega arith)) (fin_why f)

      -- where a property is wrong, the walk takes none
      no_property : (begun ts ≡ closed ts) ⊎ ChildLast ts → a ≡ false
      no_property w = go a refl
        where
          go : (t : Bool) → a ≡ t → a ≡ false
          go false h = h
          go true h = ⊎_elim (λ x. let r = k.sane.room h in let z : ⊥ = omega arith in absurd z) (λ x. absurd (k.on h x)) w

      from_wrong : (x : Token) → tok_at b n p ≡ x → Wrong x ts → Begins (ts ++ taken b n p x (λ q. [])) → ⊥
      from_wrong Bad h w = come_none ts d c a k bad tt
      from_wrong (Nop q) h w = absurd w
      from_wrong (Begin l q) h w =
          let e = name_length l q h in
          let z = w.0 in
          come_none ts d c a k _ (omega arith, ⊎_elim (λ x. inl (omega arith)) (λ x. inr (omega arith)) w.1)
      from_wrong (EndNode q) h w = come_none ts d c a k ended (omega arith)
      from_wrong (Prop l y z q) h w = come_none ts d c a k _ (no_property w)
      from_wrong Fin h w = come_none ts d c a k fin (⊎_elim (λ x. inl (omega arith)) (λ x. inr (omega arith)) w)

  to_named : Faulty b n → Named b n
  to_named f =
      let k = comes_of f.upto f.sound in
      record { at = f.at; before = f.before; upto = f.upto; sound = f.sound; wrong = to_wrong f.before k.0 k.1 k.2 k.3 f.at (tok_at b n f.at) refl f.fault }

  from_named : Named b n → Faulty b n
  from_named f =
      let k = comes_of f.upto f.sound in
      record { at = f.at; before = f.before; upto = f.upto; sound = f.sound; fault = from_wrong f.before k.0 k.1 k.2 k.3 f.at (tok_at b n f.at) refl f.wrong }

  pub named_exactly : Faulty b n ↔ Named b n
  named_exactly = (to_named, from_named)
