-- The walk accepts a structure block exactly when it is the flattened form of a tree within the limits; it is that of one tree alone,
-- and `tree_of` reads it. So the grammar on bytes and the tokens that are read say the same. Assumes nothing.
use mathlib.Core.Path.{◌≡◌, refl, sym, ◌∙◌, ap, subst}
use mathlib.Core.Logic.{◌↔◌}
use Prim.Native.Nat.{ℕ, zero, suc, ◌+◌, ◌≤◌}
use native.Mathlib.Omega.{arith}
use mathlib.Core.List.{List, [], ◌∷◌}
use mathlib.Core.Bool.{false}
use lib.ListN.{length}
use Rattle.std.specs.Prelude.{Ok}
use Rattle.words.specs.Bytes.{bytes}
use Rattle.fdt.specs.Token.{tok_at}
use Rattle.fdt.specs.Tree.{Property, Nodes, none, node, Tok, begin, ended, prop, fin, flat_p, flat_k, taken, lex_at, levels, top, tree_of}
use Rattle.fdt.specs.Walk.{walked}
use Rattle.fdt.specs.Grammar.{Nops, no_nop, a_nop, Props, no_prop, a_prop, Kids, no_kid, a_kid, Block}
use Rattle.fdt.specs.declared.Token.{Token}
use Rattle.fdt.specs.declared.Token.TheVariants.{Bad, Nop, Begin, EndNode, Prop, Fin}
use Rattle.words.proofs.BytesLaws.{never}
use Rattle.fdt.proofs.TokLaws.{ahead_of}
use Rattle.fdt.proofs.LexLaws.{lex_of}
use Rattle.grammar.specs.Written.{Written}
use Rattle.grammar.proofs.TreeLaws.{run_t, walked_run, accepted_tree, tree_accepted, levels_tree}

abbrev NotNop : Token → Type 0
NotNop Bad = Unit {0}
NotNop (Nop q) = ⊥
NotNop (Begin l q) = Unit {0}
NotNop (EndNode q) = Unit {0}
NotNop (Prop l a z q) = Unit {0}
NotNop Fin = Unit {0}

module _ (b n : List ℕ) where
  abbrev L : ℕ → List Tok
  L p = lex_at b n p

  -- ── From the grammar to the tokens ──

  nops_lex : {p q : ℕ} → Nops b n p q → L p ≡ L q
  nops_lex no_nop = refl
  nops_lex (a_nop {p = p} h r) = lex_of b n p _ h ∙ nops_lex r

  props_lex : {p q : ℕ} {ps : List Property} → Props b n p ps q → L p ≡ flat_p ps (L q)
  props_lex no_prop = refl
  props_lex (a_prop {x = x} {l = l} {a = a} {z = z} w h r) =
      nops_lex w ∙ lex_of b n x _ h ∙ ap (λ (y : List Tok). prop (record { at = x; name = bytes n a z; value = bytes b (x + 12) (x + 12 + l) }) ∷ y) (props_lex r)

  kids_lex : {p q : ℕ} {ks : Nodes} → Kids b n p ks q → L p ≡ flat_k ks (L q)
  kids_lex no_kid = refl
  kids_lex (a_kid {x = x} {l = l} {y = y} {ps = ps} {ks = ks} w h u i v g r) =
      nops_lex w ∙ lex_of b n x _ h
      ∙ ap (λ (z : List Tok). begin x (bytes b (x + 4) (x + 4 + l)) ∷ z) (props_lex u ∙ ap (flat_p ps) (kids_lex i ∙ ap (flat_k ks) (nops_lex v ∙ lex_of b n y _ g ∙ ap (λ (z : List Tok). ended ∷ z) (kids_lex r))))

  -- ── From the tokens to the grammar ──

  -- past the NOPs stands the token that is read first
  abbrev Stands : ℕ → Tok → List Tok → Type 0
  Stands p t ts = (x : ℕ) × Nops b n p x × (taken b n x (tok_at b n x) L ≡ t ∷ ts) × NotNop (tok_at b n x)

  stands_here : (p : ℕ) (t : Tok) (ts : List Tok) → L p ≡ t ∷ ts → NotNop (tok_at b n p) → Stands p t ts
  stands_here p t ts h m = (p, no_nop, sym (lex_of b n p _ refl) ∙ h, m)

  stands_step : (p : ℕ) (t : Tok) (ts : List Tok) (k : Token) → tok_at b n p ≡ k → L p ≡ t ∷ ts
      → ((m : ℕ) → p + 4 ≤ length b → p + 4 ≤ m → L m ≡ t ∷ ts → Stands m t ts) → Stands p t ts
  stands_step p t ts Bad q h ih = stands_here p t ts h (subst NotNop (sym q) tt)
  stands_step p t ts (Nop m) q h ih =
      let a = ahead_of b n p _ q in
      let r = ih m a.0 a.1 (sym (lex_of b n p _ q) ∙ h) in
      (r.0, a_nop q r.1, r.2, r.3)
  stands_step p t ts (Begin l m) q h ih = stands_here p t ts h (subst NotNop (sym q) tt)
  stands_step p t ts (EndNode m) q h ih = stands_here p t ts h (subst NotNop (sym q) tt)
  stands_step p t ts (Prop l a z m) q h ih = stands_here p t ts h (subst NotNop (sym q) tt)
  stands_step p t ts Fin q h ih = stands_here p t ts h (subst NotNop (sym q) tt)

  stands_within : (f p : ℕ) (t : Tok) (ts : List Tok) → length b ≤ p + f → L p ≡ t ∷ ts → Stands p t ts
  stands_within zero p t ts e h = stands_step p t ts (tok_at b n p) refl h (λ m x y g. let w : ⊥ = omega arith in absurd w)
  stands_within (suc f) p t ts e h = stands_step p t ts (tok_at b n p) refl h (λ m x y g. stands_within f m t ts (omega arith) g)

  stands : (p : ℕ) (t : Tok) (ts : List Tok) → L p ≡ t ∷ ts → Stands p t ts
  stands p t ts h = stands_within (length b) p t ts (omega arith) h

  -- which token it is
  is_begin : (x : ℕ) (k : Token) (q : ℕ) (nm : List ℕ) (ts : List Tok) → NotNop k → taken b n x k L ≡ begin q nm ∷ ts
      → (l : ℕ) × (m : ℕ) × (k ≡ Begin l m) × (x ≡ q) × (bytes b (x + 4) (x + 4 + l) ≡ nm) × (L m ≡ ts)
  is_begin x Bad q nm ts i h = never (cc)
  is_begin x (Nop m) q nm ts i h = absurd i
  is_begin x (Begin l m) q nm ts i h = (l, m, refl, cc, cc, cc)
  is_begin x (EndNode m) q nm ts i h = never (cc)
  is_begin x (Prop l a z m) q nm ts i h = never (cc)
  is_begin x Fin q nm ts i h = never (cc)

  is_ended : (x : ℕ) (k : Token) (ts : List Tok) → NotNop k → taken b n x k L ≡ ended ∷ ts → (m : ℕ) × (k ≡ EndNode m) × (L m ≡ ts)
  is_ended x Bad ts i h = never (cc)
  is_ended x (Nop m) ts i h = absurd i
  is_ended x (Begin l m) ts i h = never (cc)
  is_ended x (EndNode m) ts i h = (m, refl, cc)
  is_ended x (Prop l a z m) ts i h = never (cc)
  is_ended x Fin ts i h = never (cc)

  is_fin : (x : ℕ) (k : Token) (ts : List Tok) → NotNop k → taken b n x k L ≡ fin ∷ ts → k ≡ Fin
  is_fin x Bad ts i h = never (cc)
  is_fin x (Nop m) ts i h = absurd i
  is_fin x (Begin l m) ts i h = never (cc)
  is_fin x (EndNode m) ts i h = never (cc)
  is_fin x (Prop l a z m) ts i h = never (cc)
  is_fin x Fin ts i h = refl

  is_prop : (x : ℕ) (k : Token) (p : Property) (ts : List Tok) → NotNop k → taken b n x k L ≡ prop p ∷ ts
      → (l : ℕ) × (a : ℕ) × (z : ℕ) × (m : ℕ) × (k ≡ Prop l a z m) × (◌≡◌ {A = Property} (record { at = x; name = bytes n a z; value = bytes b (x + 12) (x + 12 + l) }) p) × (L m ≡ ts)
  is_prop x Bad p ts i h = never (cc)
  is_prop x (Nop m) p ts i h = absurd i
  is_prop x (Begin l m) p ts i h = never (cc)
  is_prop x (EndNode m) p ts i h = never (cc)
  is_prop x (Prop l a z m) p ts i h = (l, a, z, m, refl, cc, cc)
  is_prop x Fin p ts i h = never (cc)

  props_back : (ps : List Property) (p : ℕ) (r : List Tok) → L p ≡ flat_p ps r → (q : ℕ) × Props b n p ps q × (L q ≡ r)
  props_back [] p r h = (p, no_prop, h)
  props_back (y ∷ ps) p r h =
      let w = stands p (prop y) (flat_p ps r) h in
      let k = is_prop w.0 (tok_at b n w.0) y _ w.3 w.2 in
      let i = props_back ps k.3 r k.6 in
      (i.0, subst (λ (z : Property). Props b n p (z ∷ ps) i.0) k.5 (a_prop w.1 k.4 i.1), i.2)

  kids_back : (ks : Nodes) (p : ℕ) (t : Tok) (r : List Tok) → L p ≡ flat_k ks (t ∷ r) → (q : ℕ) × Kids b n p ks q × (L q ≡ t ∷ r)
  kids_back none p t r h = (p, no_kid, h)
  kids_back (node q nm ps ks rest) p t r h =
      let w = stands p (begin q nm) (flat_p ps (flat_k ks (ended ∷ flat_k rest (t ∷ r)))) h in
      let k = is_begin w.0 (tok_at b n w.0) q nm _ w.3 w.2 in
      let i = props_back ps k.1 (flat_k ks (ended ∷ flat_k rest (t ∷ r))) k.5 in
      let j = kids_back ks i.0 ended (flat_k rest (t ∷ r)) i.2 in
      let v = stands j.0 ended (flat_k rest (t ∷ r)) j.2 in
      let g = is_ended v.0 (tok_at b n v.0) _ v.3 v.2 in
      let o = kids_back rest g.0 t r g.2 in
      let d : Kids b n p (node w.0 (bytes b (w.0 + 4) (w.0 + 4 + k.0)) ps ks rest) o.0 = a_kid {k = j.0} {y = v.0} {j = g.0} {r = o.0} w.1 k.2 i.1 j.1 v.1 g.1 o.1 in
      (o.0, subst (λ (z : ℕ). Kids b n p (node z nm ps ks rest) o.0) k.3 (subst (λ (z : List ℕ). Kids b n p (node w.0 z ps ks rest) o.0) k.4 d), o.2)

  module _ (root : ℕ) (ps : List Property) (kids : Nodes) where
    -- the tokens of a block are the flattened form of its tree, and tokens of that form are a block's
    pub tokens_are : Block b n root ps kids → lex_at b n 0 ≡ flat_k (node root [] ps kids none) (fin ∷ [])
    tokens_are k = kids_lex k.nodes ∙ ap (flat_k (node root [] ps kids none)) (nops_lex k.nops ∙ lex_of b n k.last _ k.end)

    pub block_of : lex_at b n 0 ≡ flat_k (node root [] ps kids none) (fin ∷ []) → Block b n root ps kids
    block_of h =
        let i = kids_back (node root [] ps kids none) 0 fin [] h in
        let w = stands i.0 fin [] i.2 in
        record { upto = i.0; last = w.0; nodes = i.1; nops = w.1; end = is_fin w.0 (tok_at b n w.0) _ w.3 w.2 }

    -- THE TREE OF A BLOCK
    pub tree_is : Block b n root ps kids → tree_of b n ≡ node root [] ps kids none
    unfolding tree_of
    tree_is k = ap (λ (x : List Tok). top (levels x)) (tokens_are k) ∙ ap top (levels_tree (node root [] ps kids none))

  -- ACCEPTED EXACTLY WHEN IT IS WRITTEN
  written : walked b n ≡ Ok tt → Written b n
  written h =
      let r = accepted_tree 32 4096 (omega arith) (omega arith) (lex_at b n 0) (sym (walked_run b n) ∙ h) in
      record { root = r.0; ps = r.1; kids = r.2; block = block_of r.0 r.1 r.2 r.3; within = record { levels = r.4; nodes = r.5 } }

  accepted : Written b n → walked b n ≡ Ok tt
  accepted w =
      walked_run b n ∙ ap (λ (x : List Tok). run_t x 0 0 false) (tokens_are w.root w.ps w.kids w.block)
      ∙ tree_accepted 32 4096 w.root w.ps w.kids w.within.levels w.within.nodes

  pub accepted_exactly : (walked b n ≡ Ok tt) ↔ Written b n
  accepted_exactly = (written, accepted)

  -- OF ONE TREE ALONE
  pub one_block : (root root' : ℕ) (ps ps' : List Property) (kids kids' : Nodes) → Block b n root ps kids → Block b n root' ps' kids'
      → (root ≡ root') × (ps ≡ ps') × (kids ≡ kids')
  one_block root root' ps ps' kids kids' k k' =
      let e = sym (tree_is root ps kids k) ∙ tree_is root' ps' kids' k' in
      (cc, cc, cc)

  pub one_tree : (t u : Written b n) → (t.root ≡ u.root) × (t.ps ≡ u.ps) × (t.kids ≡ u.kids)
  one_tree t u = one_block t.root u.root t.ps u.ps t.kids u.kids t.block u.block
