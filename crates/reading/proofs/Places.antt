-- Where the tokens from a place on begin with a node, a property or an end, that token stands there, past any FDT_NOP, and the tokens
-- after it are read from the place after it; and so past whole rows of properties and of nodes. Assumes nothing.
use mathlib.Core.Path.{◌≡◌, refl, sym, subst}
use Prim.Native.Nat.{ℕ, zero, suc, ◌+◌, ◌≤◌}
use native.Mathlib.Omega.{arith}
use mathlib.Core.List.{List, [], ◌∷◌}
use lib.ListN.{length}
use Rattle.words.specs.Bytes.{bytes}
use Rattle.words.proofs.BytesLaws.{part_cut}
use Rattle.fdt.specs.declared.Token.{Token}
use Rattle.fdt.specs.declared.Token.TheVariants.{Bad, Nop, Begin, EndNode, Prop, Fin}
use Rattle.fdt.specs.Token.{tok_at}
use Rattle.fdt.specs.Tree.{Property, Nodes, none, node, Tok, begin, ended, prop, fin, bad, flat_p, flat_k, taken, lex_at}
use Rattle.words.proofs.BytesLaws.{bytes_long}
use Rattle.fdt.proofs.TokLaws.{reach_of}
use Rattle.fdt.proofs.LexLaws.{lex_of}
use Rattle.reading.specs.Places.{Later, NodeAt, PropertyAt}

-- what the tokens say where they begin, at o or later
abbrev Front : List ℕ → List ℕ → ℕ → List Tok → Type 0
Front b n o [] = Unit {0}
Front b n o (begin q nm ∷ ts) = NodeAt b n o q nm ts
Front b n o (ended ∷ ts) = Later b n o ts
Front b n o (prop x ∷ ts) = PropertyAt b n o x ts
Front b n o (fin ∷ ts) = Unit {0}
Front b n o (bad ∷ ts) = Unit {0}

module _ (b n : List ℕ) (o : ℕ) where
  front_of : (p : ℕ) → o ≤ p → (t : Token) → tok_at b n p ≡ t → ((q : ℕ) → tok_at b n p ≡ Nop q → Front b n o (lex_at b n q))
      → Front b n o (taken b n p t (lex_at b n))
  front_of p h Bad e k = tt
  front_of p h (Nop q) e k = k q e
  front_of p h (Begin l q) e k =
      let r = reach_of b n p (Begin l q) e in
      record { len = l; next = q; token = e; named = refl; tokens = refl; from = h; onward = omega arith }
  front_of p h (EndNode q) e k =
      let r = reach_of b n p (EndNode q) e in
      record { to = q; onward = omega arith; tokens = refl }
  front_of p h (Prop l a z q) e k =
      let r = reach_of b n p (Prop l a z q) e in
      let w : length (bytes b (p + 12) (p + 12 + l)) ≡ l = bytes_long b (p + 12) l r.3 in
      record {
        len = l;
        start = a;
        end = z;
        next = q;
        token = e;
        named = refl;
        valued = refl;
        long = w;
        part = rw w (part_cut b (p + 12) l r.3);
        tokens = refl;
        from = h;
        onward = omega arith;
      }
  front_of p h Fin e k = tt

  -- in a block of at most p + f bytes
  front : (f p : ℕ) → o ≤ p → length b ≤ p + f → Front b n o (lex_at b n p)
  front zero p h m =
      rw (lex_of b n p (tok_at b n p) refl)
      (front_of p h (tok_at b n p) refl (λ q e. let r = reach_of b n p (Nop q) e in let x : ⊥ = omega arith in absurd x))
  front (suc f) p h m =
      rw (lex_of b n p (tok_at b n p) refl)
      (front_of p h (tok_at b n p) refl (λ q e. let r = reach_of b n p (Nop q) e in front f q (omega arith) (omega arith)))

module _ (b n : List ℕ) (p : ℕ) where
  front_is : (ts : List Tok) → lex_at b n p ≡ ts → Front b n p ts
  front_is ts e = subst (Front b n p) e (front b n p (length b) p (omega arith) (omega arith))

  -- tokens that begin with a node: it begins at its place, from here on, and has its name there
  pub node_at_lem : {q : ℕ} {nm : List ℕ} {ts : List Tok} → lex_at b n p ≡ begin q nm ∷ ts → NodeAt b n p q nm ts
  node_at_lem = front_is _

  -- tokens that begin with a property: it stands at its place, from here on, and has its name and its value there
  pub property_at : {x : Property} {ts : List Tok} → lex_at b n p ≡ prop x ∷ ts → PropertyAt b n p x ts
  property_at = front_is _

  -- tokens that begin with a node's end: what comes after it is read from a later place
  pub end_at_lem : {ts : List Tok} → lex_at b n p ≡ ended ∷ ts → Later b n p ts
  end_at_lem = front_is _

module _ (b n : List ℕ) where
  -- past a row of properties
  pub past_properties : (ps : List Property) {ts : List Tok} (p : ℕ) → lex_at b n p ≡ flat_p ps ts → Later b n p ts
  past_properties [] p e = record { to = p; onward = omega arith; tokens = e }
  past_properties (x ∷ ps) p e =
      let a = property_at b n p e in
      let l = past_properties ps a.next (sym a.tokens) in
      record { to = l.to; onward = omega arith; tokens = l.tokens }

  -- past a node's name and its properties
  pub past_name : (ps : List Property) {q : ℕ} {nm : List ℕ} {ts : List Tok} (p : ℕ) → lex_at b n p ≡ begin q nm ∷ flat_p ps ts → Later b n (suc q) ts
  past_name ps p e =
      let a = node_at_lem b n p e in
      let l = past_properties ps a.next (sym a.tokens) in
      record { to = l.to; onward = omega arith; tokens = l.tokens }

  -- past a row of nodes
  pub past_nodes : (ks : Nodes) {ts : List Tok} (p : ℕ) → lex_at b n p ≡ flat_k ks ts → Later b n p ts
  past_nodes none p e = record { to = p; onward = omega arith; tokens = e }
  past_nodes (node q nm ps ks rest) p e =
      let a = node_at_lem b n p e in
      let l = past_name ps p e in
      let k = past_nodes ks l.to l.tokens in
      let d = end_at_lem b n k.to k.tokens in
      let r = past_nodes rest d.to d.tokens in
      record { to = r.to; onward = omega arith; tokens = r.tokens }
