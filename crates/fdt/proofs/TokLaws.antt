-- Which token stands at a place, from the facts that the tests of the code give; and where a token reaches: what it reads lies
-- inside its block, and what follows it stands past it. Assumes nothing.
use mathlib.Core.Path.{◌≡◌, subst}
use Prim.Native.Nat.{ℕ, ◌+◌, ◌-◌, ◌*◌, ◌/◌, ◌≤◌, ◌<◌}
use native.Mathlib.Nat.{le_refl}
use native.Mathlib.Omega.{arith}
use mathlib.Core.List.{List}
use lib.ListN.{length}
use lib.Dec.{ltb, leb, eqb}
use borrow.Author.Tests.{ne_eqb, eq-eqb, le-leb, lt-leb, lt-ltb, le-ltb, leb-true, ltb-true, eqb-true}
use Rattle.words.specs.Bytes.{word, string_end}
use Rattle.fdt.specs.Token.{tok_at, numbered, begin_at, prop_at}
use Rattle.fdt.specs.declared.Token.{Token}
use Rattle.fdt.specs.declared.Token.TheVariants.{Bad, Nop, Begin, EndNode, Prop, Fin}
use Rattle.words.proofs.BytesLaws.{cond_elim, from_ge}

module _ (b n : List ℕ) (p : ℕ) where
  -- a property, of which the four bytes of its number are there
  pub prop_short : length b < p + 12 → Bad ≡ prop_at b n p
  unfolding prop_at
  prop_short h =
      let l : length b < p + 12 + word b (p + 4) = omega arith in
      rw (lt-leb _ _ l)

  pub prop_long : (l : ℕ) → l ≡ word b (p + 4) → length b < p + 12 + l → Bad ≡ prop_at b n p
  unfolding prop_at
  prop_long l el h = rw (← el, lt-leb _ _ h)

  module _ (l a z : ℕ) (el : l ≡ word b (p + 4)) (fits : p + 12 + l ≤ length b) (ea : a ≡ word b (p + 8)) (ez : z ≡ string_end n a) where
    pub prop_is : z < length n → Prop l a z ((p + 12 + l + 3) / 4 * 4) ≡ prop_at b n p
    unfolding prop_at
    prop_is h = rw (← el, le-leb _ _ fits, ← ea, ← ez, lt-ltb _ _ h)

    pub prop_nameless : length n ≤ z → Bad ≡ prop_at b n p
    unfolding prop_at
    prop_nameless h = rw (← el, le-leb _ _ fits, ← ea, ← ez, le-ltb _ _ h)

  -- any token
  pub at_short : length b < p + 4 → Bad ≡ tok_at b n p
  unfolding tok_at
  at_short h = rw (lt-leb _ _ h)

  module _ (w : ℕ) (le : p + 4 ≤ length b) (is : w ≡ word b p) where
    pub at_begin : (z : ℕ) → w ≡ 1 → z ≡ string_end b (p + 4) → z < length b → Begin (z - (p + 4)) ((z + 4) / 4 * 4) ≡ tok_at b n p
    unfolding tok_at numbered begin_at
    at_begin z h iz lt =
        let q : z + 4 ≡ z + 1 + 3 = omega arith in
        rw (le-leb _ _ le, ← is, h, ← iz, lt-ltb _ _ lt, q)

    pub at_nameless : (z : ℕ) → w ≡ 1 → z ≡ string_end b (p + 4) → length b ≤ z → Bad ≡ tok_at b n p
    unfolding tok_at numbered begin_at
    at_nameless z h iz lt = rw (le-leb _ _ le, ← is, h, ← iz, le-ltb _ _ lt)

    pub at_end : w ≡ 2 → EndNode (p + 4) ≡ tok_at b n p
    unfolding tok_at numbered
    at_end h = rw (le-leb _ _ le, ← is, h)

    pub at_prop : (t : Token) → w ≡ 3 → t ≡ prop_at b n p → t ≡ tok_at b n p
    unfolding tok_at numbered
    at_prop t h e = rw (le-leb _ _ le, ← is, h) e

    pub at_nop : w ≡ 4 → Nop (p + 4) ≡ tok_at b n p
    unfolding tok_at numbered
    at_nop h = rw (le-leb _ _ le, ← is, h)

    pub at_fin : w ≡ 9 → p + 4 ≡ length b → Fin ≡ tok_at b n p
    unfolding tok_at numbered
    at_fin h q = rw (le-leb _ _ le, ← is, h, eq-eqb _ _ q)

    pub at_early : w ≡ 9 → (p + 4 ≡ length b → ⊥) → Bad ≡ tok_at b n p
    unfolding tok_at numbered
    at_early h q = rw (le-leb _ _ le, ← is, h, ne_eqb _ _ q)

    pub at_other : (w ≡ 1 → ⊥) → (w ≡ 2 → ⊥) → (w ≡ 3 → ⊥) → (w ≡ 4 → ⊥) → (w ≡ 9 → ⊥) → Bad ≡ tok_at b n p
    unfolding tok_at numbered
    at_other h1 h2 h3 h4 h9 = rw (le-leb _ _ le, ← is, ne_eqb _ _ h1, ne_eqb _ _ h2, ne_eqb _ _ h3, ne_eqb _ _ h4, ne_eqb _ _ h9)

-- where a token at p reaches, in a structure block of e bytes and a strings block of m: its own bytes are inside, and what follows
-- stands past them. The place that follows may be past the block's end by padding
abbrev pub Reach : ℕ → ℕ → ℕ → Token → Type 0
Reach p e m Bad = Unit {0}
Reach p e m (Nop q) = (p + 4 ≤ e) × (p + 4 ≤ q) × (q ≤ e)
Reach p e m (Begin l q) = (p + 4 ≤ e) × (p + 4 ≤ q) × (q < e + 4) × (p + 4 + l < e) × (p + 4 + l < q)
Reach p e m (EndNode q) = (p + 4 ≤ e) × (p + 4 ≤ q) × (q ≤ e)
Reach p e m (Prop l a z q) = (p + 4 ≤ e) × (p + 4 ≤ q) × (q < e + 4) × (p + 12 + l ≤ e) × (p + 12 + l ≤ q) × (a ≤ z) × (z < m)
Reach p e m Fin = p + 4 ≡ e

module _ (b n : List ℕ) (p : ℕ) where
  begin_reach : p + 4 ≤ length b → Reach p (length b) (length n) (begin_at b p)
  unfolding begin_at
  begin_reach le =
      let h = from_ge 0 b (length b - (p + 4)) (p + 4) in
      cond_elim (Reach p (length b) (length n)) (ltb (string_end b (p + 4)) (length b)) _ _
      (λ t. let u : string_end b (p + 4) < length b = ltb-true _ _ t in (le, omega arith, omega arith, omega arith, omega arith)) (λ t. tt)

  prop_reach : p + 4 ≤ length b → Reach p (length b) (length n) (prop_at b n p)
  unfolding prop_at
  prop_reach le =
      let a = word b (p + 8) in
      let h = from_ge 0 n (length n - a) a in
      cond_elim (Reach p (length b) (length n)) (leb (p + 12 + word b (p + 4)) (length b)) _ _
      (λ t. cond_elim (Reach p (length b) (length n)) (ltb (string_end n a) (length n)) _ _
      (λ u. let v : p + 12 + word b (p + 4) ≤ length b = leb-true _ _ t in (le, omega arith, omega arith, v, omega arith, h, ltb-true _ _ u)) (λ u. tt)) (λ t. tt)

  numbered_reach : (w : ℕ) → p + 4 ≤ length b → Reach p (length b) (length n) (numbered b n p w)
  unfolding numbered
  numbered_reach w le =
      let P : Token → Type 0 = Reach p (length b) (length n) in
      cond_elim P (eqb w 1) _ _ (λ t. begin_reach le)
      (λ t. cond_elim P (eqb w 2) _ _ (λ t. (le, le_refl _, le))
      (λ t. cond_elim P (eqb w 3) _ _ (λ t. prop_reach le)
      (λ t. cond_elim P (eqb w 4) _ _ (λ t. (le, le_refl _, le))
      (λ t. cond_elim P (eqb w 9) _ _
      (λ t. cond_elim P (eqb (p + 4) (length b)) _ _ (λ t. eqb-true _ _ t) (λ t. tt)) (λ t. tt)))))

  pub reach : Reach p (length b) (length n) (tok_at b n p)
  unfolding tok_at
  reach = cond_elim (Reach p (length b) (length n)) (leb (p + 4) (length b)) _ _ (λ t. numbered_reach (word b p) (leb-true _ _ t)) (λ t. tt)

  -- of the token t that stands at p
  pub reach_of : (t : Token) → tok_at b n p ≡ t → Reach p (length b) (length n) t
  reach_of t e = subst (Reach p (length b) (length n)) e reach

-- a token that has one after it moves on, by four bytes at least
abbrev pub Ahead : ℕ → ℕ → Token → Type 0
Ahead p e Bad = Unit {0}
Ahead p e (Nop q) = (p + 4 ≤ e) × (p + 4 ≤ q)
Ahead p e (Begin l q) = (p + 4 ≤ e) × (p + 4 ≤ q)
Ahead p e (EndNode q) = (p + 4 ≤ e) × (p + 4 ≤ q)
Ahead p e (Prop l a z q) = (p + 4 ≤ e) × (p + 4 ≤ q)
Ahead p e Fin = Unit {0}

reach_ahead : (p e m : ℕ) (t : Token) → Reach p e m t → Ahead p e t
reach_ahead p e m Bad r = tt
reach_ahead p e m (Nop q) r = (r.0, r.1)
reach_ahead p e m (Begin l q) r = (r.0, r.1)
reach_ahead p e m (EndNode q) r = (r.0, r.1)
reach_ahead p e m (Prop l a z q) r = (r.0, r.1)
reach_ahead p e m Fin r = tt

pub ahead : (b n : List ℕ) (p : ℕ) → Ahead p (length b) (tok_at b n p)
ahead b n p = reach_ahead p (length b) (length n) (tok_at b n p) (reach b n p)

pub ahead_of : (b n : List ℕ) (p : ℕ) (t : Token) → tok_at b n p ≡ t → Ahead p (length b) t
ahead_of b n p t e = reach_ahead p (length b) (length n) t (reach_of b n p t e)
