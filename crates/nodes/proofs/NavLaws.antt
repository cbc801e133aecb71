-- The ways through the tokens, a token at a time: past the properties, past a node's end, to the first child, to a property by its
-- name. Assumes nothing.
use mathlib.Core.Path.{◌≡◌, refl, sym, ◌∙◌, ap}
use Prim.Native.Nat.{ℕ, zero, suc, ◌+◌, ◌-◌, ◌≤◌, ◌<◌}
use native.Mathlib.Numerals.{add-one}
use native.Mathlib.Omega.{arith}
use mathlib.Core.List.{List, [], ◌∷◌}
use mathlib.Core.Bool.{Bool, true, false, cond}
use lib.ListN.{length}
use Rattle.std.specs.Prelude.{Option, Some, None}
use Rattle.words.specs.Bytes.{bytes, part_of}
use Rattle.words.proofs.BytesLaws.{bytes_length}
use Rattle.fdt.specs.declared.Token.{Token}
use Rattle.fdt.specs.declared.Token.TheVariants.{Bad, Nop, Begin, EndNode, Prop, Fin}
use Rattle.fdt.specs.Token.{tok_at}
use Rattle.fdt.specs.Tree.{Tok, begin, ended, prop, fin, bad, taken, lex_at}
use Rattle.fdt.specs.Opening.{block}
use Rattle.fdt.proofs.TokLaws.{Reach}
use Rattle.nodes.specs.declared.Kid.{Kid}
use Rattle.nodes.specs.declared.Kid.TheVariants.{Node, End, Stuck}
use Rattle.nodes.specs.Nav.{same_bytes, first_kid, drop_p, skip_t, lookup, KidIs, SkipsTo}
use Rattle.nodes.proofs.SameLaws.{part_upto}
use Rattle.nodes.proofs.TokenLaws.{read, reach}

-- ── Past the properties ──

-- the place at is not before p, and past the properties the same tokens follow from both
pub record Drops (b n : List ℕ) (p at : ℕ) : Type 0 where
  pub from : p ≤ at
  pub same : drop_p (lex_at b n p) ≡ drop_p (lex_at b n at)

-- what is to show of a token at the place at: to go on after it, or to answer
abbrev pub DropStep : List ℕ → List ℕ → ℕ → ℕ → Token → Type 0
DropStep b n p at Bad = KidIs b n p Stuck
DropStep b n p at (Nop q) = Drops b n p q
DropStep b n p at (Begin l q) = KidIs b n p (Node at l q)
DropStep b n p at (EndNode q) = KidIs b n p (End q)
DropStep b n p at (Prop l a z q) = Drops b n p q
DropStep b n p at Fin = KidIs b n p Stuck

module _ (b n : List ℕ) (p at : ℕ) (d : Drops b n p at) where
  drop_of : (t : Token) → Reach at (length b) (length n) t → lex_at b n at ≡ taken b n at t (lex_at b n) → DropStep b n p at t
  unfolding drop_p
  drop_of Bad m e = (false, d.same ∙ ap drop_p e)
  drop_of (Nop q) m e = record { from = omega arith; same = d.same ∙ ap drop_p e }
  drop_of (Begin l q) m e = record { is = d.same ∙ ap drop_p e; from = d.from; within = m.3; onward = m.1 }
  drop_of (EndNode q) m e = record { is = d.same ∙ ap drop_p e; onward = omega arith }
  drop_of (Prop l a z q) m e = record { from = omega arith; same = d.same ∙ ap drop_p e }
  drop_of Fin m e = (true, d.same ∙ ap drop_p e)

  pub drop_step : {r t : Token} → r ≡ tok_at b n at → r ≡ t → DropStep b n p at t
  drop_step {r} {t} is e = drop_of t (reach b n at is e) (read b n at is e)

-- ── Past a node's end ──

-- at the place at, which is not before p, d levels are open, and what follows their end is what follows the end of the node of p. There
-- are at most at + 1 of them
pub record Skips (b n : List ℕ) (p at d : ℕ) : Type 0 where
  pub deep : d ≤ at + 1
  pub from : p ≤ at
  pub same : skip_t (lex_at b n p) 1 ≡ skip_t (lex_at b n at) d

-- what is to show of a token at the place at
abbrev pub SkipStep : List ℕ → List ℕ → ℕ → ℕ → ℕ → Token → Type 0
SkipStep b n p at d Bad = SkipsTo b n p at
SkipStep b n p at d (Nop q) = Skips b n p q d
SkipStep b n p at d (Begin l q) = (d + 1 ≤ length b) × Skips b n p q (d + 1)
SkipStep b n p at d (EndNode q) = (d ≤ 1 → SkipsTo b n p q) × (1 < d → Skips b n p q (d - 1))
SkipStep b n p at d (Prop l a z q) = Skips b n p q d
SkipStep b n p at d Fin = SkipsTo b n p at

skip_end : (ts : List Tok) (d : ℕ) → d ≤ 1 → skip_t (ended ∷ ts) d ≡ ts
skip_end ts zero h = refl
skip_end ts (suc zero) h = refl
skip_end ts (suc (suc d)) h = let x : ⊥ = omega arith in absurd x

skip_deep : (ts : List Tok) (d : ℕ) → 1 < d → skip_t (ended ∷ ts) d ≡ skip_t ts (d - 1)
skip_deep ts zero h = let x : ⊥ = omega arith in absurd x
skip_deep ts (suc zero) h = let x : ⊥ = omega arith in absurd x
skip_deep ts (suc (suc d)) h = let q : suc d ≡ suc (suc d) - 1 = omega arith in ap (skip_t ts) q

module _ (b n : List ℕ) (p at d : ℕ) (s : Skips b n p at d) where
  skips : {ts : List Tok} → lex_at b n at ≡ ts → skip_t (lex_at b n p) 1 ≡ skip_t ts d
  skips e = s.same ∙ ap (λ (x : List Tok). skip_t x d) e

  skip_of : (t : Token) → Reach at (length b) (length n) t → lex_at b n at ≡ taken b n at t (lex_at b n) → SkipStep b n p at d t
  skip_of Bad m e = record { is = e ∙ sym (skips e); onward = s.from }
  skip_of (Nop q) m e = record { deep = omega arith; from = omega arith; same = skips e }
  skip_of (Begin l q) m e =
      (omega arith, record { deep = omega arith; from = omega arith; same = skips e ∙ ap (skip_t (lex_at b n q)) (sym (add-one d)) })
  skip_of (EndNode q) m e = (
    λ h. record { is = sym (skips e ∙ skip_end (lex_at b n q) d h); onward = omega arith },
    λ h. record { deep = omega arith; from = omega arith; same = skips e ∙ skip_deep (lex_at b n q) d h },
  )
  skip_of (Prop l a z q) m e = record { deep = omega arith; from = omega arith; same = skips e }
  skip_of Fin m e = record { is = e ∙ sym (skips e); onward = s.from }

  pub skip_step : {r t : Token} → r ≡ tok_at b n at → r ≡ t → SkipStep b n p at d t
  skip_step {r} {t} is e = skip_of t (reach b n at is e) (read b n at is e)

-- ── The first child ──
first_drop : (ts : List Tok) → first_kid (drop_p ts) ≡ first_kid ts
unfolding drop_p
first_drop [] = refl
first_drop (begin q nm ∷ ts) = refl
first_drop (ended ∷ ts) = refl
first_drop (prop q ∷ ts) = first_drop ts
first_drop (fin ∷ ts) = refl
first_drop (bad ∷ ts) = refl

first_stuck : (e : Bool) → None ≡ first_kid (cond e fin bad ∷ [])
first_stuck true = refl
first_stuck false = refl

-- what stands past the properties, as an answer
abbrev pub headed : Kid → Option ℕ
headed (Node q l r) = Some q
headed (End r) = None
headed Stuck = None

pub kid_first : (b n : List ℕ) (p : ℕ) (k : Kid) → KidIs b n p k → headed k ≡ first_kid (lex_at b n p)
kid_first b n p (Node q l r) i = sym (ap first_kid i.is) ∙ first_drop (lex_at b n p)
kid_first b n p (End r) i = sym (ap first_kid i.is) ∙ first_drop (lex_at b n p)
kid_first b n p Stuck i = first_stuck i.0 ∙ sym (ap first_kid i.1) ∙ first_drop (lex_at b n p)

-- ── A property by its name ──

-- what is to show of a token at the place at, but for a property's
abbrev pub LookStep : List ℕ → List ℕ → List ℕ → ℕ → Token → Type 0
LookStep b n name at Bad = lookup name (lex_at b n at) ≡ None
LookStep b n name at (Nop q) = lookup name (lex_at b n at) ≡ lookup name (lex_at b n q)
LookStep b n name at (Begin l q) = lookup name (lex_at b n at) ≡ None
LookStep b n name at (EndNode q) = lookup name (lex_at b n at) ≡ None
LookStep b n name at (Prop l a z q) = Unit {0}
LookStep b n name at Fin = lookup name (lex_at b n at) ≡ None

module _ (b n name : List ℕ) (at : ℕ) where
  look_of : (t : Token) → lex_at b n at ≡ taken b n at t (lex_at b n) → LookStep b n name at t
  unfolding lookup
  look_of Bad e = ap (lookup name) e
  look_of (Nop q) e = ap (lookup name) e
  look_of (Begin l q) e = ap (lookup name) e
  look_of (EndNode q) e = ap (lookup name) e
  look_of (Prop l a z q) e = tt
  look_of Fin e = ap (lookup name) e

  pub look_step : {r t : Token} → r ≡ tok_at b n at → r ≡ t → LookStep b n name at t
  look_step {r} {t} is e = look_of t (read b n at is e)

-- x is the part of the strings block that the property token at p names
module _ (b n name : List ℕ) (p l a z q : ℕ) (r : Token) (is : r ≡ tok_at b n p) (e : r ≡ Prop l a z q) (x : List ℕ) (ex : x ≡ part_of n a (z - a)) where
  named : x ≡ bytes n a z
  named = let m = reach b n p is e in part_upto n a z x ex (omega arith) (omega arith)

  pub look_hit : same_bytes x name ≡ true → lookup name (lex_at b n p) ≡ Some (block (p + 12) l)
  unfolding lookup
  look_hit h =
      let m = reach b n p is e in
      let w : length (bytes b (p + 12) (p + 12 + l)) ≡ l = bytes_length b (p + 12) (p + 12 + l) (omega arith) ∙ omega arith in
      ap (lookup name) (read b n p is e) ∙ rw (← named, h, w)

  pub look_miss : same_bytes x name ≡ false → lookup name (lex_at b n p) ≡ lookup name (lex_at b n q)
  unfolding lookup
  look_miss h = ap (lookup name) (read b n p is e) ∙ rw (← named, h)
