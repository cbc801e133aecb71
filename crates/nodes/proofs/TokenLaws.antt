-- A token that the code has read at a place, as `r` with what the match says of it: the tokens from there on, how far it reaches, and
-- that the place after it is nearer to the end; and that one at which no node begins has no name and nothing after it. Assumes nothing.
use mathlib.Core.Path.{◌≡◌, refl, sym, ◌∙◌}
use Prim.Native.Nat.{ℕ, ◌-◌, ◌<◌}
use native.Mathlib.Omega.{arith}
use mathlib.Core.List.{List, []}
use lib.ListN.{length}
use Rattle.std.specs.Prelude.{None}
use Rattle.fdt.specs.declared.Token.{Token}
use Rattle.fdt.specs.declared.Token.TheVariants.{Bad, Nop, Begin, EndNode, Prop, Fin}
use Rattle.fdt.specs.Token.{tok_at}
use Rattle.fdt.specs.Tree.{taken, lex_at}
use Rattle.fdt.proofs.TokLaws.{Reach, reach_of, Ahead, ahead_of}
use Rattle.fdt.proofs.LexLaws.{lex_of}
use Rattle.nodes.specs.Nav.{content_of, name_in}

-- what P says of the place after a token, where there is one
abbrev pub After : (ℕ → Type 0) → Token → Type 0
After P Bad = Unit {0}
After P (Nop q) = P q
After P (Begin l q) = P q
After P (EndNode q) = P q
After P (Prop l a z q) = P q
After P Fin = Unit {0}

fall : (p e : ℕ) (t : Token) → Ahead p e t → After (λ q. e - q < e - p) t
fall p e Bad a = tt
fall p e (Nop q) a = omega arith
fall p e (Begin l q) a = omega arith
fall p e (EndNode q) a = omega arith
fall p e (Prop l x z q) a = omega arith
fall p e Fin a = tt

module _ (b n : List ℕ) (p : ℕ) {r t : Token} (is : r ≡ tok_at b n p) (e : r ≡ t) where
  pub read : lex_at b n p ≡ taken b n p t (lex_at b n)
  read = lex_of b n p t (sym is ∙ e)

  pub reach : Reach p (length b) (length n) t
  reach = reach_of b n p t (sym is ∙ e)

  pub falls : After (λ q. length b - q < length b - p) t
  falls = fall p (length b) t (ahead_of b n p t (sym is ∙ e))

-- where no node begins
pub contentless : (t : Token) → ((l q : ℕ) → t ≡ Begin l q → ⊥) → None ≡ content_of t
contentless Bad k = refl
contentless (Nop q) k = refl
contentless (Begin l q) k = absurd (k l q refl)
contentless (EndNode q) k = refl
contentless (Prop l a z q) k = refl
contentless Fin k = refl

pub nameless : (b : List ℕ) (p : ℕ) (t : Token) → ((l q : ℕ) → t ≡ Begin l q → ⊥) → [] ≡ name_in b p t
nameless b p Bad k = refl
nameless b p (Nop q) k = refl
nameless b p (Begin l q) k = absurd (k l q refl)
nameless b p (EndNode q) k = refl
nameless b p (Prop l a z q) k = refl
nameless b p Fin k = refl
