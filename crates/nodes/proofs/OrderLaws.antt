-- Counting the nodes that begin before a place, a token at a time. Assumes nothing.
use mathlib.Core.Path.{◌≡◌, sym, ◌∙◌, ap}
use Prim.Native.Nat.{ℕ, ◌+◌, ◌≤◌}
use native.Mathlib.Omega.{arith}
use mathlib.Core.List.{List}
use lib.ListN.{length}
use borrow.Author.Tests.{eq-eqb, ne_eqb}
use Rattle.fdt.specs.declared.Token.{Token}
use Rattle.fdt.specs.declared.Token.TheVariants.{Bad, Nop, Begin, EndNode, Prop, Fin}
use Rattle.fdt.specs.Token.{tok_at}
use Rattle.fdt.specs.Tree.{Tok, taken, lex_at}
use Rattle.fdt.proofs.TokLaws.{Reach}
use Rattle.nodes.specs.Order.{begun_before, place_at}
use Rattle.nodes.proofs.TokenLaws.{read, reach}

-- counting on from the place at, where k nodes have begun, answers as counting from the block's start. There are at most at of them
pub record Counts (b n : List ℕ) (t at k : ℕ) : Type 0 where
  pub few : k ≤ at
  pub same : begun_before (lex_at b n 0) t 0 ≡ begun_before (lex_at b n at) t k

-- what is to show of a token at the place at
abbrev pub CountStep : List ℕ → List ℕ → ℕ → ℕ → ℕ → Token → Type 0
CountStep b n t at k Bad = 0 ≡ place_at b n t
CountStep b n t at k (Nop q) = Counts b n t q k
CountStep b n t at k (Begin l q) = (k + 1 ≤ length b) × (at ≡ t → k ≡ place_at b n t) × ((at ≡ t → ⊥) → Counts b n t q (k + 1))
CountStep b n t at k (EndNode q) = Counts b n t q k
CountStep b n t at k (Prop l a z q) = Counts b n t q k
CountStep b n t at k Fin = 0 ≡ place_at b n t

module _ (b n : List ℕ) (t at k : ℕ) (c : Counts b n t at k) where
  counts : {ts : List Tok} → lex_at b n at ≡ ts → begun_before (lex_at b n 0) t 0 ≡ begun_before ts t k
  counts e = c.same ∙ ap (λ (x : List Tok). begun_before x t k) e

  count_of : (x : Token) → Reach at (length b) (length n) x → lex_at b n at ≡ taken b n at x (lex_at b n) → CountStep b n t at k x
  unfolding begun_before place_at
  count_of Bad m e = sym (counts e)
  count_of (Nop q) m e = record { few = omega arith; same = counts e }
  count_of (Begin l q) m e =
      (omega arith, λ h. sym (counts e ∙ rw (eq-eqb _ _ h)), λ h. record { few = omega arith; same = counts e ∙ rw (ne_eqb _ _ h) })
  count_of (EndNode q) m e = record { few = omega arith; same = counts e }
  count_of (Prop l a z q) m e = record { few = omega arith; same = counts e }
  count_of Fin m e = sym (counts e)

  pub count_step : {r x : Token} → r ≡ tok_at b n at → r ≡ x → CountStep b n t at k x
  count_step {r} {x} is e = count_of x (reach b n at is e) (read b n at is e)
