-- The tokens from a place on are the token there and the tokens from the place after it: how many were asked for is not seen.
-- Assumes nothing.
use mathlib.Core.Path.{◌≡◌, refl, ◌∙◌, ap}
use Prim.Native.Nat.{ℕ, zero, suc, ◌+◌, ◌≤◌}
use native.Mathlib.Omega.{arith}
use mathlib.Core.List.{List}
use lib.ListN.{length}
use Rattle.fdt.specs.Token.{tok_at}
use Rattle.fdt.specs.Tree.{Tok, taken, lex, lex_at}
use Rattle.fdt.specs.declared.Token.{Token}
use Rattle.fdt.specs.declared.Token.TheVariants.{Bad, Nop, Begin, EndNode, Prop, Fin}
use Rattle.fdt.proofs.TokLaws.{Ahead, ahead}

-- two readers that agree past a token take the same from it
taken_same : (b n : List ℕ) (p e : ℕ) (t : Token) (j k : ℕ → List Tok) → Ahead p e t → ((q : ℕ) → p + 4 ≤ e → p + 4 ≤ q → j q ≡ k q) → taken b n p t j ≡ taken b n p t k
taken_same b n p e Bad j k a h = refl
taken_same b n p e (Nop q) j k a h = h q a.0 a.1
taken_same b n p e (Begin l q) j k a h = rw (h q a.0 a.1)
taken_same b n p e (EndNode q) j k a h = rw (h q a.0 a.1)
taken_same b n p e (Prop l x z q) j k a h = rw (h q a.0 a.1)
taken_same b n p e Fin j k a h = refl

-- any two numbers of tokens that are more than the block has left give the same
lex_same : (b n : List ℕ) (f g p : ℕ) → length b ≤ p + f → length b ≤ p + g → lex (suc f) b n p ≡ lex (suc g) b n p
unfolding lex
lex_same b n zero zero p hf hg = refl
lex_same b n zero (suc g) p hf hg =
    taken_same b n p (length b) (tok_at b n p) _ _ (ahead b n p) (λ q x y. let w : ⊥ = omega arith in absurd w)
lex_same b n (suc f) zero p hf hg =
    taken_same b n p (length b) (tok_at b n p) _ _ (ahead b n p) (λ q x y. let w : ⊥ = omega arith in absurd w)
lex_same b n (suc f) (suc g) p hf hg =
    taken_same b n p (length b) (tok_at b n p) _ _ (ahead b n p) (λ q x y. lex_same b n f g q (omega arith) (omega arith))

module _ (b n : List ℕ) (p : ℕ) where
  -- THE LAW
  pub lex_at_lem : lex_at b n p ≡ taken b n p (tok_at b n p) (lex_at b n)
  unfolding lex_at lex
  lex_at_lem =
      taken_same b n p (length b) (tok_at b n p) (λ q. lex (length b) b n q) (λ q. lex (suc (length b)) b n q) (ahead b n p) (λ q x y. short q x y (length b) refl)
    where
      short : (q : ℕ) → p + 4 ≤ length b → p + 4 ≤ q → (e : ℕ) → length b ≡ e → lex e b n q ≡ lex (suc (length b)) b n q
      short q x y zero h = let w : ⊥ = omega arith in absurd w
      short q x y (suc e) h = lex_same b n e (length b) q (omega arith) (omega arith)

  -- of the token t that stands at p
  pub lex_of : (t : Token) → tok_at b n p ≡ t → lex_at b n p ≡ taken b n p t (lex_at b n)
  lex_of t h = lex_at_lem ∙ ap (λ (x : Token). taken b n p x (lex_at b n)) h
