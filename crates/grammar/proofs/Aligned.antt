-- Every token stands at a multiple of 4: document 01, "tokens 1, 2, 3, 4, 9 at multiples of 4". A token of a place leads on to a multiple
-- of 4, so all that the tokens of a structure block reach from its start is one; and so it is in the whole tree, whose header puts the block
-- itself at a multiple of 4. Assumes nothing.
use mathlib.Core.Path.{◌≡◌, subst}
use Prim.Native.Nat.{ℕ, ◌+◌, ◌%◌}
use native.Mathlib.Omega.{arith}
use mathlib.Core.List.{List}
use lib.ListN.{length}
use lib.Dec.{ltb, leb, eqb}
use Rattle.words.specs.Bytes.{word, string_end, align4}
use Rattle.words.proofs.BytesLaws.{cond_elim}
use Rattle.fdt.specs.Header.{GoodHeader, off_dt_struct, structure_of, strings_of}
use Rattle.fdt.specs.Token.{tok_at, numbered, begin_at, prop_at}
use Rattle.fdt.specs.Tree.{Tok}
use Rattle.fdt.specs.declared.Token.{Token}
use Rattle.fdt.specs.declared.Token.TheVariants.{Bad, Nop, Begin, EndNode, Prop, Fin}
use Rattle.grammar.specs.Faults.{Upto, start, past_nop, past_begin, past_end, past_prop}

-- the place after this token is a multiple of 4, where there is one
abbrev pub OnFour : Token → Type 0
OnFour Bad = Unit {0}
OnFour (Nop q) = q % 4 ≡ 0
OnFour (Begin l q) = q % 4 ≡ 0
OnFour (EndNode q) = q % 4 ≡ 0
OnFour (Prop l a z q) = q % 4 ≡ 0
OnFour Fin = Unit {0}

-- padding ends at a multiple of 4
padded : (x : ℕ) → align4 x % 4 ≡ 0
padded x = omega arith

module _ (b n : List ℕ) (p : ℕ) where
  begin_on : OnFour (begin_at b p)
  unfolding begin_at
  begin_on = cond_elim OnFour (ltb (string_end b (p + 4)) (length b)) _ _ (λ t. padded (string_end b (p + 4) + 1)) (λ t. tt)

  prop_on : OnFour (prop_at b n p)
  unfolding prop_at
  prop_on =
      cond_elim OnFour (leb (p + 12 + word b (p + 4)) (length b)) _ _
      (λ t. cond_elim OnFour (ltb (string_end n (word b (p + 8))) (length n)) _ _ (λ u. padded (p + 12 + word b (p + 4))) (λ u. tt))
      (λ t. tt)

  module _ (h : p % 4 ≡ 0) where
    next : (p + 4) % 4 ≡ 0
    next = omega arith

    numbered_on : (w : ℕ) → OnFour (numbered b n p w)
    unfolding numbered
    numbered_on w =
        cond_elim OnFour (eqb w 1) _ _ (λ t. begin_on)
        (λ t. cond_elim OnFour (eqb w 2) _ _ (λ t. next)
        (λ t. cond_elim OnFour (eqb w 3) _ _ (λ t. prop_on)
        (λ t. cond_elim OnFour (eqb w 4) _ _ (λ t. next)
        (λ t. cond_elim OnFour (eqb w 9) _ _ (λ t. cond_elim OnFour (eqb (p + 4) (length b)) _ _ (λ t. tt) (λ t. tt)) (λ t. tt)))))

    -- THE LAW of one token: at a multiple of 4 it leads on to one
    pub token_on : (t : Token) → tok_at b n p ≡ t → OnFour t
    unfolding tok_at
    token_on t e = subst OnFour e (cond_elim OnFour (leb (p + 4) (length b)) _ _ (λ t. numbered_on (word b p)) (λ t. tt))

-- THE THEOREMS. Every place that the tokens of a structure block reach is a multiple of 4, and so the token there stands at one
pub place_on : (b n : List ℕ) {p : ℕ} {ts : List Tok} → Upto b n p ts → p % 4 ≡ 0
place_on b n start = omega arith
place_on b n (past_nop {p = p} u e) = token_on b n p (place_on b n u) _ e
place_on b n (past_begin {p = p} u e) = token_on b n p (place_on b n u) _ e
place_on b n (past_end {p = p} u e) = token_on b n p (place_on b n u) _ e
place_on b n (past_prop {p = p} u e) = token_on b n p (place_on b n u) _ e

-- and it is one in the whole tree
pub byte_on : (s : List ℕ) → GoodHeader s → {p : ℕ} {ts : List Tok} → Upto (structure_of s) (strings_of s) p ts → (off_dt_struct s + p) % 4 ≡ 0
byte_on s g u = let h = place_on (structure_of s) (strings_of s) u in omega (arith, g.aligned)
