-- The token at a place of the structure block b, with names in the strings block n: Specification, section 5.4.1.
use Rattle.std.specs.Prelude.{ℕ, ◌+◌, ◌-◌, List, cond, length, ltb, leb, eqb}
use Rattle.words.specs.Bytes.{word, string_end, align4}
use Rattle.fdt.specs.declared.Token.{Token}
use Rattle.fdt.specs.declared.Token.TheVariants.{Bad, Nop, Begin, EndNode, Prop, Fin}

-- FDT_BEGIN_NODE: the node's name, a string that ends inside the block, and zero to three bytes of padding
unfoldable pub begin_at : List ℕ → ℕ → Token
begin_at b p =
    cond (ltb (string_end b (p + 4)) (length b))
    (Begin (string_end b (p + 4) - (p + 4)) (align4 (string_end b (p + 4) + 1)))
    Bad

-- FDT_PROP: the value's length, the name's place in the strings block, the value, and zero to three bytes of padding. The value is
-- whole inside the block, and the name ends inside the strings block
unfoldable pub prop_at : List ℕ → List ℕ → ℕ → Token
prop_at b n p =
    cond (leb (p + 12 + word b (p + 4)) (length b))
    (cond (ltb (string_end n (word b (p + 8))) (length n))
    (Prop (word b (p + 4)) (word b (p + 8)) (string_end n (word b (p + 8))) (align4 (p + 12 + word b (p + 4))))
    Bad)
    Bad

-- "tokens 1, 2, 3, 4, 9"; FDT_END is last in the block
unfoldable pub numbered : List ℕ → List ℕ → ℕ → ℕ → Token
numbered b n p w =
    cond (eqb w 1) (begin_at b p)
    (cond (eqb w 2) (EndNode (p + 4))
    (cond (eqb w 3) (prop_at b n p)
    (cond (eqb w 4) (Nop (p + 4))
    (cond (eqb w 9) (cond (eqb (p + 4) (length b)) Fin Bad) Bad))))

unfoldable pub tok_at : List ℕ → List ℕ → ℕ → Token
tok_at b n p = cond (leb (p + 4) (length b)) (numbered b n p (word b p)) Bad
