-- Which token of a structure block is the first at fault, and which number it gives: document 01, "Numbers a caller gets back": 5, "tree
-- structure broken"; 6, "tree over a size, level or node limit"; "the first faulty token decides, 5 before 6 at one token". Stated by the
-- trees that the tokens up to a place can still become, and with nothing of the walk.
use Rattle.std.specs.Prelude.{◌≡◌, ◌⊎◌, ℕ, suc, ◌+◌, ◌<◌, List, [], ◌∷◌, ◌++◌}
use Rattle.words.specs.Bytes.{bytes}
use Rattle.fdt.specs.Token.{tok_at}
use Rattle.fdt.specs.Tree.{Property, Nodes, none, node, Tok, begin, ended, prop, fin, bad, flat_k, taken}
use Rattle.fdt.specs.Grammar.{Within}
use Rattle.fdt.specs.declared.Token.{Token}
use Rattle.fdt.specs.declared.Token.TheVariants.{Bad, Nop, Begin, EndNode, Prop, Fin}

-- some tree is written in tokens of which these are the first: the root, whose name is empty, and FDT_END after it
pub record Begins (ts : List Tok) : Type 0 where
  pub root : ℕ
  pub ps : List Property
  pub kids : Nodes
  pub rest : List Tok
  pub form : flat_k (node root [] ps kids none) (fin ∷ []) ≡ ts ++ rest

-- how many nodes begin among these tokens, and how many end
abbrev pub begun : List Tok → ℕ
begun [] = 0
begun (begin p nm ∷ ts) = suc (begun ts)
begun (ended ∷ ts) = begun ts
begun (prop q ∷ ts) = begun ts
begun (fin ∷ ts) = begun ts
begun (bad ∷ ts) = begun ts

abbrev pub closed : List Tok → ℕ
closed [] = 0
closed (begin p nm ∷ ts) = closed ts
closed (ended ∷ ts) = suc (closed ts)
closed (prop q ∷ ts) = closed ts
closed (fin ∷ ts) = closed ts
closed (bad ∷ ts) = closed ts

-- the last of these tokens ends a node
abbrev pub ChildLast : List Tok → Type 0
ChildLast ts = (us : List Tok) × (ts ≡ us ++ (ended ∷ []))

-- what is wrong with a token after these
abbrev pub Wrong : Token → List Tok → Type 0
-- "tokens 1, 2, 3, 4, 9"; "names ended and values whole inside their block"; 9 "last in the block": none can be read
Wrong Bad ts = Unit {0}
Wrong (Nop q) ts = ⊥
-- "one root with the empty name": outside every node, another root or one with a name
Wrong (Begin l q) ts = (begun ts ≡ closed ts) × ((0 < begun ts) ⊎ (0 < l))
-- no node is open
Wrong (EndNode q) ts = begun ts ≡ closed ts
-- "properties before children": outside every node, or after a child
Wrong (Prop l a z q) ts = (begun ts ≡ closed ts) ⊎ ChildLast ts
-- "9 after the root": a node is open, or none has begun
Wrong Fin ts = (closed ts < begun ts) ⊎ (begun ts ≡ 0)

module _ (b n : List ℕ) where
  -- and one within the limits is
  pub record BeginsWithin (ts : List Tok) : Type 0 where
    pub begins : Begins ts
    pub within : Within b n begins.kids

  -- the tokens from the block's start up to a place. FDT_NOP is ignored
  pub data Upto : ℕ → List Tok → Type 0 where
    start : Upto 0 []
    past_nop : {p q : ℕ} {ts : List Tok} → Upto p ts → tok_at b n p ≡ Nop q → Upto q ts
    past_begin : {p l q : ℕ} {ts : List Tok} → Upto p ts → tok_at b n p ≡ Begin l q → Upto q (ts ++ (begin p (bytes b (p + 4) (p + 4 + l)) ∷ []))
    past_end : {p q : ℕ} {ts : List Tok} → Upto p ts → tok_at b n p ≡ EndNode q → Upto q (ts ++ (ended ∷ []))
    past_prop : {p l a z q : ℕ} {ts : List Tok} → Upto p ts → tok_at b n p ≡ Prop l a z q
        → Upto q (ts ++ (prop (record { at = p; name = bytes n a z; value = bytes b (p + 12) (p + 12 + l) }) ∷ []))

  -- the token that stands at a place: none for FDT_NOP, and `bad` where none can be read, which no tree is written in
  abbrev pub here : ℕ → List Tok
  here p = taken b n p (tok_at b n p) (λ q. [])

  -- 0: at some place stands FDT_END, and with it the tokens are the first of a tree within the limits, and so all of them
  pub record Whole : Type 0 where
    pub at : ℕ
    pub before : List Tok
    pub upto : Upto at before
    pub end : tok_at b n at ≡ Fin
    pub sound : BeginsWithin (before ++ here at)

  -- 5: up to some place the tokens are the first of a tree within the limits; with the token there they are the first of no tree
  pub record Faulty : Type 0 where
    pub at : ℕ
    pub before : List Tok
    pub upto : Upto at before
    pub sound : BeginsWithin before
    pub fault : Begins (before ++ here at) → ⊥

  -- the same with its faults named
  pub record Named : Type 0 where
    pub at : ℕ
    pub before : List Tok
    pub upto : Upto at before
    pub sound : BeginsWithin before
    pub wrong : Wrong (tok_at b n at) before

  -- 6: up to some place the tokens are the first of a tree within the limits; with the token there they are the first of a tree, and of none
  -- within the limits
  pub record Exceeds : Type 0 where
    pub at : ℕ
    pub before : List Tok
    pub upto : Upto at before
    pub sound : BeginsWithin before
    pub fits : Begins (before ++ here at)
    pub over : BeginsWithin (before ++ here at) → ⊥

  -- the same counted: inside the root a node begins where 32 nodes are open, so that it is on level 33, or where 4,096 have begun
  pub record Counted : Type 0 where
    pub at : ℕ
    pub before : List Tok
    pub upto : Upto at before
    pub sound : BeginsWithin before
    pub len : ℕ
    pub next : ℕ
    pub begins : tok_at b n at ≡ Begin len next
    pub inside : closed before < begun before
    pub limit : (begun before ≡ closed before + 32) ⊎ (begun before ≡ 4096)
