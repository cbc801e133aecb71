-- The tree as data, and the structure block as the sequence of tokens that the tree is written in: Specification, section 5.4.
use Rattle.std.specs.Prelude.{ℕ, zero, suc, ◌+◌, max, List, [], ◌∷◌, length}
use Rattle.words.specs.Bytes.{bytes}
use Rattle.fdt.specs.Token.{tok_at}
use Rattle.fdt.specs.declared.Token.{Token}
use Rattle.fdt.specs.declared.Token.TheVariants.{Bad, Nop, Begin, EndNode, Prop, Fin}

-- a property: its name and its value. Its place, where its token stands, is its own only in this block
pub record Property : Type 0 where
  pub at : ℕ
  pub name : List ℕ
  pub value : List ℕ

-- nodes in a row: each with its place, its name, its properties and its children, and then the siblings after it
pub data Nodes : Type 0 where
  none : Nodes
  node : (at : ℕ) (name : List ℕ) (props : List Property) (kids : Nodes) (rest : Nodes) → Nodes

-- how many nodes these are, with all below them, and how many levels
abbrev pub count : Nodes → ℕ
count none = 0
count (node at name props kids rest) = suc (count kids + count rest)

abbrev pub height : Nodes → ℕ
height none = 0
height (node at name props kids rest) = max (suc (height kids)) (height rest)

-- ── The same as tokens ──

-- a token with what it carries. FDT_NOP is ignored, so it is no Tok
pub data Tok : Type 0 where
  begin : (at : ℕ) (name : List ℕ) → Tok
  ended : Tok
  prop : Property → Tok
  fin : Tok
  bad : Tok

-- properties, and then r
abbrev pub flat_p : List Property → List Tok → List Tok
flat_p [] r = r
flat_p (p ∷ ps) r = prop p ∷ flat_p ps r

-- nodes, and then r: FDT_BEGIN_NODE with the name, the properties, the children, FDT_END_NODE
abbrev pub flat_k : Nodes → List Tok → List Tok
flat_k none r = r
flat_k (node at name ps kids rest) r = begin at name ∷ flat_p ps (flat_k kids (ended ∷ flat_k rest r))

-- a token read at p, with what it carries, and then what k reads at the place after it
abbrev pub taken : List ℕ → List ℕ → ℕ → Token → (ℕ → List Tok) → List Tok
taken b n p Bad k = bad ∷ []
taken b n p (Nop q) k = k q
taken b n p (Begin l q) k = begin p (bytes b (p + 4) (p + 4 + l)) ∷ k q
taken b n p (EndNode q) k = ended ∷ k q
taken b n p (Prop l a z q) k = prop (record { at = p; name = bytes n a z; value = bytes b (p + 12) (p + 12 + l) }) ∷ k q
taken b n p Fin k = fin ∷ []

-- at most f tokens from p on
unfoldable pub lex : ℕ → List ℕ → List ℕ → ℕ → List Tok
lex zero b n p = bad ∷ []
lex (suc f) b n p = taken b n p (tok_at b n p) (λ q. lex f b n q)

-- the tokens from p on, up to FDT_END or to what is no token
unfoldable pub lex_at : List ℕ → List ℕ → ℕ → List Tok
lex_at b n p = lex (suc (length b)) b n p

-- ── The tree read back from its tokens, from the last to the first ──

-- what is left of a node at some place: properties, children
pub record Level : Type 0 where
  pub lprops : List Property
  pub lkids : Nodes

abbrev pub level : List Property → Nodes → Level
level ps ks = record { lprops = ps; lkids = ks }

abbrev pub opened : ℕ → List ℕ → List Level → List Level
opened p nm [] = []
opened p nm (l ∷ []) = []
opened p nm (l ∷ m ∷ ls) = level m.lprops (node p nm l.lprops l.lkids m.lkids) ∷ ls

abbrev pub added : Property → List Level → List Level
added p [] = []
added p (l ∷ ls) = level (p ∷ l.lprops) l.lkids ∷ ls

-- the levels that are open where these tokens begin, the innermost first
unfoldable pub levels : List Tok → List Level
levels [] = []
levels (begin p nm ∷ ts) = opened p nm (levels ts)
levels (ended ∷ ts) = level [] none ∷ levels ts
levels (prop p ∷ ts) = added p (levels ts)
levels (fin ∷ ts) = level [] none ∷ []
levels (bad ∷ ts) = []

-- the nodes of the innermost level
abbrev pub top : List Level → Nodes
top [] = none
top (l ∷ ls) = l.lkids

-- the tree of a structure block and a strings block. Of blocks that hold one: tree-is, in the crate grammar, says which it is
unfoldable pub tree_of : List ℕ → List ℕ → Nodes
tree_of b n = top (levels (lex_at b n 0))
