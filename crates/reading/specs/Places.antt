-- What stands where the tokens from a place p on begin, past any FDT_NOP: its token, what it carries, and the tokens after it.
use Rattle.std.specs.Prelude.{◌≡◌, ℕ, ◌+◌, ◌≤◌, ◌<◌, List, length, None}
use Rattle.words.specs.Bytes.{bytes, part_of}
use Rattle.fdt.specs.declared.Token.TheVariants.{Begin, Prop}
use Rattle.fdt.specs.Token.{tok_at}
use Rattle.fdt.specs.Tree.{Property, Nodes, Tok, flat_k, lex_at}
use Rattle.nodes.specs.Nav.{first_kid}

-- the tokens ts are read at a place from p on
pub record Later (b n : List ℕ) (p : ℕ) (ts : List Tok) : Type 0 where
  pub to : ℕ
  pub onward : p ≤ to
  pub tokens : lex_at b n to ≡ ts

-- a node of this name begins at q, and then come the tokens ts
pub record NodeAt (b n : List ℕ) (p q : ℕ) (name : List ℕ) (ts : List Tok) : Type 0 where
  pub len : ℕ
  pub next : ℕ
  pub token : tok_at b n q ≡ Begin len next
  pub named : name ≡ bytes b (q + 4) (q + 4 + len)
  pub tokens : ts ≡ lex_at b n next
  pub from : p ≤ q
  pub onward : q < next

-- this property stands at its place, and then come the tokens ts
pub record PropertyAt (b n : List ℕ) (p : ℕ) (x : Property) (ts : List Tok) : Type 0 where
  pub len : ℕ
  pub start : ℕ
  pub end : ℕ
  pub next : ℕ
  pub token : tok_at b n x.at ≡ Prop len start end next
  pub named : x.name ≡ bytes n start end
  pub valued : x.value ≡ bytes b (x.at + 12) (x.at + 12 + len)
  pub long : length x.value ≡ len
  pub part : part_of b (x.at + 12) (length x.value) ≡ x.value
  pub tokens : ts ≡ lex_at b n next
  pub from : p ≤ x.at
  pub onward : x.at < next

-- a row of nodes is written from some place on, up to tokens that begin with no node
pub record Row (b n : List ℕ) (t : Nodes) : Type 0 where
  pub from : ℕ
  pub end : List Tok
  pub tokens : lex_at b n from ≡ flat_k t end
  pub closed : first_kid end ≡ None
