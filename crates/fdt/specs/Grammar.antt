-- The structure block as a grammar on its bytes: Specification, section 5.4.2. Each form reaches from a place up to a place.
use Rattle.std.specs.Prelude.{◌≡◌, ℕ, suc, ◌+◌, ◌≤◌, List, [], ◌∷◌}
use Rattle.words.specs.Bytes.{bytes}
use Rattle.fdt.specs.Token.{tok_at}
use Rattle.fdt.specs.Tree.{Property, Nodes, none, node, height, count}
use Rattle.fdt.specs.declared.Token.TheVariants.{Nop, Begin, EndNode, Prop, Fin}

module _ (b n : List ℕ) where
  -- "(optionally) any number of FDT_NOP tokens"
  pub data Nops : ℕ → ℕ → Type 0 where
    no_nop : {p : ℕ} → Nops p p
    a_nop : {p q r : ℕ} → tok_at b n p ≡ Nop q → Nops q r → Nops p r

  -- "For each property of the node: (optionally) any number of FDT_NOP tokens, FDT_PROP token"
  pub data Props : ℕ → List Property → ℕ → Type 0 where
    no_prop : {p : ℕ} → Props p [] p
    a_prop : {p x l a z q r : ℕ} {ps : List Property} → Nops p x → tok_at b n x ≡ Prop l a z q → Props q ps r
        → Props p (record { at = x; name = bytes n a z; value = bytes b (x + 12) (x + 12 + l) } ∷ ps) r

  -- FDT_BEGIN_NODE with "the node's name as a null-terminated string", the properties, "Representations of all child nodes in this
  -- form", FDT_END_NODE; and then the nodes after it
  pub data Kids : ℕ → Nodes → ℕ → Type 0 where
    no_kid : {p : ℕ} → Kids p none p
    a_kid : {p x l q m k y j r : ℕ} {ps : List Property} {ks rest : Nodes}
        → Nops p x → tok_at b n x ≡ Begin l q → Props q ps m → Kids m ks k → Nops k y → tok_at b n y ≡ EndNode j → Kids j rest r
        → Kids p (node x (bytes b (x + 4) (x + 4 + l)) ps ks rest) r

  -- the block: the root, whose name is empty, and FDT_END
  pub record Block (root : ℕ) (ps : List Property) (kids : Nodes) : Type 0 where
    pub upto : ℕ
    pub last : ℕ
    pub nodes : Kids 0 (node root [] ps kids none) upto
    pub nops : Nops upto last
    pub end : tok_at b n last ≡ Fin

  -- "32 levels (root is 1), 4,096 nodes"
  pub record Within (kids : Nodes) : Type 0 where
    pub levels : suc (height kids) ≤ 32
    pub nodes : suc (count kids) ≤ 4096
