-- "Of equal property names in a node the first counts", as a statement about a node's properties.
use Rattle.std.specs.Prelude.{◌≡◌, ℕ, ◌+◌, cond, List, [], ◌∷◌, length, Option, Some, None}
use Rattle.words.specs.Bytes.{part_of}
use Rattle.fdt.specs.Tree.{Property}
use Rattle.cells.specs.declared.CellCount.{CellCount}
use Rattle.cells.specs.declared.CellCount.TheVariants.{Absent}
use Rattle.cells.specs.Count.{stated_by}
use Rattle.fdt.specs.declared.Block.{Block}
use Rattle.nodes.specs.Nav.{same_bytes}

-- x is the first of these properties that has this name
pub data FirstOf (name : List ℕ) : Property → List Property → Type 0 where
  here : {x : Property} {ps : List Property} → x.name ≡ name → FirstOf name x (x ∷ ps)
  further : {x y : Property} {ps : List Property} → (y.name ≡ name → ⊥) → FirstOf name x ps → FirstOf name x (y ∷ ps)

-- none of these properties has this name
pub data NoneOf (name : List ℕ) : List Property → Type 0 where
  no_property : NoneOf name []
  other : {x : Property} {ps : List Property} → (x.name ≡ name → ⊥) → NoneOf name ps → NoneOf name (x ∷ ps)

-- each of these properties has its value in the block, past the token, the length and the name's place
pub data InPlace (b : List ℕ) : List Property → Type 0 where
  no_more : InPlace b []
  in_place : {x : Property} {ps : List Property} → part_of b (x.at + 12) (length x.value) ≡ x.value → InPlace b ps → InPlace b (x ∷ ps)

-- the value at this place, of this length, is that of the first property of this name
pub record ValueOf (b : List ℕ) (name : List ℕ) (ps : List Property) (at len : ℕ) : Type 0 where
  pub property : Property
  pub is : FirstOf name property ps
  pub starts : at ≡ property.at + 12
  pub long : len ≡ length property.value
  pub value : part_of b at len ≡ property.value

-- the value of the first property of this name, where there is one
unfoldable pub value_of : List ℕ → List Property → Option (List ℕ)
value_of name [] = None
value_of name (x ∷ ps) = cond (same_bytes x.name name) (Some x.value) (value_of name ps)

-- the bytes that a lookup points to
abbrev pub held : List ℕ → Option Block → Option (List ℕ)
held b (Some v) = Some (part_of b v.at v.len)
held b None = None

-- a value's bytes, or none where there is no value
abbrev pub or_none : Option (List ℕ) → List ℕ
or_none None = []
or_none (Some v) = v

-- a node's count of cells, from the value of the property that states it
abbrev pub count_of : Option (List ℕ) → CellCount
count_of None = Absent
count_of (Some v) = stated_by v
