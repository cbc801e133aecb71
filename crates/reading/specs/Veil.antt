-- Blocks that read the same but for the values of some properties.
use Rattle.std.specs.Prelude.{◌≡◌, ℕ, ◌+◌, false, List, Some}
use Rattle.words.specs.Bytes.{part_of}
use Rattle.fdt.specs.Opening.{block}
use Rattle.grammar.specs.Veil.{Free}
use Rattle.nodes.specs.Nav.{name_at, first_at, next_at, prop_at, child_at}

-- no property of this name is free, wherever it stands
abbrev pub Keeps : Free → List ℕ → Type 0
Keeps free name = (at : ℕ) → free at name ≡ false

-- the blocks b and n, and c and m, read the same at q: its name, first child, next sibling, child by a step, the place and the length of
-- a property's value, and the value of a property that is not free
pub record SameAt (free : Free) (b n c m : List ℕ) (q : ℕ) : Type 0 where
  pub named : name_at b n q ≡ name_at c m q
  pub first : first_at b n q ≡ first_at c m q
  pub next : next_at b n q ≡ next_at c m q
  pub property : (name : List ℕ) → prop_at b n q name ≡ prop_at c m q name
  pub value : (name : List ℕ) (at len : ℕ) → prop_at b n q name ≡ Some (block (at + 12) len) → free at name ≡ false
      → part_of b (at + 12) len ≡ part_of c (at + 12) len
  pub child : (step : List ℕ) → child_at b n q step ≡ child_at c m q step
