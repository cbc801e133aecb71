-- String values: document 01, "String values, `model` too, end at their first zero byte; without one nothing is found."
use Rattle.std.specs.Prelude.{ℕ, List, [], ◌∷◌, Bool, true, false, cond, ◌||◌, take, eqb, Option, Some, None}
use Rattle.words.specs.Bytes.{part_of}
use Rattle.cells.specs.Text.{text_of}
use Rattle.fdt.specs.declared.Block.{Block}
use Rattle.fdt.specs.Opening.{block}
use Rattle.nodes.specs.Nav.{prop_at}

-- ── On the tree ──
abbrev pub up_to : List ℕ → Option ℕ → Option (List ℕ)
up_to v (Some e) = Some (take e v)
up_to v None = None

-- the string in the value of a property that may be there
unfoldable pub string_in : Option (List ℕ) → Option (List ℕ)
string_in None = None
string_in (Some v) = up_to v (text_of v)

-- ── In the block ──
abbrev pub ends_by : ℕ → Option ℕ → Option Block
ends_by at (Some e) = Some (block at e)
ends_by at None = None

abbrev pub string_by : List ℕ → Option Block → Option Block
string_by b (Some v) = ends_by v.at (text_of (part_of b v.at v.len))
string_by b None = None

-- where the string of a node's property stands, and how long it is
unfoldable pub string_at : List ℕ → List ℕ → ℕ → List ℕ → Option Block
string_at b n q name = string_by b (prop_at b n q name)

-- ── One string in another ──
unfoldable pub starts_with : List ℕ → List ℕ → Bool
starts_with v [] = true
starts_with [] (y ∷ w) = false
starts_with (x ∷ v) (y ∷ w) = cond (eqb x y) (starts_with v w) false

-- w stands somewhere in v
unfoldable pub contains : List ℕ → List ℕ → Bool
contains [] w = starts_with [] w
contains (x ∷ v) w = starts_with (x ∷ v) w || contains v w
