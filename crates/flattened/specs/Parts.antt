-- The parts that a structure block is written in, one after the other, and the bytes of each: Specification, sections 5.4 and 5.5.
use Rattle.std.specs.Prelude.{◌≡◌, ℕ, ◌+◌, ◌<◌, List, [], ◌∷◌, ◌++◌, length, get_or}
use Rattle.words.specs.Bytes.{align4}
use Rattle.fdt.specs.Tree.{Tok, begin, ended, prop, fin}
use Rattle.pen.specs.Numbers.{bytes4, padding}

pub data Part : Type 0 where
  -- a node begins
  begins : (name : List ℕ) → Part
  property : (name value : List ℕ) → Part
  -- the innermost node ends
  ends : Part

-- the bytes of a part in the structure block, where its name, if it is a property, stands at a in the strings block
unfoldable pub part_bytes : ℕ → Part → List ℕ
part_bytes a (begins name) = bytes4 1 ++ (name ++ (0 ∷ padding (length name + 1)))
part_bytes a (property name value) = bytes4 3 ++ (bytes4 (length value) ++ (bytes4 a ++ (value ++ padding (length value))))
part_bytes a ends = bytes4 2

-- and in the strings block: "Each property stores its name anew in the strings block."
unfoldable pub name_bytes : Part → List ℕ
name_bytes (begins name) = []
name_bytes (property name value) = name ++ (0 ∷ [])
name_bytes ends = []

-- how many they are
unfoldable pub part_size : Part → ℕ
part_size (begins name) = 4 + align4 (length name + 1)
part_size (property name value) = 12 + align4 (length value)
part_size ends = 4

unfoldable pub name_size : Part → ℕ
name_size (begins name) = 0
name_size (property name value) = length name + 1
name_size ends = 0

-- the parts one after the other, the first property's name standing at a in the strings block; FDT_END is not among them
unfoldable pub parts_bytes : ℕ → List Part → List ℕ
parts_bytes a [] = []
parts_bytes a (x ∷ xs) = part_bytes a x ++ parts_bytes (a + name_size x) xs

unfoldable pub names_bytes : List Part → List ℕ
names_bytes [] = []
names_bytes (x ∷ xs) = name_bytes x ++ names_bytes xs

-- how many they are
unfoldable pub parts_size : List Part → ℕ
parts_size [] = 0
parts_size (x ∷ xs) = part_size x + parts_size xs

unfoldable pub names_size : List Part → ℕ
names_size [] = 0
names_size (x ∷ xs) = name_size x + names_size xs

-- what is read of a part at p
unfoldable pub part_tok : ℕ → Part → Tok
part_tok p (begins name) = begin p name
part_tok p (property name value) = prop (record { at = p; name = name; value = value })
part_tok p ends = ended

-- what is read of them all, and of FDT_END after them
unfoldable pub parts_toks : ℕ → List Part → List Tok
parts_toks p [] = fin ∷ []
parts_toks p (x ∷ xs) = part_tok p x ∷ parts_toks (p + part_size x) xs

-- "a zero byte in a name" is refused
abbrev pub NoZero : List ℕ → Type 0
NoZero name = (i : ℕ) → i < length name → get_or name i 0 ≡ 0 → ⊥

abbrev pub Clean : Part → Type 0
Clean (begins name) = NoZero name
Clean (property name value) = NoZero name
Clean ends = Unit {0}

abbrev pub AllClean : List Part → Type 0
AllClean [] = Unit {0}
AllClean (x ∷ xs) = Clean x × AllClean xs
