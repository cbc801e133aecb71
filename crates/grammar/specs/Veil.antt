-- Bytes that differ only inside the values of some properties and in padding, and trees that are the same but for those values.
use Rattle.std.specs.Prelude.{◌≡◌, ◌⊎◌, ℕ, ◌+◌, ◌-◌, ◌≤◌, ◌<◌, List, [], ◌∷◌, Bool, true, cond, length, get_or}
use Rattle.words.specs.Bytes.{align4}
use Rattle.fdt.specs.Header.{GoodHeader, off_dt_struct, off_dt_strings, size_dt_struct, size_dt_strings, structure_of, strings_of}
use Rattle.fdt.specs.Tree.{Property, Nodes, none, node, Tok, begin, ended, prop, fin, bad, lex_at}

-- which properties are free to change: by the place of the property's token in the structure block, and by its name
abbrev pub Free : Type 0
Free = ℕ → List ℕ → Bool

-- as many zeros as there are bytes
unfoldable pub blank : List ℕ → List ℕ
blank [] = []
blank (x ∷ l) = 0 ∷ blank l

-- a free property has its value blanked, any other stays
unfoldable pub veil : Free → Property → Property
veil free p = record { at = p.at; name = p.name; value = cond (free p.at p.name) (blank p.value) p.value }

unfoldable pub veil_p : Free → List Property → List Property
veil_p free [] = []
veil_p free (p ∷ ps) = veil free p ∷ veil_p free ps

-- the tree with the values of its free properties blanked
unfoldable pub veil_k : Free → Nodes → Nodes
veil_k free none = none
veil_k free (node at name ps kids rest) = node at name (veil_p free ps) (veil_k free kids) (veil_k free rest)

-- the same on tokens
unfoldable pub veil_t : Free → List Tok → List Tok
veil_t free [] = []
veil_t free (begin p nm ∷ ts) = begin p nm ∷ veil_t free ts
veil_t free (ended ∷ ts) = ended ∷ veil_t free ts
veil_t free (prop q ∷ ts) = prop (veil free q) ∷ veil_t free ts
veil_t free (fin ∷ ts) = fin ∷ veil_t free ts
veil_t free (bad ∷ ts) = bad ∷ veil_t free ts

-- the byte at i of the structure block is in the value of a free property among these tokens. A value stands 12 bytes past its token
unfoldable pub Inside : Free → List Tok → ℕ → Type 0
Inside free [] i = ⊥
Inside free (begin p nm ∷ ts) i = Inside free ts i
Inside free (ended ∷ ts) i = Inside free ts i
Inside free (prop q ∷ ts) i = ((free q.at q.name ≡ true) × (q.at + 12 ≤ i) × (i < q.at + 12 + length q.value)) ⊎ Inside free ts i
Inside free (fin ∷ ts) i = Inside free ts i
Inside free (bad ∷ ts) i = Inside free ts i

-- the byte at i of the structure block is padding among these tokens: past the zero byte of a node's name or past a property's value, and
-- before the next multiple of 4
unfoldable pub Padding : List Tok → ℕ → Type 0
Padding [] i = ⊥
Padding (begin p nm ∷ ts) i = ((p + 4 + length nm + 1 ≤ i) × (i < align4 (p + 4 + length nm + 1))) ⊎ Padding ts i
Padding (ended ∷ ts) i = Padding ts i
Padding (prop q ∷ ts) i = ((q.at + 12 + length q.value ≤ i) × (i < align4 (q.at + 12 + length q.value))) ⊎ Padding ts i
Padding (fin ∷ ts) i = Padding ts i
Padding (bad ∷ ts) i = Padding ts i

-- with names in the strings block n, the structure block c is as long as b, and differs from it only in values of free properties of b and
-- in padding of b
pub record BlockDiffers (free : Free) (n b c : List ℕ) : Type 0 where
  pub long : length b ≡ length c
  pub bytes : (i : ℕ) → i < length b → (Inside free (lex_at b n 0) i → ⊥) → (Padding (lex_at b n 0) i → ⊥) → get_or b i 0 ≡ get_or c i 0

-- the byte at i of a whole tree is in the value of a free property; bytes with no good header have no property
pub record InValue (free : Free) (s : List ℕ) (i : ℕ) : Type 0 where
  pub header : GoodHeader s
  pub from : off_dt_struct s ≤ i
  pub inside : Inside free (lex_at (structure_of s) (strings_of s) 0) (i - off_dt_struct s)

-- the byte at i of a whole tree is padding in its structure block; bytes with no good header have none
pub record InPadding (s : List ℕ) (i : ℕ) : Type 0 where
  pub header : GoodHeader s
  pub from : off_dt_struct s ≤ i
  pub upto : i < off_dt_struct s + size_dt_struct s
  pub inside : Padding (lex_at (structure_of s) (strings_of s) 0) (i - off_dt_struct s)

-- t is as long as s, and differs from it only in values of free properties of s and in padding of s
pub record Differs (free : Free) (s t : List ℕ) : Type 0 where
  pub long : length s ≡ length t
  pub bytes : (i : ℕ) → i < length s → (InValue free s i → ⊥) → (InPadding s i → ⊥) → get_or s i 0 ≡ get_or t i 0

-- t is as long as s, and differs from it only in padding of s
pub record PaddingDiffers (s t : List ℕ) : Type 0 where
  pub long : length s ≡ length t
  pub bytes : (i : ℕ) → i < length s → (InPadding s i → ⊥) → get_or s i 0 ≡ get_or t i 0

-- the strings block does not overlap the structure block
abbrev pub Apart : List ℕ → Type 0
Apart s =
    (i : ℕ) → off_dt_struct s ≤ i → i < off_dt_struct s + size_dt_struct s → off_dt_strings s ≤ i → i < off_dt_strings s + size_dt_strings s → ⊥
