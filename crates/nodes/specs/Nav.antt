-- Finding one's way in a structure block b with names in a strings block n, on the tokens from a place on. specs/OnTree.antt says the
-- same on the tree, and the crate reading proves that on an accepted tree, at a node's place, the two agree.
use Rattle.std.specs.Prelude.{◌≡◌, ℕ, zero, suc, ◌+◌, ◌≤◌, ◌<◌, Bool, true, false, cond, ◌||◌, List, [], ◌∷◌, length, eqb, Option, Some, None}
use Rattle.words.specs.Bytes.{bytes, first_byte}
use Rattle.fdt.specs.declared.Token.{Token}
use Rattle.fdt.specs.declared.Token.TheVariants.{Bad, Nop, Begin, EndNode, Prop, Fin}
use Rattle.fdt.specs.Token.{tok_at}
use Rattle.fdt.specs.Tree.{Tok, begin, ended, prop, fin, bad, lex_at}
use Rattle.fdt.specs.declared.Block.{Block}
use Rattle.fdt.specs.Opening.{block}
use Rattle.nodes.specs.declared.Kid.{Kid}
use Rattle.nodes.specs.declared.Kid.TheVariants.{Node, End, Stuck}

-- ── Names ──
unfoldable pub same_bytes : List ℕ → List ℕ → Bool
same_bytes [] [] = true
same_bytes [] (y ∷ ys) = false
same_bytes (x ∷ xs) [] = false
same_bytes (x ∷ xs) (y ∷ ys) = cond (eqb x y) (same_bytes xs ys) false

-- a name's part before `@`: the whole name where it has none
abbrev pub unitless : List ℕ → List ℕ
unitless name = bytes name 0 (first_byte 64 name 0)

-- "whose whole name, or part before `@`, equals it"
unfoldable pub matches : List ℕ → List ℕ → Bool
matches name step = same_bytes name step || same_bytes (unitless name) step

-- ── The token at a place, as a node's ──
abbrev pub content_of : Token → Option ℕ
content_of Bad = None
content_of (Nop q) = None
content_of (Begin l q) = Some q
content_of (EndNode q) = None
content_of (Prop l a z q) = None
content_of Fin = None

-- the place after the name of the node at q
abbrev pub content_at : List ℕ → List ℕ → ℕ → Option ℕ
content_at b n q = content_of (tok_at b n q)

abbrev pub name_in : List ℕ → ℕ → Token → List ℕ
name_in b q Bad = []
name_in b q (Nop r) = []
name_in b q (Begin l r) = bytes b (q + 4) (q + 4 + l)
name_in b q (EndNode r) = []
name_in b q (Prop l a z r) = []
name_in b q Fin = []

abbrev pub name_at : List ℕ → List ℕ → ℕ → List ℕ
name_at b n q = name_in b q (tok_at b n q)

-- from the place after a node's name on, where a node begins at all
abbrev pub inside : {A : Type 0} → A → (ℕ → A) → Option ℕ → A
inside missing f (Some p) = f p
inside missing f None = missing

-- ── Children ──

-- the first node, past the properties
abbrev pub first_kid : List Tok → Option ℕ
first_kid [] = None
first_kid (begin p nm ∷ ts) = Some p
first_kid (ended ∷ ts) = None
first_kid (prop q ∷ ts) = first_kid ts
first_kid (fin ∷ ts) = None
first_kid (bad ∷ ts) = None

-- the tokens past the end of the node of which d levels are open
abbrev pub skip_t : List Tok → ℕ → List Tok
skip_t [] d = []
skip_t (begin p nm ∷ ts) d = skip_t ts (suc d)
skip_t (ended ∷ ts) zero = ts
skip_t (ended ∷ ts) (suc zero) = ts
skip_t (ended ∷ ts) (suc (suc d)) = skip_t ts (suc d)
skip_t (prop q ∷ ts) d = skip_t ts d
skip_t (fin ∷ ts) d = fin ∷ ts
skip_t (bad ∷ ts) d = bad ∷ ts

-- a node's first child: the tokens after its name
unfoldable pub first_at : List ℕ → List ℕ → ℕ → Option ℕ
first_at b n q = inside None (λ p. first_kid (lex_at b n p)) (content_at b n q)

-- its next sibling: the tokens past its end
unfoldable pub next_at : List ℕ → List ℕ → ℕ → Option ℕ
next_at b n q = inside None (λ p. first_kid (skip_t (lex_at b n p) 1)) (content_at b n q)

-- ── Properties: "Of equal property names in a node the first counts" ──
unfoldable pub lookup : List ℕ → List Tok → Option Block
lookup name [] = None
lookup name (begin p nm ∷ ts) = None
lookup name (ended ∷ ts) = None
lookup name (prop q ∷ ts) = cond (same_bytes q.name name) (Some (block (q.at + 12) (length q.value))) (lookup name ts)
lookup name (fin ∷ ts) = None
lookup name (bad ∷ ts) = None

unfoldable pub prop_at : List ℕ → List ℕ → ℕ → List ℕ → Option Block
prop_at b n q name = inside None (λ p. lookup name (lex_at b n p)) (content_at b n q)

-- ── A child by a step ──

-- the tokens from the first child of the step on, d levels up; none where there is no such child
unfoldable pub find_t : List ℕ → List Tok → ℕ → List Tok
find_t step [] d = []
find_t step (begin q nm ∷ ts) zero = cond (matches nm step) (begin q nm ∷ ts) (find_t step ts 1)
find_t step (begin q nm ∷ ts) (suc d) = find_t step ts (suc (suc d))
find_t step (ended ∷ ts) zero = []
find_t step (ended ∷ ts) (suc d) = find_t step ts d
find_t step (prop q ∷ ts) d = find_t step ts d
find_t step (fin ∷ ts) d = []
find_t step (bad ∷ ts) d = []

unfoldable pub child_at : List ℕ → List ℕ → ℕ → List ℕ → Option ℕ
child_at b n q step = inside None (λ p. first_kid (find_t step (lex_at b n p) 0)) (content_at b n q)

-- ── The contracts of the steps inside ──

-- past the properties
unfoldable pub drop_p : List Tok → List Tok
drop_p [] = []
drop_p (begin p nm ∷ ts) = begin p nm ∷ ts
drop_p (ended ∷ ts) = ended ∷ ts
drop_p (prop q ∷ ts) = drop_p ts
drop_p (fin ∷ ts) = fin ∷ ts
drop_p (bad ∷ ts) = bad ∷ ts

pub record NodeIs (b n : List ℕ) (p q l r : ℕ) : Type 0 where
  pub is : drop_p (lex_at b n p) ≡ begin q (bytes b (q + 4) (q + 4 + l)) ∷ lex_at b n r
  pub from : p ≤ q
  pub within : q + 4 + l < length b
  pub onward : q + 4 ≤ r

pub record EndIs (b n : List ℕ) (p r : ℕ) : Type 0 where
  pub is : drop_p (lex_at b n p) ≡ ended ∷ lex_at b n r
  pub onward : p + 4 ≤ r

abbrev pub KidIs : List ℕ → List ℕ → ℕ → Kid → Type 0
KidIs b n p (Node q l r) = NodeIs b n p q l r
KidIs b n p (End r) = EndIs b n p r
KidIs b n p Stuck = (e : Bool) × (drop_p (lex_at b n p) ≡ cond e fin bad ∷ [])

pub record SkipsTo (b n : List ℕ) (p r : ℕ) : Type 0 where
  pub is : lex_at b n r ≡ skip_t (lex_at b n p) 1
  pub onward : p ≤ r

abbrev pub ChildIs : List ℕ → List ℕ → ℕ → List ℕ → Option ℕ → Type 0
ChildIs b n p step (Some q) = (nm : List ℕ) × (r : ℕ) × (find_t step (lex_at b n p) 0 ≡ begin q nm ∷ lex_at b n r)
ChildIs b n p step None = find_t step (lex_at b n p) 0 ≡ []
