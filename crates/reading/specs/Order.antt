-- What document order is, on the places of the nodes.
use Rattle.std.specs.Prelude.{◌≡◌, ℕ, suc, ◌≤◌, cond, List, [], ◌∷◌, ltb}
use Rattle.fdt.specs.Tree.{Property, Nodes}

-- these places ascend strictly, from some place on
pub data Ascending : ℕ → List ℕ → Type 0 where
  last : {p : ℕ} → Ascending p []
  then : {p q : ℕ} {l : List ℕ} → p ≤ q → Ascending (suc q) l → Ascending p (q ∷ l)

-- a place is one of these
pub data OneOf (q : ℕ) : List ℕ → Type 0 where
  this : {l : List ℕ} → OneOf q (q ∷ l)
  later : {p : ℕ} {l : List ℕ} → OneOf q l → OneOf q (p ∷ l)

-- how many of these places are before t
unfoldable pub count_before : ℕ → List ℕ → ℕ
count_before t [] = 0
count_before t (q ∷ l) = cond (ltb q t) (suc (count_before t l)) (count_before t l)

-- two nodes have the same name, properties, children and siblings after them
pub record SameNode (nm om : List ℕ) (ps os : List Property) (ks ls rs us : Nodes) : Type 0 where
  pub name : nm ≡ om
  pub properties : ps ≡ os
  pub kids : ks ≡ ls
  pub rest : rs ≡ us
