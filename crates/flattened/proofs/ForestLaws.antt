-- The parts of a tree are read as that tree, each node at its place. Assumes nothing.
use mathlib.Core.Path.{◌≡◌, refl, ◌∙◌, ap}
use Prim.Native.Nat.{ℕ, ◌+◌}
use native.Mathlib.Omega.{arith}
use mathlib.Core.List.{List, [], ◌∷◌}
use Rattle.fdt.specs.Tree.{count, height, Tok, begin, ended, prop, flat_p, flat_k}
use Rattle.flattened.specs.Parts.{Part, begins, property, ends, part_size, part_tok, parts_toks}
use Rattle.flattened.specs.Forest.{NamedValue, Forest, bare, tree, prop_parts, forest_parts, nodes_of, levels_of, bare_p, bare_k, props_size, forest_size, placed_p, placed_k}

toks_from : (p q : ℕ) (xs : List Part) → p ≡ q → parts_toks p xs ≡ parts_toks q xs
toks_from p q xs e = ap (λ (x : ℕ). parts_toks x xs) e

props_toks : (ps : List NamedValue) (p : ℕ) (xs : List Part) → parts_toks p (prop_parts ps xs) ≡ flat_p (placed_p p ps) (parts_toks (p + props_size ps) xs)
unfolding parts_toks part_tok placed_p props_size
props_toks [] p xs = toks_from p (p + 0) xs (omega arith)
props_toks (q ∷ qs) p xs =
    ap (λ (ts : List Tok). prop (record { at = p; name = q.name; value = q.value }) ∷ ts)
    (props_toks qs (p + part_size (property q.name q.value)) xs
    ∙ ap (flat_p (placed_p (p + part_size (property q.name q.value)) qs))
    (toks_from (p + part_size (property q.name q.value) + props_size qs) (p + (part_size (property q.name q.value) + props_size qs)) xs (omega arith)))

ends_size : part_size ends ≡ 4
unfolding part_size
ends_size = refl

pub forest_toks : (t : Forest) (p : ℕ) (xs : List Part) → parts_toks p (forest_parts t xs) ≡ flat_k (placed_k p t) (parts_toks (p + forest_size t) xs)
unfolding parts_toks part_tok placed_k forest_size
forest_toks bare p xs = toks_from p (p + 0) xs (omega arith)
forest_toks (tree name ps kids rest) p xs =
    let q = p + part_size (begins name) in
    let k = q + props_size ps in
    let e = k + forest_size kids in
    let es = ends_size in
    let i0 = props_toks ps q (forest_parts kids (ends ∷ forest_parts rest xs)) in
    let i1 = forest_toks kids k (ends ∷ forest_parts rest xs) in
    let i2 = forest_toks rest (e + 4) xs in
    let j : parts_toks (e + part_size ends) (forest_parts rest xs) ≡ parts_toks (e + 4) (forest_parts rest xs) = toks_from (e + part_size ends) (e + 4) (forest_parts rest xs) (omega arith) in
    let l : parts_toks (e + 4 + forest_size rest) xs ≡ parts_toks (p + (part_size (begins name) + props_size ps + forest_size kids + 4 + forest_size rest)) xs =
    toks_from (e + 4 + forest_size rest) (p + (part_size (begins name) + props_size ps + forest_size kids + 4 + forest_size rest)) xs (omega arith) in
    ap (λ (ts : List Tok). begin p name ∷ ts)
    (i0 ∙ ap (flat_p (placed_p q ps)) (i1 ∙ ap (λ (ts : List Tok). flat_k (placed_k k kids) (ended ∷ ts)) (j ∙ i2 ∙ ap (flat_k (placed_k (e + 4) rest)) l)))

-- the places change neither the nodes nor how many they are nor how deep
pub bare_props : (ps : List NamedValue) (p : ℕ) → bare_p (placed_p p ps) ≡ ps
unfolding bare_p placed_p
bare_props [] p = refl
bare_props (q ∷ qs) p = ap (λ (l : List NamedValue). q ∷ l) (bare_props qs (p + part_size (property q.name q.value)))

pub bare_forest : (t : Forest) (p : ℕ) → bare_k (placed_k p t) ≡ t
unfolding bare_k placed_k
bare_forest bare p = refl
bare_forest (tree name ps kids rest) p = rw (bare_props ps, bare_forest kids, bare_forest rest)

pub count_forest : (t : Forest) (p : ℕ) → count (placed_k p t) ≡ nodes_of t
unfolding placed_k
count_forest bare p = refl
count_forest (tree name ps kids rest) p = rw (count_forest kids, count_forest rest)

pub height_forest : (t : Forest) (p : ℕ) → height (placed_k p t) ≡ levels_of t
unfolding placed_k
height_forest bare p = refl
height_forest (tree name ps kids rest) p = rw (height_forest kids, height_forest rest)
