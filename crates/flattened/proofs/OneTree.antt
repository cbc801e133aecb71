-- The parts of a tree are those of that tree alone; and the reader's walk accepts them under all limits that the tree is within. Assumes
-- nothing.
use mathlib.Core.Path.{◌≡◌, sym, ◌∙◌, ap, subst}
use Prim.Native.Nat.{ℕ, suc, ◌+◌, ◌≤◌}
use mathlib.Core.Bool.{false}
use mathlib.Core.List.{List, [], ◌∷◌}
use Rattle.std.specs.Prelude.{Ok}
use Rattle.fdt.specs.Tree.{Nodes, none, Tok, fin, flat_k, Level, levels}
use Rattle.grammar.proofs.TreeLaws.{run_l, tree_accepted, levels_tree}
use Rattle.flattened.specs.Parts.{Part, begins, part_size, parts_toks}
use Rattle.flattened.specs.Forest.{NamedValue, Forest, bare, tree, tree_parts, nodes_of, levels_of, bare_k, props_size, placed_p, placed_k}
use Rattle.flattened.proofs.ForestLaws.{forest_toks, bare_forest, count_forest, height_forest}

-- ── One tree ──
first_kids : List Level → Nodes
first_kids [] = none
first_kids (l ∷ ls) = l.lkids

flat_one : (t u : Nodes) → flat_k t (fin ∷ []) ≡ flat_k u (fin ∷ []) → t ≡ u
unfolding first_kids
flat_one t u e = ap first_kids (sym (levels_tree t) ∙ ap levels e ∙ levels_tree u)

kids_of_lem : Forest → Forest
kids_of_lem bare = bare
kids_of_lem (tree name ps kids rest) = kids

props_of_lem : Forest → List NamedValue
props_of_lem bare = []
props_of_lem (tree name ps kids rest) = ps

module _ (ps ps' : List NamedValue) (kids kids' : Forest) (e : tree_parts ps kids ≡ tree_parts ps' kids') where
  whole_one : tree [] ps kids bare ≡ tree [] ps' kids' bare
  unfolding parts_toks
  whole_one =
      let f = tree [] ps kids bare in
      let g = tree [] ps' kids' bare in
      sym (bare_forest f 0)
      ∙ ap bare_k (flat_one (placed_k 0 f) (placed_k 0 g) (sym (forest_toks f 0 []) ∙ ap (λ (xs : List Part). parts_toks 0 xs) e ∙ forest_toks g 0 []))
      ∙ bare_forest g 0

  pub one_kids : kids ≡ kids'
  unfolding kids_of_lem
  one_kids = ap kids_of_lem whole_one

  pub one_props : ps ≡ ps'
  unfolding props_of_lem
  one_props = ap props_of_lem whole_one

-- ── The walk accepts the parts of a tree ──
pub tree_accepts : (lv nd : ℕ) (ps : List NamedValue) (kids : Forest) → suc (levels_of kids) ≤ lv → suc (nodes_of kids) ≤ nd
    → run_l lv nd (parts_toks 0 (tree_parts ps kids)) 0 0 false ≡ Ok tt
unfolding placed_k parts_toks
tree_accepts lv nd ps kids h c =
    let k = placed_k (0 + part_size (begins []) + props_size ps) kids in
    ap (λ (ts : List Tok). run_l lv nd ts 0 0 false) (forest_toks (tree [] ps kids bare) 0 [])
    ∙ tree_accepted lv nd 0 (placed_p (0 + part_size (begins [])) ps) k
    (subst (λ (m : ℕ). suc m ≤ lv) (sym (height_forest kids (0 + part_size (begins []) + props_size ps))) h)
    (subst (λ (m : ℕ). suc m ≤ nd) (sym (count_forest kids (0 + part_size (begins []) + props_size ps))) c)
