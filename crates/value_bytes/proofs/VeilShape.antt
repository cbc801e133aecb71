-- The veil keeps a tree's shape: what a step, a name, a path or a trail leads to in the veiled tree is the veil of what it leads to in the
-- tree; which names a node has properties of is the same, and properties none of which is free stay as they are. From the laws of
-- ReadVeil on one row of nodes. Assumes nothing.
use Rattle.std.specs.Prelude.{Some}
use mathlib.Core.Path.{◌≡◌, refl, sym, ◌∙◌, ap, subst}
use Prim.Native.Nat.{ℕ}
use mathlib.Core.Bool.{Bool, true, false, cond}
use mathlib.Core.List.{List, [], ◌∷◌}
use lib.Dec.{eqb}
use Rattle.fdt.specs.Tree.{Property, Nodes, none, node}
use Rattle.grammar.specs.Veil.{Free, veil, veil_p, veil_k}
use Rattle.nodes.specs.Nav.{same_bytes}
use Rattle.nodes.specs.OnTree.{kids_of}
use Rattle.reading.specs.Values.{value_of}
use Rattle.reading.proofs.ReadVeil.{veil_cond, find_veil}
use Rattle.subtree.specs.Names.{aliases_name}
use Rattle.subtree.specs.Subtree.{props_of, under_root, go_to, path_to}
use Rattle.translation.specs.Translation.{or_else, trail, parent_of}
use Rattle.stdout.specs.Stdout.{is_there}
use Rattle.value_bytes.specs.Unread.{AllKept, no_property, kept, Unread}

-- the properties of each node on a trail, veiled
unfoldable pub veil_trail : Free → List (List Property) → List (List Property)
veil_trail free [] = []
veil_trail free (ps ∷ above) = veil_p free ps ∷ veil_trail free above

module _ (free : Free) where
  -- ── From a node on ──
  pub props_veil : (t : Nodes) → props_of (veil_k free t) ≡ veil_p free (props_of t)
  unfolding veil_k veil_p
  props_veil none = refl
  props_veil (node q nm ps kids rest) = refl

  pub kids_veil : (t : Nodes) → kids_of (veil_k free t) ≡ veil_k free (kids_of t)
  unfolding veil_k
  kids_veil none = refl
  kids_veil (node q nm ps kids rest) = refl

  pub under_veil : (name : List ℕ) (t : Nodes) → under_root name (veil_k free t) ≡ veil_k free (under_root name t)
  under_veil name t = rw (kids_veil t) (find_veil free name (kids_of t))

  pub under_props : (name : List ℕ) (t : Nodes) → props_of (under_root name (veil_k free t)) ≡ veil_p free (props_of (under_root name t))
  under_props name t = rw (under_veil name t) (props_veil (under_root name t))

  go_veil : (steps : List (List ℕ)) (t : Nodes) → go_to (veil_k free t) steps ≡ veil_k free (go_to t steps)
  unfolding go_to veil_k
  go_veil [] t = refl
  go_veil ([] ∷ steps) t = refl
  go_veil ((x ∷ step) ∷ steps) t = rw (under_veil (x ∷ step) t) (go_veil steps (under_root (x ∷ step) t))

  pub path_veil : (t : Nodes) (p : List ℕ) → path_to (veil_k free t) p ≡ veil_k free (path_to t p)
  unfolding path_to veil_k
  path_veil t p = simp (go_veil, veil_cond free)

  -- ── The trail to a place ──
  else_veil : (x y : List (List Property)) → or_else (veil_trail free x) (veil_trail free y) ≡ veil_trail free (or_else x y)
  unfolding veil_trail
  else_veil [] y = refl
  else_veil (ps ∷ x) y = refl

  pub trail_veil : (q : ℕ) (t : Nodes) (above : List (List Property))
      → trail q (veil_k free t) (veil_trail free above) ≡ veil_trail free (trail q t above)
  unfolding trail veil_k veil_trail
  trail_veil q none above = refl
  trail_veil q (node p nm ps kids rest) above =
      rw (trail_veil q kids (ps ∷ above), trail_veil q rest above, else_veil (trail q kids (ps ∷ above)) (trail q rest above)) (go (eqb p q))
    where
      go : (b : Bool)
          → cond b (veil_p free ps ∷ veil_trail free above) (veil_trail free (or_else (trail q kids (ps ∷ above)) (trail q rest above)))
          ≡ veil_trail free (cond b (ps ∷ above) (or_else (trail q kids (ps ∷ above)) (trail q rest above)))
      go true = refl
      go false = refl

  pub parent_veil : (above : List (List Property)) → parent_of (veil_trail free above) ≡ veil_p free (parent_of above)
  unfolding veil_trail veil_p
  parent_veil [] = refl
  parent_veil (ps ∷ above) = refl

  -- ── Properties ──
  -- a property of a name is there, whatever its value
  pub there_veil : (name : List ℕ) (ps : List Property) → is_there (value_of name (veil_p free ps)) ≡ is_there (value_of name ps)
  unfolding value_of veil_p veil
  there_veil name [] = refl
  there_veil name (x ∷ ps) = go (same_bytes x.name name) _ (there_veil name ps)
    where
      go : (b : Bool) (v : List ℕ) → is_there (value_of name (veil_p free ps)) ≡ is_there (value_of name ps)
          → is_there (cond b (Some v) (value_of name (veil_p free ps))) ≡ is_there (cond b (Some x.value) (value_of name ps))
      go true v e = refl
      go false v e = e

  -- where none is free, nothing is blanked
  pub kept_veil : {ps : List Property} → AllKept free ps → veil_p free ps ≡ ps
  unfolding veil_p veil
  kept_veil no_property = refl
  kept_veil (kept e k) = rw (e, kept_veil k)

  -- that none is free is seen through the veil
  kept_behind : (ps : List Property) → AllKept free (veil_p free ps) → AllKept free ps
  unfolding veil_p veil
  kept_behind [] k = no_property
  kept_behind (x ∷ ps) (kept e k) = kept e (kept_behind ps k)

  -- so what is unread of a tree is unread of each that is equal to it once veiled
  pub unread_alike : (t u : Nodes) → veil_k free t ≡ veil_k free u → Unread free t → Unread free u
  unread_alike t u e k =
      record {
        address_cell_count = k.address_cell_count;
        size_cell_count = k.size_cell_count;
        ranges = k.ranges;
        reg = k.reg;
        status = k.status;
        size = k.size;
        alloc_ranges = k.alloc_ranges;
        model = k.model;
        stdout_path = k.stdout_path;
        aliases = kept_behind _ (subst (AllKept free) same k.aliases);
      }
    where
      same : props_of (under_root aliases_name t) ≡ veil_p free (props_of (under_root aliases_name u))
      same =
          sym (kept_veil k.aliases) ∙ sym (under_props aliases_name t) ∙ ap (λ (x : Nodes). props_of (under_root aliases_name x)) e
          ∙ under_props aliases_name u
