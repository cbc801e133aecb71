-- Entering a row of children: what is left to claim from there is what the rule says of the whole tree, and then what comes after. Where the
-- rule finds no parent, no child claims. From the laws of crates/subtree on the node at a place. Assumes nothing.
use mathlib.Core.Path.{◌≡◌, refl, sym, ◌∙◌}
use Prim.Native.Nat.{ℕ}
use native.Mathlib.Omega.{arith}
use mathlib.Core.Bool.{Bool, true, false, cond}
use mathlib.Core.List.{List, [], ◌∷◌, ◌++◌}
use lib.ListN.{length}
use Rattle.std.specs.Prelude.{Option, Some, None}
use Rattle.words.specs.Bytes.{part_of}
use Rattle.words.proofs.BytesLaws.{part_length}
use Rattle.entry.specs.declared.Claim.{Claim}
use Rattle.cells.specs.declared.CellCount.{CellCount}
use Rattle.cells.specs.declared.CellCount.TheVariants.{Stated, Absent, Faulty}
use Rattle.cells.specs.declared.Range.{Range}
use Rattle.cells.specs.Rows.{Table, rows, reg_of, ranges_of}
use Rattle.cells.proofs.RowsLaws.{reg_none, ranges_none}
use Rattle.fdt.specs.declared.Block.{Block}
use Rattle.fdt.specs.Tree.{Property}
use Rattle.nodes.specs.Nav.{inside, first_at, prop_at, child_at}
use Rattle.nodes.specs.Path.{path_at}
use Rattle.nodes.specs.Cells.{address_cells, size_cells, count_at}
use Rattle.nodes.specs.OnTree.{kids_of, find_k}
use Rattle.reading.specs.Values.{value_of, count_of, held}
use Rattle.reading.specs.Reads.{value_in}
use Rattle.subtree.specs.Names.{ranges_name, soc_name, reserved_memory_name}
use Rattle.subtree.specs.Subtree.{node_at, at, root_at, props_of, path_to, Stands}
use Rattle.subtree.proofs.SubtreeLaws.{kids_at, value_at, count_at_lem, child_at_lem, path_at_lem, first_stands}
use Rattle.translation.specs.Translation.{address_of, size_of}
use Rattle.reserved.specs.Reserved.{children_count, stated_alike}
use Rattle.claims.specs.declared.Way.{Way}
use Rattle.claims.specs.declared.Way.TheVariants.{Reserve, Soc, Controllers}
use Rattle.visit.specs.declared.Stage.TheVariants.{Children}
use Rattle.visit.specs.declared.Cursor.{Cursor}
use Rattle.visit.specs.Steps.{no_part, cursor_at, start_at, part_by, slash, where_here, parent_at, root_cells, ranges_by, enter_at}
use Rattle.visit.specs.Script.{rows_script, kids_script, soc_script, way_script, after_on, script}

-- ── Empty parts ──
module _ (b : List ℕ) (a p c : CellCount) where
  -- no `ranges` are read where none are kept
  pub no_ranges : ranges_of a p c (part_of b 0 0) ≡ rows []
  no_ranges = ranges_none a p c (part_of b 0 0) (part_length b 0 0 (omega arith))

  -- a missing value is kept as an empty part, and has no rows
  pub value_part : (v : Option Block) → reg_of a c (part_of b (part_by v).at (part_by v).len) ≡ reg_of a c (value_in b v)
  value_part (Some v) = refl
  value_part None = reg_none a c (part_of b 0 0) (part_length b 0 0 (omega arith)) ∙ sym (reg_none a c [] refl)

-- ── Where nothing claims ──
unlike : (x : CellCount) → stated_alike x Absent ≡ false
unlike (Stated k) = refl
unlike Absent = refl
unlike Faulty = refl

-- a node that is not there states no count
count_none : (ps : List Property) → children_count ps [] ≡ false
unfolding children_count value_of
count_none ps = rw (unlike (count_of (value_of address_cells ps)))

module _ (b n : List ℕ) where
  -- `/` leads to the root
  root_at_lem : at b n (path_at b n slash) ≡ root_at b n
  unfolding path_to
  root_at_lem = path_at_lem b n slash

  -- the counts of the node at a place
  own_cells : (q : ℕ) → count_at b n q address_cells ≡ address_of (props_of (node_at b n q))
  unfolding address_of
  own_cells q = count_at_lem b n q address_cells

  own_length : (q : ℕ) → count_at b n q size_cells ≡ size_of (props_of (node_at b n q))
  unfolding size_of
  own_length q = count_at_lem b n q size_cells

  -- the children of the node at q, as the cursor before the first of them keeps what they are read by
  abbrev kept_of : Way → ℕ → List (Option Claim)
  kept_of way q =
      kids_script way
      (ranges_of (count_at b n q address_cells) (root_cells b n) (count_at b n q size_cells)
      (part_of b (ranges_by way (prop_at b n q ranges_name)).at (ranges_by way (prop_at b n q ranges_name)).len))
      (count_at b n q address_cells) (count_at b n q size_cells) (at b n (first_at b n q))

  -- and as the tree says it, whatever the ranges are
  kept_is :
      (way : Way) (q : ℕ) (t : Table Range)
      → ranges_of (address_of (props_of (node_at b n q))) (root_cells b n) (size_of (props_of (node_at b n q)))
      (part_of b (ranges_by way (prop_at b n q ranges_name)).at (ranges_by way (prop_at b n q ranges_name)).len)
      ≡ t
      → kept_of way q ≡ kids_script way t (address_of (props_of (node_at b n q))) (size_of (props_of (node_at b n q))) (kids_of (node_at b n q))
  kept_is way q t e = rw (own_cells q, own_length q, ← kids_at b n q, e)

  -- /reserved-memory's children
  module _ (r : ℕ) where
    reserved_found :
        (g : Option ℕ)
        → inside [] (kept_of Reserve) (inside None (λ q. cond (children_count (props_of (node_at b n r)) (props_of (node_at b n q))) (Some q) None) g)
        ≡ cond (children_count (props_of (node_at b n r)) (props_of (at b n g)))
        (kids_script Reserve (rows []) (address_of (props_of (at b n g))) (size_of (props_of (at b n g))) (kids_of (at b n g)))
        []
    reserved_found None = rw count_none
    reserved_found (Some q) = pick (children_count (props_of (node_at b n r)) (props_of (node_at b n q)))
      where
        pick : (t : Bool)
            → inside [] (kept_of Reserve) (cond t (Some q) None)
            ≡ cond t (kids_script Reserve (rows []) (address_of (props_of (node_at b n q))) (size_of (props_of (node_at b n q))) (kids_of (node_at b n q))) []
        pick true = kept_is Reserve q (rows []) (no_ranges b _ _ _)
        pick false = refl

    -- /soc's, whose ranges are by the root's address cells
    soc_found :
        count_at b n r address_cells ≡ root_cells b n
        → (g : Option ℕ)
        → inside [] (kept_of Soc) (inside None (λ q. where_here (prop_at b n q ranges_name) q) g)
        ≡ soc_script (node_at b n r) (at b n g) (value_of ranges_name (props_of (at b n g)))
    unfolding value_of
    soc_found e None = refl
    soc_found e (Some q) = rw (← value_at b n q ranges_name) (pick (prop_at b n q ranges_name) refl)
      where
        pick : (v : Option Block) → prop_at b n q ranges_name ≡ v
            → inside [] (kept_of Soc) (where_here v q) ≡ soc_script (node_at b n r) (node_at b n q) (held b v)
        pick (Some v) u = kept_is Soc q _ (rw (u, ← e, own_cells r))
        pick None u = refl

  -- the children of the parent that is found are the rule's children in the tree
  way_is : (way : Way) → inside [] (kept_of way) (parent_at b n way) ≡ way_script (root_at b n) way
  unfolding parent_at way_script root_cells find_k value_of kids_script
  way_is Reserve = rw (← root_at_lem) (go (path_at b n slash))
    where
      go : (f : Option ℕ)
          → inside [] (kept_of Reserve)
          (inside None
          (λ r. inside None (λ q. cond (children_count (props_of (node_at b n r)) (props_of (node_at b n q))) (Some q) None) (child_at b n r reserved_memory_name))
          f)
          ≡ way_script (at b n f) Reserve
      go None = rw count_none
      go (Some r) = rw (← child_at_lem b n r reserved_memory_name) (reserved_found r (child_at b n r reserved_memory_name))
  way_is Soc = rw (← root_at_lem) (go (path_at b n slash) refl)
    where
      go : (f : Option ℕ) → path_at b n slash ≡ f
          → inside [] (kept_of Soc) (inside None (λ r. inside None (λ q. where_here (prop_at b n q ranges_name) q) (child_at b n r soc_name)) f)
          ≡ way_script (at b n f) Soc
      go None e = refl
      go (Some r) e = rw (← child_at_lem b n r soc_name) (soc_found r (rw e) (child_at b n r soc_name))
  way_is Controllers = rw (← root_at_lem) (go (path_at b n slash))
    where
      go : (f : Option ℕ) → inside [] (kept_of Controllers) f ≡ way_script (at b n f) Controllers
      go None = refl
      go (Some r) = kept_is Controllers r (rows []) (no_ranges b _ _ _)

  -- the cursor before the first child of this parent
  abbrev before : Way → Option ℕ → Cursor
  before way =
      inside (start_at (Children way))
      (λ q.
      cursor_at (Children way) 0 no_part (first_at b n q) (count_at b n q address_cells) (root_cells b n) (count_at b n q size_cells) (ranges_by way (prop_at b n q ranges_name)))

  module _ (block : List ℕ) (arm : Bool) where
    -- before the first child no value is in hand
    before_first : (way : Way) (next : Option ℕ) (own parent length : CellCount) (ranges : Block)
        → script b n block arm (cursor_at (Children way) 0 no_part next own parent length ranges)
        ≡ kids_script way (ranges_of own parent length (part_of b ranges.at ranges.len)) own length (at b n next) ++ (None ∷ after_on arm (root_at b n) way)
    unfolding script rows_script
    before_first way next own parent length ranges = rw (reg_none own length (part_of b 0 0) (part_length b 0 0 (omega arith)))

    -- THE THEOREM: what is left on entering
    pub enter_is : (way : Way) → script b n block arm (enter_at b n way) ≡ way_script (root_at b n) way ++ (None ∷ after_on arm (root_at b n) way)
    unfolding enter_at kids_script
    enter_is way = rw (← way_is way) (go (parent_at b n way))
      where
        go : (f : Option ℕ) → script b n block arm (before way f) ≡ inside [] (kept_of way) f ++ (None ∷ after_on arm (root_at b n) way)
        go (Some q) = before_first way _ _ _ _ _
        go None = before_first way _ _ _ _ _

  -- what comes next is a node
  pub enter_stands : (way : Way) → Stands b n (enter_at b n way).next
  unfolding enter_at
  enter_stands way = go (parent_at b n way)
    where
      go : (f : Option ℕ) → Stands b n (before way f).next
      go (Some q) = first_stands b n q
      go None = refl
