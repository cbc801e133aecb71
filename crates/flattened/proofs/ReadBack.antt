-- THE THEOREM: the flattened form of a tree within the limits is opened, and read back as that tree with its reservations, whatever
-- bytes follow it. And the same from the parts alone: parts that the reader's walk accepts are those of one tree. Assumes nothing.
use mathlib.Core.Path.{◌≡◌, refl, sym, ◌∙◌, ap}
use Prim.Native.Nat.{ℕ, suc, ◌+◌, ◌≤◌, ◌<◌}
use native.Mathlib.Omega.{arith}
use mathlib.Core.Bool.{false}
use mathlib.Core.List.{List, [], ◌∷◌, ◌++◌}
use lib.ListN.{length}
use Rattle.std.specs.Prelude.{Some, Ok}
use Rattle.cells.specs.declared.Region.{Region}
use Rattle.fdt.specs.Header.{structure_of, strings_of}
use Rattle.fdt.specs.Tree.{Property, Nodes, none, node, count, height, Tok, begin, ended, prop, fin, bad, flat_p, flat_k, lex_at, tree_of}
use Rattle.fdt.specs.Opening.{opened_of, blocks_of}
use Rattle.reservations.specs.Reservations.{entries_of}
use Rattle.grammar.proofs.GrammarLaws.{block_of, tree_is}
use Rattle.grammar.proofs.OpeningLaws.{opened_exactly}
use Rattle.grammar.proofs.TreeLaws.{run_l, accepted_tree}
use Rattle.reading.specs.Reads.{WrittenFor}
use Rattle.pen.specs.Numbers.{bytes4}
use Rattle.flattened.specs.Parts.{Part, begins, property, ends, part_size, parts_bytes, names_bytes, parts_size, names_size, part_tok, parts_toks, AllClean}
use Rattle.flattened.specs.Blob.{structure_bytes, blob, blob_size}
use Rattle.flattened.specs.Forest.{NamedValue, Forest, bare, tree, prop_parts, forest_parts, tree_parts, nodes_of, levels_of, bare_p, bare_k, props_size, placed_p, placed_k}
use Rattle.flattened.specs.ReadBack.{Within, ReadBack}
use Rattle.flattened.proofs.PartLaws.{parts_lex, names_length}
use Rattle.flattened.proofs.HeaderLaws.{structure_length, good, total_is, structure_block, strings_block, reservation_block}
use Rattle.flattened.proofs.EntriesLaws.{entries_are}
use Rattle.flattened.proofs.ForestLaws.{forest_toks, bare_forest, count_forest, height_forest}

-- ── From the parts of a blob to its tokens ──
blob_parts : (rs : List Region) (xs : List Part) → (parts_size xs + 4 ≤ blob_size rs xs) × (names_size xs ≤ blob_size rs xs)
unfolding blob_size
blob_parts rs xs = (omega arith, omega arith)

structure_lex : (xs : List Part) → parts_size xs + 4 < 4294967296 → names_size xs < 4294967296 → AllClean xs
    → lex_at (structure_bytes xs) (names_bytes xs) 0 ≡ parts_toks 0 xs
unfolding structure_bytes
structure_lex xs hb hn z =
    parts_lex (parts_bytes 0 xs ++ bytes4 9) (names_bytes xs) (long hb (structure_length xs)) (omega (arith, names_length xs)) xs [] [] 0 0 refl refl refl refl refl z
  where
    long : parts_size xs + 4 < 4294967296 → length (parts_bytes 0 xs ++ bytes4 9) ≡ parts_size xs + 4 → length (parts_bytes 0 xs ++ bytes4 9) < 4294967296
    long h e = omega arith

module _ (rs : List Region) (xs : List Part) (z : List ℕ) (limit : blob_size rs xs ≤ 1048576) (named : AllClean xs) where
  small : blob_size rs xs < 4294967296
  small = omega arith

  -- the tokens that are read are the parts, in order
  pub tokens_read : lex_at (structure_of (blob rs xs ++ z)) (strings_of (blob rs xs ++ z)) 0 ≡ parts_toks 0 xs
  tokens_read =
      let k = blob_parts rs xs in
      rw (structure_block rs xs z small, strings_block rs xs z small) (structure_lex xs (omega arith) (omega arith) named)

  -- and if they are those of a tree within the limits, the blob is opened, and that tree is read
  module _ (root : ℕ) (ps : List Property) (kids : Nodes) (w : parts_toks 0 xs ≡ flat_k (node root [] ps kids none) (fin ∷ [])) (deep : suc (height kids) ≤ 32) (many : suc (count kids) ≤ 4096) where
    pub blob_written : WrittenFor (structure_of (blob rs xs ++ z)) (strings_of (blob rs xs ++ z)) root ps kids
    blob_written = tokens_read ∙ w

    pub blob_opened : opened_of (blob rs xs ++ z) ≡ Ok (Some (blocks_of (blob rs xs ++ z)))
    blob_opened =
        (opened_exactly (blob rs xs ++ z)).1 (
          good rs xs z small,
          rw (total_is rs xs z small) limit,
          record { root = root; ps = ps; kids = kids; block = block_of _ _ root ps kids blob_written; within = record { levels = deep; nodes = many } },
        )

    pub blob_tree : tree_of (structure_of (blob rs xs ++ z)) (strings_of (blob rs xs ++ z)) ≡ node root [] ps kids none
    blob_tree = tree_is _ _ root ps kids (block_of _ _ root ps kids blob_written)

-- ── THE THEOREM, for a tree ──
module _ (rs : List Region) (ps : List NamedValue) (kids : Forest) (z : List ℕ) (k : Within rs ps kids) where
  root_toks : parts_toks 0 (tree_parts ps kids) ≡ flat_k (node 0 [] (placed_p 8 ps) (placed_k (8 + props_size ps) kids) none) (fin ∷ [])
  unfolding placed_k parts_toks part_size
  root_toks = forest_toks (tree [] ps kids bare) 0 []

  levels_in : suc (height (placed_k (8 + props_size ps) kids)) ≤ 32
  levels_in = rw (height_forest kids) k.levels

  nodes_in : suc (count (placed_k (8 + props_size ps) kids)) ≤ 4096
  nodes_in = rw (count_forest kids) k.nodes

  root_bare : bare_k (node 0 [] (placed_p 8 ps) (placed_k (8 + props_size ps) kids) none) ≡ tree [] ps kids bare
  unfolding placed_k part_size
  root_bare = bare_forest (tree [] ps kids bare) 0

  pub reads_back : ReadBack (blob rs (tree_parts ps kids) ++ z) rs ps kids
  reads_back =
      record {
        opened = blob_opened rs (tree_parts ps kids) z k.bytes k.clean 0 (placed_p 8 ps) (placed_k (8 + props_size ps) kids) root_toks levels_in nodes_in;
        same = ap bare_k (blob_tree rs (tree_parts ps kids) z k.bytes k.clean 0 (placed_p 8 ps) (placed_k (8 + props_size ps) kids) root_toks levels_in nodes_in) ∙ root_bare;
        entries = ap entries_of (reservation_block rs (tree_parts ps kids) z (small rs (tree_parts ps kids) z k.bytes k.clean)) ∙ entries_are rs k.entries;
        placed = blob_written rs (tree_parts ps kids) z k.bytes k.clean 0 (placed_p 8 ps) (placed_k (8 + props_size ps) kids) root_toks levels_in nodes_in;
      }

-- ── The tree of parts that the walk accepts, under any limits ──
-- the parts of tokens
unfoldable parts_of : List Tok → List Part
parts_of [] = []
parts_of (begin p name ∷ ts) = begins name ∷ parts_of ts
parts_of (ended ∷ ts) = ends ∷ parts_of ts
parts_of (prop q ∷ ts) = property q.name q.value ∷ parts_of ts
parts_of (fin ∷ ts) = []
parts_of (bad ∷ ts) = []

parts_of_toks : (xs : List Part) (p : ℕ) → parts_of (parts_toks p xs) ≡ xs
unfolding parts_of parts_toks part_tok
parts_of_toks [] p = refl
parts_of_toks (begins name ∷ xs) p = ap (λ (l : List Part). begins name ∷ l) (parts_of_toks xs (p + part_size (begins name)))
parts_of_toks (property name value ∷ xs) p = ap (λ (l : List Part). property name value ∷ l) (parts_of_toks xs (p + part_size (property name value)))
parts_of_toks (ends ∷ xs) p = ap (λ (l : List Part). ends ∷ l) (parts_of_toks xs (p + part_size ends))

parts_of_props : (ps : List Property) (r : List Tok) → parts_of (flat_p ps r) ≡ prop_parts (bare_p ps) (parts_of r)
unfolding parts_of bare_p
parts_of_props [] r = refl
parts_of_props (q ∷ ps) r = ap (λ (l : List Part). property q.name q.value ∷ l) (parts_of_props ps r)

parts_of_nodes : (t : Nodes) (r : List Tok) → parts_of (flat_k t r) ≡ forest_parts (bare_k t) (parts_of r)
unfolding parts_of bare_k
parts_of_nodes none r = refl
parts_of_nodes (node at name ps kids rest) r =
    ap (λ (l : List Part). begins name ∷ l)
    (parts_of_props ps _ ∙ ap (prop_parts (bare_p ps)) (parts_of_nodes kids _ ∙ ap (λ (l : List Part). forest_parts (bare_k kids) (ends ∷ l)) (parts_of_nodes rest r)))

count_bare : (t : Nodes) → nodes_of (bare_k t) ≡ count t
unfolding bare_k
count_bare none = refl
count_bare (node at name ps kids rest) = rw (count_bare kids, count_bare rest)

height_bare : (t : Nodes) → levels_of (bare_k t) ≡ height t
unfolding bare_k
height_bare none = refl
height_bare (node at name ps kids rest) = rw (height_bare kids, height_bare rest)

pub parts_tree : (lv nd : ℕ) → 1 ≤ lv → 1 ≤ nd → (xs : List Part) → run_l lv nd (parts_toks 0 xs) 0 0 false ≡ Ok tt
    → (ps : List NamedValue) × (kids : Forest) × (xs ≡ tree_parts ps kids) × (suc (levels_of kids) ≤ lv) × (suc (nodes_of kids) ≤ nd)
unfolding parts_of bare_k
parts_tree lv nd one some xs h =
    let r = accepted_tree lv nd one some (parts_toks 0 xs) h in
    let e = sym (parts_of_toks xs 0) ∙ ap parts_of r.3 ∙ parts_of_nodes (node r.0 [] r.1 r.2 none) (fin ∷ []) in
    (bare_p r.1, bare_k r.2, e, rw (height_bare r.2) r.4, rw (count_bare r.2) r.5)
