-- Of an opened tree, from the bytes alone: its blocks are written for the tree that the bytes are (on-written), and so each theorem of this
-- crate holds of them and that tree. Assumes nothing.
use mathlib.Core.Path.{◌≡◌, sym, ◌∙◌, ap, subst}
use Prim.Native.Nat.{ℕ, ◌+◌}
use mathlib.Core.List.{List, []}
use lib.ListN.{length}
use Rattle.std.specs.Prelude.{Some, None, Ok}
use Rattle.fdt.specs.declared.Blocks.{Blocks}
use Rattle.fdt.specs.Header.{structure_of, strings_of}
use Rattle.fdt.specs.Opening.{opened_of, block}
use Rattle.fdt.specs.Tree.{Property, Nodes, none, node, tree_of}
use Rattle.grammar.specs.Veil.{Free, veil_k, Differs, Apart}
use Rattle.grammar.proofs.GrammarLaws.{tokens_are, tree_is}
use Rattle.grammar.proofs.OpeningLaws.{opened_exactly, opened_blocks}
use Rattle.grammar.proofs.VeilLaws.{same_opened, same_opened_tree}
use Rattle.nodes.specs.Nav.{first_at, prop_at}
use Rattle.nodes.specs.Path.{path_at}
use Rattle.nodes.specs.Cells.{count_at}
use Rattle.nodes.specs.Order.{place_at, order}
use Rattle.nodes.specs.OnTree.{Among, head_of}
use Rattle.reading.specs.Reads.{WrittenFor, ReadsAt}
use Rattle.reading.specs.Values.{FirstOf, NoneOf, ValueOf, value_of, held, count_of}
use Rattle.reading.specs.Paths.{path_in, NodeIn}
use Rattle.reading.specs.Order.{Ascending, count_before, SameNode}
use Rattle.reading.specs.Veil.{SameAt}
use Rattle.reading.proofs.Reading as reading
use Rattle.reading.proofs.Values as values
use Rattle.reading.proofs.Paths as paths
use Rattle.reading.proofs.Order as orders
use Rattle.reading.proofs.ReadVeil as veils

module _ (s : List ℕ) (k : Blocks) (o : opened_of s ≡ Ok (Some k)) where
  -- the tree that these bytes are
  abbrev tree : Nodes
  tree = tree_of (structure_of s) (strings_of s)

  -- THE BRIDGE: what holds of every tree that the blocks are written for holds of it
  pub on_written : (P : Nodes → Type 0)
      → ((root : ℕ) (ps : List Property) (kids : Nodes) → WrittenFor (structure_of s) (strings_of s) root ps kids → P (node root [] ps kids none)) → P tree
  on_written P f =
      let w = ((opened_exactly s).0 (o ∙ ap (λ (x : Blocks). Ok (Some x)) (opened_blocks s k o))).2 in
      subst P (sym (tree_is (structure_of s) (strings_of s) w.root w.ps w.kids w.block))
      (f w.root w.ps w.kids (tokens_are (structure_of s) (strings_of s) w.root w.ps w.kids w.block))

  -- THE THEOREMS. A path leads where it leads in the tree, and so to a node of it, or to nothing
  pub path : (p : List ℕ) → path_at (structure_of s) (strings_of s) p ≡ path_in tree p
  path p =
      on_written (λ t. path_at (structure_of s) (strings_of s) p ≡ path_in t p) (λ root ps kids w. paths.path (structure_of s) (strings_of s) root ps kids w p)

  pub path_node : (p : List ℕ) {q : ℕ} → path_at (structure_of s) (strings_of s) p ≡ Some q → NodeIn tree q
  path_node p {q = q} h =
      on_written (λ t. NodeIn t q) (λ root ps kids w. paths.path_node (structure_of s) (strings_of s) root ps kids w p h)

  -- in document order the places of the nodes ascend strictly
  pub ascending : Ascending 0 (order tree [])
  ascending = on_written (λ t. Ascending 0 (order t [])) (orders.ascending (structure_of s) (strings_of s))

  -- the root's number is 0, and its first child's is 1
  pub root_number : {root : ℕ} → head_of tree ≡ Some root → place_at (structure_of s) (strings_of s) root ≡ 0
  root_number {root = root} h =
      on_written (λ t. head_of t ≡ Some root → place_at (structure_of s) (strings_of s) root ≡ 0)
      (λ r ps kids w e. let z : r ≡ root = cc in rw (← z) (orders.root_number (structure_of s) (strings_of s) r ps kids w)) h

  pub child_number : {root q : ℕ} → head_of tree ≡ Some root → first_at (structure_of s) (strings_of s) root ≡ Some q → place_at (structure_of s) (strings_of s) q ≡ 1
  child_number {root = root} {q = q} h f =
      on_written (λ t. head_of t ≡ Some root → place_at (structure_of s) (strings_of s) q ≡ 1)
      (λ r ps kids w e. let z : root ≡ r = cc in orders.child_number (structure_of s) (strings_of s) r ps kids w (rw z at f)) h

  -- a node's number is its own: two nodes of one number stand at one place
  pub own_number : {q r : ℕ} → NodeIn tree q → NodeIn tree r → place_at (structure_of s) (strings_of s) q ≡ place_at (structure_of s) (strings_of s) r → q ≡ r
  own_number {q = q} {r = r} x y e =
      on_written (λ t. NodeIn t q → NodeIn t r → q ≡ r)
      (λ root ps kids w i j. orders.own_number (structure_of s) (strings_of s) root ps kids w i j e) x y

  module _ {q : ℕ} {nm : List ℕ} {os : List Property} {ks rest : Nodes} (a : Among q nm os ks rest tree) where
    -- at each node of the tree, what is read is what the tree says
    pub reads : ReadsAt (structure_of s) (strings_of s) tree q nm os ks rest
    reads =
        on_written (λ t. Among q nm os ks rest t → ReadsAt (structure_of s) (strings_of s) t q nm os ks rest)
        (λ root ps kids w x. reading.reads (structure_of s) (strings_of s) root ps kids w x) a

    -- its number in document order is how many nodes begin before it
    pub number_is : place_at (structure_of s) (strings_of s) q ≡ count_before q (order tree [])
    number_is =
        on_written (λ t. Among q nm os ks rest t → place_at (structure_of s) (strings_of s) q ≡ count_before q (order t []))
        (λ root ps kids w x. orders.number_is (structure_of s) (strings_of s) root ps kids w x) a

    -- at its place there is no other node
    pub only : {om : List ℕ} {rs : List Property} {ls us : Nodes} → Among q om rs ls us tree → SameNode nm om os rs ks ls rest us
    only {om = om} {rs = rs} {ls = ls} {us = us} x =
        on_written (λ t. Among q nm os ks rest t → Among q om rs ls us t → SameNode nm om os rs ks ls rest us)
        (λ root ps kids w y z. orders.only (structure_of s) (strings_of s) root ps kids w y z) a x

    module _ (name : List ℕ) where
      -- what a lookup finds is the first property of the name, with its value
      pub value_found : {at len : ℕ} → prop_at (structure_of s) (strings_of s) q name ≡ Some (block at len) → ValueOf (structure_of s) name os at len
      value_found {at = at} {len = len} h =
          on_written (λ t. Among q nm os ks rest t → ValueOf (structure_of s) name os at len)
          (λ root ps kids w x. values.value_found (structure_of s) (strings_of s) root ps kids w x name h) a

      -- the first property of the name is found
      pub first_read : {x : Property} → FirstOf name x os → prop_at (structure_of s) (strings_of s) q name ≡ Some (block (x.at + 12) (length x.value))
      first_read {x = x} f =
          on_written (λ t. Among q nm os ks rest t → prop_at (structure_of s) (strings_of s) q name ≡ Some (block (x.at + 12) (length x.value)))
          (λ root ps kids w y. values.first_read (structure_of s) (strings_of s) root ps kids w y name f) a

      -- where nothing is found, no property has the name
      pub none_read : prop_at (structure_of s) (strings_of s) q name ≡ None → NoneOf name os
      none_read h =
          on_written (λ t. Among q nm os ks rest t → NoneOf name os)
          (λ root ps kids w x. values.none_read (structure_of s) (strings_of s) root ps kids w x name h) a

      -- and so the value that is read is that of the first property of the name, where there is one; and a count of cells is what it states
      pub value_read : held (structure_of s) (prop_at (structure_of s) (strings_of s) q name) ≡ value_of name os
      value_read =
          on_written (λ t. Among q nm os ks rest t → held (structure_of s) (prop_at (structure_of s) (strings_of s) q name) ≡ value_of name os)
          (λ root ps kids w x. values.value_read (structure_of s) (strings_of s) root ps kids w x name) a

      pub count_read : count_at (structure_of s) (strings_of s) q name ≡ count_of (value_of name os)
      count_read =
          on_written (λ t. Among q nm os ks rest t → count_at (structure_of s) (strings_of s) q name ≡ count_of (value_of name os))
          (λ root ps kids w x. values.count_read (structure_of s) (strings_of s) root ps kids w x name) a

-- Bytes that differ from an opened tree's only in values of free properties and in padding, with the strings block apart, are opened too
module _ (free : Free) (s t : List ℕ) (d : Differs free s t) (apart : Apart s) (k : Blocks) (o : opened_of s ≡ Ok (Some k)) where
  -- what holds of any two trees that the blocks are written for, and that are equal but for those values
  on_both : (P : Nodes → Type 0)
      → ((root other : ℕ) (ps os : List Property) (kids ls : Nodes) → WrittenFor (structure_of s) (strings_of s) root ps kids
      → WrittenFor (structure_of t) (strings_of t) other os ls → veil_k free (node root [] ps kids none) ≡ veil_k free (node other [] os ls none)
      → P (node root [] ps kids none))
      → P (tree_of (structure_of s) (strings_of s))
  on_both P f =
      on_written s k o (λ x. veil_k free x ≡ veil_k free (tree_of (structure_of t) (strings_of t)) → P x)
      (λ root ps kids w. on_written t k (sym (same_opened free s t d apart) ∙ o) (λ y. veil_k free (node root [] ps kids none) ≡ veil_k free y → P (node root [] ps kids none))
      (λ other os ls v e. f root other ps os kids ls w v e))
      (same_opened_tree free s t d apart)

  -- each path leads to the same place, each place has the same number, and at each node the two read the same
  pub same_paths : (p : List ℕ) → path_at (structure_of s) (strings_of s) p ≡ path_at (structure_of t) (strings_of t) p
  same_paths p =
      on_both (λ x. path_at (structure_of s) (strings_of s) p ≡ path_at (structure_of t) (strings_of t) p)
      (λ root other ps os kids ls w v e. veils.same_paths free (structure_of s) (strings_of s) (structure_of t) (strings_of t) root other ps os kids ls w v e p)

  pub same_numbers : (q : ℕ) → place_at (structure_of s) (strings_of s) q ≡ place_at (structure_of t) (strings_of t) q
  same_numbers q =
      on_both (λ x. place_at (structure_of s) (strings_of s) q ≡ place_at (structure_of t) (strings_of t) q)
      (λ root other ps os kids ls w v e. veils.same_numbers free (structure_of s) (strings_of s) (structure_of t) (strings_of t) root other ps os kids ls w v e q)

  pub same_at : {q : ℕ} → NodeIn (tree_of (structure_of s) (strings_of s)) q → SameAt free (structure_of s) (strings_of s) (structure_of t) (strings_of t) q
  same_at {q = q} i =
      on_both (λ x. NodeIn x q → SameAt free (structure_of s) (strings_of s) (structure_of t) (strings_of t) q)
      (λ root other ps os kids ls w v e j. veils.same_at free (structure_of s) (strings_of s) (structure_of t) (strings_of t) root other ps os kids ls w v e j.among) i
