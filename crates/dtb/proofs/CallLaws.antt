-- The tree's call, by what opening and judging say; and that it makes a map again. Assumes nothing.
use Rattle.dtb.specs.declared.TreeRefusal.TheVariants.{MapFull}
use Rattle.std.specs.Prelude.{Option, Some, None, Result, Ok, Err}
use mathlib.Core.Path.{◌≡◌, sym, ◌∙◌, ap}
use mathlib.Core.Bool.{Bool, true, false, cond}
use mathlib.Core.List.{List}
use Prim.Native.Nat.{ℕ}
use Rattle.page.specs.Round.{Page}
use Rattle.memory.specs.declared.MemoryMap.{MemoryMap}
use Rattle.memory.specs.declared.Registered.{Registered}
use Rattle.memory.specs.Made.{Made}
use Rattle.memory.specs.Run.{is_done, registered_all}
use Rattle.memory.proofs.RunLaws.{all_made}
use Rattle.fdt.specs.declared.Blocks.{Blocks}
use Rattle.fdt.specs.declared.TreeFault.{TreeFault}
use Rattle.fdt.specs.Header.{structure_of, strings_of}
use Rattle.fdt.specs.Tree.{Nodes, tree_of}
use Rattle.fdt.specs.Opening.{blocks_of, opened_of}
use Rattle.grammar.proofs.OpeningLaws.{opened_blocks}
use Rattle.words.specs.Bytes.{part_of}
use Rattle.subtree.specs.Subtree.{root_at}
use Rattle.subtree.proofs.SubtreeLaws.{opened_tree}
use Rattle.reservations.specs.Reservations.{block_in, entries_of}
use Rattle.claims.specs.declared.ValueFault.{ValueFault}
use Rattle.claims.specs.Claims.{claims_of}
use Rattle.claims.specs.Judging.{judged_of}
use Rattle.dtb.specs.Call.{tree_answered, settled_tree, judged_call, opened_call, tree_registered}

-- what a run of the claims comes to
pub settled_done : (m : MemoryMap) (r : Registered) → is_done r.answer ≡ true → settled_tree m r ≡ tree_answered r.map (Ok tt)
unfolding settled_tree
settled_done m r e = rw e

pub settled_refused : (m : MemoryMap) (r : Registered) → is_done r.answer ≡ false → settled_tree m r ≡ tree_answered m (Err MapFull)
unfolding settled_tree
settled_refused m r e = rw e

module _ (p : ℕ) (m : MemoryMap) (s : List ℕ) (arm : Bool) where
  -- by what opening said
  pub call_opened : (o : Result (Option Blocks) TreeFault) → o ≡ opened_of s → tree_registered p m s arm ≡ opened_call p m s arm o
  unfolding tree_registered
  call_opened o e = rw e

  -- by what judging the tree said
  pub call_judged : (k : Blocks) (j : Result Unit ValueFault) → Ok (Some k) ≡ opened_of s → j ≡ judged_of arm (tree_of (structure_of s) (strings_of s))
      → tree_registered p m s arm
      ≡ judged_call m j (registered_all p m (claims_of arm (entries_of (block_in s k)) (tree_of (structure_of s) (strings_of s))))
  unfolding tree_registered
  call_judged k j e i = rw (← e, ← i)

  -- the same with the blocks b and n as they are cut out of the bytes, and read where they are
  module _ (k : Blocks) (b n : List ℕ) (opened : Ok (Some k) ≡ opened_of s) (eb : b ≡ part_of s k.structure.at k.structure.len)
      (en : n ≡ part_of s k.strings.at k.strings.len) where
    is_structure : b ≡ structure_of s
    unfolding blocks_of
    is_structure = eb ∙ ap (λ (x : Blocks). part_of s x.structure.at x.structure.len) (opened_blocks s k (sym opened))

    is_strings : n ≡ strings_of s
    unfolding blocks_of
    is_strings = en ∙ ap (λ (x : Blocks). part_of s x.strings.at x.strings.len) (opened_blocks s k (sym opened))

    is_tree : root_at b n ≡ tree_of (structure_of s) (strings_of s)
    is_tree = rw (is_structure, is_strings) (opened_tree s k (sym opened))

    pub call_tree : (j : Result Unit ValueFault) → j ≡ judged_of arm (root_at b n)
        → tree_registered p m s arm ≡ judged_call m j (registered_all p m (claims_of arm (entries_of (block_in s k)) (root_at b n)))
    call_tree j e =
        call_judged k j opened (e ∙ ap (judged_of arm) is_tree)
        ∙ ap (λ (t : Nodes). judged_call m j (registered_all p m (claims_of arm (entries_of (block_in s k)) t))) (sym is_tree)

-- ── The call makes a map again ──
settled_made : (p : ℕ) (m : MemoryMap) (r : Registered) → Made p m → Made p r.map → Made p (settled_tree m r).map
unfolding settled_tree
settled_made p m r g h = go (is_done r.answer)
  where
    go : (t : Bool) → Made p (cond t (tree_answered r.map (Ok tt)) (tree_answered m (Err MapFull))).map
    go true = h
    go false = g

judged_made : (p : ℕ) (m : MemoryMap) (j : Result Unit ValueFault) (r : Registered) → Made p m → Made p r.map → Made p (judged_call m j r).map
judged_made p m (Ok _) r g h = settled_made p m r g h
judged_made p m (Err _) r g h = g

pub tree_made : (p : ℕ) (m : MemoryMap) (s : List ℕ) (arm : Bool) → Page p → Made p m → Made p (tree_registered p m s arm).map
unfolding tree_registered
tree_made p m s arm g h = go (opened_of s)
  where
    go : (o : Result (Option Blocks) TreeFault) → Made p (opened_call p m s arm o).map
    go (Ok None) = h
    go (Err _) = h
    go (Ok (Some k)) = judged_made p m (judged_of arm (tree_of (structure_of s) (strings_of s))) _ h (all_made p m _ g h)
