-- The tree's call: document 01, "The tree is judged before its first claim is registered. A refused .. tree .. gives back the map as at its
-- call and writes nothing."
use Rattle.numbers.specs.Number.{number_by}
use Rattle.std.specs.Prelude.{ℕ, List, Bool, cond, Option, Some, None, Result, Ok, Err}
use Rattle.memory.specs.declared.MemoryMap.{MemoryMap}
use Rattle.memory.specs.declared.Registered.{Registered}
use Rattle.memory.specs.Run.{is_done, registered_all}
use Rattle.fdt.specs.declared.Blocks.{Blocks}
use Rattle.fdt.specs.declared.TreeFault.{TreeFault}
use Rattle.fdt.specs.declared.TreeFault.TheVariants as form
use Rattle.fdt.specs.Header.{structure_of, strings_of}
use Rattle.fdt.specs.Tree.{tree_of}
use Rattle.fdt.specs.Opening.{opened_of}
use Rattle.reservations.specs.Reservations.{block_in, entries_of}
use Rattle.claims.specs.declared.ValueFault.{ValueFault}
use Rattle.claims.specs.declared.ValueFault.TheVariants as value
use Rattle.claims.specs.Claims.{claims_of}
use Rattle.claims.specs.Judging.{judged_of}
use Rattle.dtb.specs.declared.TreeRefusal.{TreeRefusal}
use Rattle.dtb.specs.declared.TreeRefusal.TheVariants.{BadHeader, OverLimit, BadStructure, UnreadableReg, UnreadableRanges, MapFull}
use Rattle.dtb.specs.declared.TreeRegistered.{TreeRegistered}

-- "Numbers a caller gets back"
abbrev pub tree_refusal_number : TreeRefusal → ℕ
tree_refusal_number BadHeader = 4
tree_refusal_number OverLimit = 6
tree_refusal_number BadStructure = 5
tree_refusal_number UnreadableReg = 7
tree_refusal_number UnreadableRanges = 8
tree_refusal_number MapFull = 2

abbrev pub tree_number : Result Unit TreeRefusal → ℕ
tree_number = number_by tree_refusal_number

-- the refusal that a fault of the tree's form is, and that a fault in its values is
abbrev pub of_fault : TreeFault → TreeRefusal
of_fault form.BadHeader = BadHeader
of_fault form.OverLimit = OverLimit
of_fault form.BadStructure = BadStructure

abbrev pub of_value : ValueFault → TreeRefusal
of_value value.UnreadableReg = UnreadableReg
of_value value.UnreadableRanges = UnreadableRanges

abbrev pub tree_answered : MemoryMap → Result Unit TreeRefusal → TreeRegistered
tree_answered m a = record { map = m; answer = a }

-- the map with the claims, or the map as at the call: a claim's kind is always known, so what is refused is a full map
-- (ClaimKinds.claims_known, in tree_theorems)
unfoldable pub settled_tree : MemoryMap → Registered → TreeRegistered
settled_tree m r = cond (is_done r.answer) (tree_answered r.map (Ok tt)) (tree_answered m (Err MapFull))

-- 7, then 8, then 2
abbrev pub judged_call : MemoryMap → Result Unit ValueFault → Registered → TreeRegistered
judged_call m (Ok _) r = settled_tree m r
judged_call m (Err f) r = tree_answered m (Err (of_value f))

module _ (p : ℕ) (m : MemoryMap) (s : List ℕ) (arm : Bool) where
  -- 4, 6, 5 by the reader; "A tree of 0 bytes is no tree."
  abbrev pub opened_call : Result (Option Blocks) TreeFault → TreeRegistered
  opened_call (Ok None) = tree_answered m (Ok tt)
  opened_call (Err f) = tree_answered m (Err (of_fault f))
  opened_call (Ok (Some k)) =
      judged_call m (judged_of arm (tree_of (structure_of s) (strings_of s)))
      (registered_all p m (claims_of arm (entries_of (block_in s k)) (tree_of (structure_of s) (strings_of s))))

  -- exactly those claims, in that order; or a refusal that "gives back the map as at its call"
  unfoldable pub tree_registered : TreeRegistered
  tree_registered = opened_call (opened_of s)
