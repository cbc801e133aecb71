-- Document 01: "Bytes past totalsize are not read." Of the whole call: trees that begin with the same totalsize bytes give the same map and
-- the same answer, and so does a tree without what is past them. Assumes nothing.
use Rattle.std.specs.Prelude.{Option, Some, None, Result, Ok, Err}
use mathlib.Core.Path.{◌≡◌, refl, ◌∙◌, ap}
use mathlib.Core.Logic.{⊎_elim}
use Prim.Native.Nat.{ℕ, ◌-◌, ◌%◌, ◌≤◌}
use native.Mathlib.Omega.{arith}
use mathlib.Core.Bool.{Bool, true, false, ◌&&◌}
use mathlib.Core.List.{List}
use lib.ListN.{take}
use lib.Dec.{leb, eqb}
use borrow.Author.Tests.{leb-true}
use Rattle.memory.specs.declared.MemoryMap.{MemoryMap}
use Rattle.fdt.specs.declared.Blocks.{Blocks}
use Rattle.fdt.specs.declared.TreeFault.{TreeFault}
use Rattle.fdt.specs.Header.{totalsize, GoodHeader, off_dt_struct, off_mem_rsvmap}
use Rattle.fdt.specs.Opening.{blocks_of, opened_of}
use Rattle.grammar.specs.Past.{SameFront}
use Rattle.grammar.proofs.OpeningLaws.{opened_exactly, opened_blocks}
use Rattle.grammar.proofs.PastLaws.{front_part, front_structure, front_strings, front_opened, front_of}
use Rattle.reservations.specs.Reservations.{block_in}
use Rattle.dtb.specs.Call.{opened_call, tree_registered}

never_so : (x y : Bool) → (x && (y && false)) ≡ false
never_so true true = refl
never_so true false = refl
never_so false y = refl

module _ (s u : List ℕ) (d : SameFront s u) where
  -- the reservation block ends where the structure block begins
  block_front : GoodHeader s → block_in s (blocks_of s) ≡ block_in u (blocks_of s)
  unfolding block_in blocks_of
  block_front g = go (leb (off_mem_rsvmap s) (off_dt_struct s)) refl
    where
      go : (x : Bool) → leb (off_mem_rsvmap s) (off_dt_struct s) ≡ x → block_in s (blocks_of s) ≡ block_in u (blocks_of s)
      go true e =
          let l : off_mem_rsvmap s ≤ off_dt_struct s = leb-true _ _ e in
          rw (front_part s u d (off_mem_rsvmap s) (off_dt_struct s - off_mem_rsvmap s) (omega arith))
      go false e = rw (e, never_so (leb 40 (off_mem_rsvmap s)) (eqb (off_mem_rsvmap s % 8) 0))

  pub front_call : (p : ℕ) (m : MemoryMap) (arm : Bool) → tree_registered p m s arm ≡ tree_registered p m u arm
  unfolding tree_registered
  front_call p m arm = rw (← front_opened s u d) (go (opened_of s) refl)
    where
      go : (o : Result (Option Blocks) TreeFault) → opened_of s ≡ o → opened_call p m s arm o ≡ opened_call p m u arm o
      go (Ok None) e = refl
      go (Err _) e = refl
      go (Ok (Some k)) e =
          let b = opened_blocks s k e in
          let g = ((opened_exactly s).0 (e ∙ ap Ok (ap Some b))).0 in
          rw (b, block_front g, front_structure s u d g, front_strings s u d g)

-- THE CALL: the whole answer, and the map, are those of the first totalsize bytes
pub past_call : (s : List ℕ) → 40 ≤ totalsize s → (p : ℕ) (m : MemoryMap) (arm : Bool) → tree_registered p m s arm ≡ tree_registered p m (take (totalsize s) s) arm
past_call s h p m arm = ⊎_elim (λ d. front_call s _ d p m arm) (λ e. ap (λ (x : List ℕ). tree_registered p m x arm) e) (front_of s h)
