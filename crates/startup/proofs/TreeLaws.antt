-- The tree's call, by what is wrong with the tree itself and, where nothing is, by the run of its claims. It holds for any map, so also for
-- the one that a list handed back which overflowed. Assumes nothing.
use Rattle.std.specs.Prelude.{Option, Some, None, Result, Ok, Err}
use mathlib.Core.Path.{◌≡◌, refl, ap, sym}
use mathlib.Core.Bool.{Bool, false}
use mathlib.Core.List.{List}
use Prim.Native.Nat.{ℕ}
use Rattle.memory.specs.declared.MemoryMap.{MemoryMap}
use Rattle.memory.specs.declared.Registered.{Registered}
use Rattle.memory.specs.Run.{is_done, registered_all}
use Rattle.runs.proofs.Runs.{done_or, run_nil}
use Rattle.fdt.specs.declared.Blocks.{Blocks}
use Rattle.fdt.specs.declared.TreeFault.{TreeFault}
use Rattle.fdt.specs.declared.TreeFault.TheVariants.{BadHeader, OverLimit, BadStructure}
use Rattle.fdt.specs.Header.{structure_of, strings_of}
use Rattle.fdt.specs.Tree.{tree_of}
use Rattle.fdt.specs.Opening.{opened_of}
use Rattle.claims.specs.declared.ValueFault.{ValueFault}
use Rattle.claims.specs.declared.ValueFault.TheVariants.{UnreadableReg, UnreadableRanges}
use Rattle.claims.specs.Judging.{judged_of}
use Rattle.dtb.specs.declared.TreeRegistered.{TreeRegistered}
use Rattle.dtb.specs.Call.{settled_tree, judged_call, opened_call, tree_registered}
use Rattle.dtb.proofs.CallLaws.{settled_done, settled_refused}
use Rattle.startup.specs.declared.Refusal.{Refusal}
use Rattle.startup.specs.declared.Refusal.TheVariants.{MapFull}
use Rattle.startup.specs.Sources.{claims_by, tree_claims}
use Rattle.startup.specs.Verdict.{judged_verdict, opened_verdict, tree_verdict, tree_fault}

-- the three ways of the call y, where v is the verdict on the tree alone and r the run of its claims
pub data TreeWay (v : Result Unit Refusal) (r : Registered) (y : TreeRegistered) : Type 0 where
  faulty : (f : Refusal) → v ≡ Err f → tree_fault y.answer ≡ Err f → TreeWay v r y
  full : v ≡ Ok tt → tree_fault y.answer ≡ Err MapFull → is_done r.answer ≡ false → TreeWay v r y
  taken : v ≡ Ok tt → tree_fault y.answer ≡ Ok tt → r.answer ≡ Ok tt → y.map ≡ r.map → TreeWay v r y

module _ (m : MemoryMap) (r : Registered) where
  by_run : TreeWay (Ok tt) r (settled_tree m r)
  by_run =
      done_or r.answer (TreeWay (Ok tt) r (settled_tree m r))
      (λ d.
      let e = settled_done m r (ap is_done d) in
      taken refl (ap (λ (y : TreeRegistered). tree_fault y.answer) e) d (ap (λ (y : TreeRegistered). y.map) e))
      (λ n s. full refl (ap (λ (y : TreeRegistered). tree_fault y.answer) (settled_refused m r s)) s)

  by_judging : (j : Result Unit ValueFault) → TreeWay (judged_verdict j) r (judged_call m j r)
  by_judging (Ok _) = by_run
  by_judging (Err UnreadableReg) = faulty _ refl refl
  by_judging (Err UnreadableRanges) = faulty _ refl refl

module _ (p : ℕ) (m : MemoryMap) (t : List ℕ) (arm : Bool) where
  by_opening : (o : Result (Option Blocks) TreeFault) → TreeWay (opened_verdict t arm o) (registered_all p m (claims_by t arm o)) (opened_call p m t arm o)
  by_opening (Ok None) = taken refl refl (ap (λ (r : Registered). r.answer) (run_nil p m)) (ap (λ (r : Registered). r.map) (sym (run_nil p m)))
  by_opening (Err BadHeader) = faulty _ refl refl
  by_opening (Err OverLimit) = faulty _ refl refl
  by_opening (Err BadStructure) = faulty _ refl refl
  by_opening (Ok (Some k)) = by_judging m _ (judged_of arm (tree_of (structure_of t) (strings_of t)))

  pub tree_way : TreeWay (tree_verdict t arm) (registered_all p m (tree_claims t arm)) (tree_registered p m t arm)
  unfolding tree_verdict tree_claims tree_registered
  tree_way = by_opening (opened_of t)
