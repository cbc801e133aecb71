-- A run of registrations that takes its claims from what is left to claim, one step at a time. Assumes nothing.
use Rattle.std.specs.Prelude.{Option, Some, None, Ok}
use mathlib.Core.Path.{◌≡◌, sym, ◌∙◌, subst}
use mathlib.Core.Bool.{Bool, true, false}
use mathlib.Core.List.{List, [], ◌∷◌}
use Prim.Native.Nat.{ℕ, ◌<◌}
use native.Mathlib.Omega.{arith}
use lib.ListN.{length}
use Rattle.entry.specs.declared.Claim.{Claim}
use Rattle.subtree.specs.Subtree.{Stands}
use Rattle.memory.specs.declared.MemoryMap.{MemoryMap}
use Rattle.memory.specs.declared.Registered.{Registered}
use Rattle.memory.specs.Map.{answered, registered}
use Rattle.memory.specs.Run.{is_done, registered_all}
use Rattle.visit.specs.declared.Cursor.{Cursor}
use Rattle.visit.specs.declared.Step.{Step}
use Rattle.visit.specs.Steps.{step_of}
use Rattle.visit.specs.Script.{claims_in, Follows}
use Rattle.visit.proofs.StepLaws.{follows}

-- where a step r, that came out as s, leads
pub went : (b n block : List ℕ) (arm : Bool) (c : Cursor) (r s : Step) → Stands b n c.next → r ≡ step_of b n block arm c → r ≡ s
    → Follows b n block arm c s
went b n block arm c r s h e i = subst (Follows b n block arm c) (sym e ∙ i) (follows b n block arm c h)

-- a step leaves less to do
pub shorter : (l s : List (Option Claim)) (o : Option Claim) → l ≡ o ∷ s → length s < length l
shorter l s o e = rw e (omega arith)

module _ (p : ℕ) (m : MemoryMap) (l : List (Option Claim)) where
  -- nothing is left
  pub take_end : l ≡ [] → registered_all p m (claims_in l) ≡ answered m (Ok tt)
  unfolding registered_all claims_in
  take_end e = rw e

  module _ (s : List (Option Claim)) where
    -- a step without a claim
    pub take_over : l ≡ None ∷ s → registered_all p m (claims_in l) ≡ registered_all p m (claims_in s)
    unfolding claims_in
    take_over e = rw e

    -- a claim that is registered, r being what that gives
    module _ (c : Claim) (r : Registered) (e : l ≡ Some c ∷ s) (i : r ≡ registered p m c) where
      pub take_done : is_done r.answer ≡ true → registered_all p m (claims_in l) ≡ registered_all p r.map (claims_in s)
      unfolding registered_all claims_in
      take_done a = rw (e, ← i, a)

      -- and one that is refused
      pub take_refused : is_done r.answer ≡ false → registered_all p m (claims_in l) ≡ r
      unfolding registered_all claims_in
      take_refused a = rw (e, ← i, a)
