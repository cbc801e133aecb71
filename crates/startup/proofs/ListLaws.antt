-- What the list's call says of its run: UnknownKind where a kind is unknown; else the run is done, or is refused, as the call is. Assumes nothing.
use Rattle.memory.specs.declared.MapRefusal.TheVariants.{UnknownKind}
use Rattle.std.specs.Prelude.{Ok, Err}
use mathlib.Core.Path.{◌≡◌, refl, ap, sym, ◌∙◌}
use mathlib.Core.Bool.{Bool, true, false}
use mathlib.Core.List.{List, [], ◌∷◌, ◌++◌}
use mathlib.Core.Logic.{⊎_elim}
use Prim.Native.Nat.{ℕ}
use Rattle.words.proofs.BytesLaws.{never}
use Rattle.entry.specs.declared.Claim.{Claim}
use Rattle.memory.specs.declared.MemoryMap.{MemoryMap}
use Rattle.memory.specs.declared.Registered.{Registered}
use Rattle.memory.specs.Map.{registered}
use Rattle.memory.specs.Run.{is_done, registered_all}
use Rattle.memory.proofs.RunLaws.{settled_done}
use Rattle.bootloader.specs.List.{all_known, claims, listed}
use Rattle.bootloader.proofs.ListLaws.{listed_unknown, listed_known}
use Rattle.runs.proofs.Runs.{done_or, run_nil, run_on, run_stops}
use Rattle.runs.proofs.Refusals.{judged, list_unknown_exactly, list_done}

-- a run that is refused is refused whatever comes after it
pub run_refused : (p : ℕ) (m : MemoryMap) (cs ds : List Claim) → is_done (registered_all p m cs).answer ≡ false
    → registered_all p m (cs ++ ds) ≡ registered_all p m cs
run_refused p m [] ds e = let t = rw (run_nil p m) at e in never (cc)
run_refused p m (c ∷ cs) ds e =
    done_or (registered p m c).answer _
    (λ d. rw (run_on p m c (cs ++ ds) d, run_on p m c cs d) (run_refused p (registered p m c).map cs ds (rw (run_on p m c cs d) at e)))
    (λ n s. run_stops p m c (cs ++ ds) s ∙ sym (run_stops p m c cs s))

-- x is what the list's call gave
module _ (p : ℕ) (m : MemoryMap) (l : List ℕ) (x : Registered) (is : x ≡ listed p m l) where
  pub list_unknown : x.answer ≡ Err UnknownKind → all_known l ≡ false
  list_unknown e =
      ⊎_elim
      (λ y.
      let s = (list_unknown_exactly p m l).0 (rw is at e) in
      absurd (s.is (y.1 s.claim s.among)))
      (λ y. y.0)
      (judged (claims l))

  pub list_known : (x.answer ≡ Err UnknownKind → ⊥) → all_known l ≡ true
  list_known f = go (all_known l) refl
    where
      go : (t : Bool) → all_known l ≡ t → t ≡ true
      go true e = refl
      go false e = absurd (f (rw (is, listed_unknown p m l e)))

  pub list_runs : x.answer ≡ Ok tt → x ≡ registered_all p m (claims l)
  list_runs d = is ∙ list_done p m l (rw is at d)

  pub list_refused : all_known l ≡ true → is_done x.answer ≡ false → is_done (registered_all p m (claims l)).answer ≡ false
  list_refused k e =
      done_or (registered_all p m (claims l)).answer _
      (λ d.
      let t : x ≡ registered_all p m (claims l) = is ∙ listed_known p m l k ∙ settled_done m _ (ap is_done d) in
      ap (λ (r : Registered). is_done r.answer) (sym t) ∙ e)
      (λ n s. s)
