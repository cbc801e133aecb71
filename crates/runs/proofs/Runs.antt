-- A run of registrations, one claim at a time and one part after another. Assumes nothing.
use Rattle.memory.specs.declared.MapRefusal.TheVariants.{UnknownKind, MapFull}
use Rattle.memory.specs.declared.MapRefusal.{MapRefusal}
use Rattle.std.specs.Prelude.{Result, Ok, Err}
use mathlib.Core.Path.{◌≡◌, refl, ap}
use mathlib.Core.Bool.{false}
use mathlib.Core.List.{List, [], ◌∷◌, ◌++◌}
use Prim.Native.Nat.{ℕ}
use native.Mathlib.Omega.{arith}
use Rattle.entry.specs.declared.Claim.{Claim}
use Rattle.memory.specs.declared.MemoryMap.{MemoryMap}
use Rattle.memory.specs.Map.{answered, registered}
use Rattle.memory.specs.Run.{is_done, registered_all}

-- an answer is done, or it is not
pub done_or : (a : Result Unit MapRefusal) (P : Type 0) → (a ≡ Ok tt → P) → ((a ≡ Ok tt → ⊥) → is_done a ≡ false → P) → P
done_or (Ok tt) P f g = f refl
done_or (Err UnknownKind) P f g = g (λ e. let z : ◌≡◌ {A = ℕ} 0 1 = cc in omega arith) refl
done_or (Err MapFull) P f g = g (λ e. let z : ◌≡◌ {A = ℕ} 0 1 = cc in omega arith) refl

pub run_nil : (p : ℕ) (m : MemoryMap) → registered_all p m [] ≡ answered m (Ok tt)
unfolding registered_all
run_nil p m = refl

-- the first claim is accepted, and the run goes on
pub run_on : (p : ℕ) (m : MemoryMap) (c : Claim) (cs : List Claim) → (registered p m c).answer ≡ Ok tt
    → registered_all p m (c ∷ cs) ≡ registered_all p (registered p m c).map cs
unfolding registered_all
run_on p m c cs e = rw (ap is_done e)

-- the first claim is refused, and the run stops
pub run_stops : (p : ℕ) (m : MemoryMap) (c : Claim) (cs : List Claim) → is_done (registered p m c).answer ≡ false
    → registered_all p m (c ∷ cs) ≡ registered p m c
unfolding registered_all
run_stops p m c cs e = rw e

-- an accepted run accepts its first claim, and then the others
pub run_accepted : (p : ℕ) (m : MemoryMap) (c : Claim) (cs : List Claim) (P : Type 0) → (registered_all p m (c ∷ cs)).answer ≡ Ok tt
    → ((registered p m c).answer ≡ Ok tt → (registered_all p (registered p m c).map cs).answer ≡ Ok tt → P) → P
run_accepted p m c cs P e f =
    done_or (registered p m c).answer P
    (λ d. f d (rw (run_on p m c cs d) at e))
    (λ n s. absurd (n (rw (run_stops p m c cs s) at e)))

-- sources one after the other are one run: the second goes on from where the first is done
pub run_append : (p : ℕ) (m : MemoryMap) (cs ds : List Claim) → (registered_all p m cs).answer ≡ Ok tt
    → registered_all p m (cs ++ ds) ≡ registered_all p (registered_all p m cs).map ds
run_append p m [] ds e = rw (run_nil p m)
run_append p m (c ∷ cs) ds e =
    run_accepted p m c cs _ e
    (λ d r. rw (run_on p m c (cs ++ ds) d, run_on p m c cs d) (run_append p (registered p m c).map cs ds r))
