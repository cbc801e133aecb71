-- A run of registrations, as every source makes one.
use Rattle.memory.specs.declared.MapRefusal.TheVariants.{UnknownKind, MapFull}
use Rattle.memory.specs.declared.MapRefusal.{MapRefusal}
use Rattle.std.specs.Prelude.{Bool, true, false, cond, List, [], ◌∷◌, ℕ, Result, Ok, Err}
use Rattle.entry.specs.declared.Claim.{Claim}
use Rattle.memory.specs.declared.MemoryMap.{MemoryMap}
use Rattle.memory.specs.declared.Registered.{Registered}
use Rattle.memory.specs.Map.{answered, registered}

-- whether an answer is done
abbrev pub is_done : Result Unit MapRefusal → Bool
is_done (Ok _) = true
is_done (Err _) = false

-- one claim after the other, up to the first that is refused
unfoldable pub registered_all : ℕ → MemoryMap → List Claim → Registered
registered_all p m [] = answered m (Ok tt)
registered_all p m (c ∷ cs) =
    cond (is_done (registered p m c).answer) (registered_all p (registered p m c).map cs) (registered p m c)

-- "A refused list, tree or build gives back the map as at its call"
unfoldable pub settled : MemoryMap → Registered → Registered
settled m r = cond (is_done r.answer) r (answered m r.answer)
