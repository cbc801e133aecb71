-- What a run of registrations keeps. Assumes nothing.
use mathlib.Core.Path.{◌≡◌}
use mathlib.Core.Bool.{Bool, true, false, cond}
use mathlib.Core.List.{List, [], ◌∷◌}
use Rattle.std.specs.Prelude.{Ok}
use Prim.Native.Nat.{ℕ, ◌+◌, ◌≤◌, ◌<◌}
use native.Mathlib.Numerals.{add-one}
use lib.ListN.{length, get_or, drop, drop_of_length-le}
use lib.Seq.{drop-cons}
use Rattle.page.specs.Round.{Page}
use Rattle.entry.specs.declared.Claim.{Claim}
use Rattle.memory.specs.declared.MemoryMap.{MemoryMap}
use Rattle.memory.specs.declared.Registered.{Registered}
use Rattle.memory.specs.Map.{answered, registered}
use Rattle.memory.specs.Made.{Made}
use Rattle.memory.specs.Run.{is_done, registered_all, settled}
use Rattle.memory.proofs.MapLaws.{registered_made}

pub settled_done : (m : MemoryMap) (r : Registered) → is_done r.answer ≡ true → settled m r ≡ r
unfolding settled
settled_done m r e = rw e

pub settled_refused : (m : MemoryMap) (r : Registered) → is_done r.answer ≡ false → settled m r ≡ answered m r.answer
unfolding settled
settled_refused m r e = rw e

-- ── What is left of a list, counted as a loop over it counts ──
-- the default of a look-up never shows
abbrev pub claim_none : Claim
claim_none = record { base = 0; size = 0; kind = 0 }

module _ (p : ℕ) (m : MemoryMap) (cs : List Claim) (i : ℕ) where
  pub left_none : length cs ≤ i → registered_all p m (drop i cs) ≡ answered m (Ok tt)
  unfolding registered_all
  left_none h = rw (drop_of_length-le cs h)

  -- r is what registering claim i gives
  module _ (r : Registered) (h : i < length cs) (e : r ≡ registered p m (get_or cs i claim_none)) where
    pub left_goes : is_done r.answer ≡ true → registered_all p m (drop i cs) ≡ registered_all p r.map (drop (i + 1) cs)
    unfolding registered_all
    left_goes a = rw (drop-cons cs i claim_none h, ← e, a, add-one i)

    pub left_stops : is_done r.answer ≡ false → registered_all p m (drop i cs) ≡ r
    unfolding registered_all
    left_stops a = rw (drop-cons cs i claim_none h, ← e, a)

-- every source makes a map again
pub cond_made : (p : ℕ) (t : Bool) (a b : Registered) → Made p a.map → Made p b.map → Made p (cond t a b).map
cond_made p true a b x y = x
cond_made p false a b x y = y

pub all_made : (p : ℕ) (m : MemoryMap) (cs : List Claim) → Page p → Made p m → Made p (registered_all p m cs).map
unfolding registered_all
all_made p m [] g h = h
all_made p m (c ∷ cs) g h =
    cond_made p (is_done (registered p m c).answer) _ _ (all_made p (registered p m c).map cs g (registered_made p m c g h)) (registered_made p m c g h)

pub settled_made : (p : ℕ) (m : MemoryMap) (r : Registered) → Made p m → Made p r.map → Made p (settled m r).map
unfolding settled
settled_made p m r g h = cond_made p (is_done r.answer) _ _ h g
