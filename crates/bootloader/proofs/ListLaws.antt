-- The bootloader's list, judged and registered, counted as the code counts: by the number n of entries. Assumes nothing.
use Rattle.memory.specs.declared.MapRefusal.TheVariants.{UnknownKind}
use Rattle.entry.specs.declared.BootloaderMemoryKind.{BootloaderMemoryKind}
use Rattle.std.specs.Prelude.{Option, Ok, Err}
use mathlib.Core.Path.{◌≡◌}
use mathlib.Core.Bool.{true, false}
use mathlib.Core.List.{List}
use Prim.Native.Nat.{ℕ, suc, ◌+◌, ◌-◌, ◌<◌, ◌≤◌}
use native.Mathlib.Omega.{arith}
use Rattle.page.specs.Round.{Page}
use Rattle.entry.specs.Kind.{kind_of}
use Rattle.memory.specs.declared.MemoryMap.{MemoryMap}
use Rattle.memory.specs.declared.Registered.{Registered}
use Rattle.memory.specs.Map.{answered, registered}
use Rattle.memory.specs.Made.{Made}
use Rattle.memory.specs.Run.{is_done, registered_all, settled}
use Rattle.bootloader.specs.List.{claim_at, claims_at, is_known, all_of, all_known, claims, listed}
use Rattle.memory.proofs.RunLaws.{cond_made, all_made, settled_made}

more : (n i : ℕ) → i < n → n - i ≡ suc (n - (i + 1))
more n i h = omega arith

-- ── Judging the kinds ──
pub known_done : (l : List ℕ) (n i : ℕ) → n ≤ i → all_of (claims_at l (n - i) i) ≡ true
unfolding all_of claims_at
known_done l n i h = let e : n - i ≡ 0 = omega arith in rw e

pub known_step : (l : List ℕ) (n i : ℕ) (r : Option BootloaderMemoryKind) → i < n → r ≡ kind_of (claim_at l i).kind → is_known r ≡ true
    → all_of (claims_at l (n - i) i) ≡ all_of (claims_at l (n - (i + 1)) (i + 1))
unfolding all_of claims_at
known_step l n i r h e k = rw (more n i h, ← e, k)

pub known_stop : (l : List ℕ) (n i : ℕ) (r : Option BootloaderMemoryKind) → i < n → r ≡ kind_of (claim_at l i).kind → is_known r ≡ false
    → all_of (claims_at l (n - i) i) ≡ false
unfolding all_of claims_at
known_stop l n i r h e k = rw (more n i h, ← e, k)

-- ── Registering them ──
pub all_done : (p : ℕ) (m : MemoryMap) (l : List ℕ) (n i : ℕ) → n ≤ i → registered_all p m (claims_at l (n - i) i) ≡ answered m (Ok tt)
unfolding registered_all claims_at
all_done p m l n i h = let e : n - i ≡ 0 = omega arith in rw e

-- r is what registering entry i gives
pub all_step : (p : ℕ) (m : MemoryMap) (l : List ℕ) (n i : ℕ) (r : Registered) → i < n → r ≡ registered p m (claim_at l i) → is_done r.answer ≡ true
    → registered_all p m (claims_at l (n - i) i) ≡ registered_all p r.map (claims_at l (n - (i + 1)) (i + 1))
unfolding registered_all claims_at
all_step p m l n i r h e a = rw (more n i h, ← e, a)

pub all_stop : (p : ℕ) (m : MemoryMap) (l : List ℕ) (n i : ℕ) (r : Registered) → i < n → r ≡ registered p m (claim_at l i) → is_done r.answer ≡ false
    → registered_all p m (claims_at l (n - i) i) ≡ r
unfolding registered_all claims_at
all_stop p m l n i r h e a = rw (more n i h, ← e, a)

pub listed_unknown : (p : ℕ) (m : MemoryMap) (l : List ℕ) → all_known l ≡ false → listed p m l ≡ answered m (Err UnknownKind)
unfolding listed
listed_unknown p m l e = rw e

pub listed_known : (p : ℕ) (m : MemoryMap) (l : List ℕ) → all_known l ≡ true → listed p m l ≡ settled m (registered_all p m (claims l))
unfolding listed
listed_known p m l e = rw e

-- ── The list makes a map again ──
pub listed_made : (p : ℕ) (m : MemoryMap) (l : List ℕ) → Page p → Made p m → Made p (listed p m l).map
unfolding listed
listed_made p m l g h = cond_made p (all_known l) _ _ (settled_made p m _ h (all_made p m (claims l) g h)) h
