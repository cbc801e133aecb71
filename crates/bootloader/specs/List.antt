-- The bootloader's list as claims: document 01, "Sources in order".
use Rattle.memory.specs.declared.MapRefusal.TheVariants.{UnknownKind}
use Rattle.entry.specs.declared.BootloaderMemoryKind.{BootloaderMemoryKind}
use Rattle.std.specs.Prelude.{Bool, true, false, cond, ◌&&◌, List, [], ◌∷◌, ℕ, zero, suc, ◌+◌, ◌*◌, ◌/◌, length, Option, Some, None, Err}
use Rattle.words.specs.Little.{eight}
use Rattle.entry.specs.Kind.{kind_of}
use Rattle.entry.specs.declared.Claim.{Claim}
use Rattle.entry.specs.Claim.{claim}
use Rattle.memory.specs.declared.MemoryMap.{MemoryMap}
use Rattle.memory.specs.declared.Registered.{Registered}
use Rattle.memory.specs.Map.{answered}
use Rattle.memory.specs.Run.{registered_all, settled}

-- "24 bytes an entry, little-endian base, size, kind": entry i
abbrev pub claim_at : List ℕ → ℕ → Claim
claim_at l i = claim (eight l (i * 24)) (eight l (i * 24 + 8)) (eight l (i * 24 + 16))

-- n entries of the list, from entry i on
unfoldable pub claims_at : List ℕ → ℕ → ℕ → List Claim
claims_at l zero i = []
claims_at l (suc n) i = claim_at l i ∷ claims_at l n (i + 1)

-- "fewer than 24 left over are not read"
abbrev pub claims : List ℕ → List Claim
claims l = claims_at l (length l / 24) 0

abbrev pub is_known : Option BootloaderMemoryKind → Bool
is_known (Some k) = true
is_known None = false

-- every claim has one of the seven kinds
unfoldable pub all_of : List Claim → Bool
all_of [] = true
all_of (c ∷ cs) = is_known (kind_of c.kind) && all_of cs

abbrev pub all_known : List ℕ → Bool
all_known l = all_of (claims l)

-- the list's call: refusal 1 is checked before 2, and so for the whole list before its first registration
unfoldable pub listed : ℕ → MemoryMap → List ℕ → Registered
listed p m l = cond (all_known l) (settled m (registered_all p m (claims l))) (answered m (Err UnknownKind))
