-- What a caller asks to register, and the pages that this covers: document 01, "Rounding and the map".
use Rattle.std.specs.Prelude.{cond, ℕ, eqb}
use Rattle.page.specs.Round.{down, up, ending}
use Rattle.entry.specs.declared.MemoryEntry.{MemoryEntry}
use Rattle.entry.specs.declared.Claim.{Claim}
use Rattle.entry.specs.declared.BootloaderMemoryKind.TheVariants.{Free}
use Rattle.entry.specs.Kind.{number_of}
use Rattle.entry.specs.Entry.{entry}

-- one registration: base, size and the number of a kind
abbrev pub claim : ℕ → ℕ → ℕ → Claim
claim base size kind = record { base = base; size = size; kind = kind }

-- "Free rounds start up and end down": inward
unfoldable pub inward : ℕ → Claim → MemoryEntry
inward p c = entry (up p c.base) (down p (ending c.base c.size)) c.kind

-- "every other kind rounds start down and end up": outward
unfoldable pub outward : ℕ → Claim → MemoryEntry
outward p c = entry (down p c.base) (up p (ending c.base c.size)) c.kind

unfoldable pub rounded : ℕ → Claim → MemoryEntry
rounded p c = cond (eqb c.kind (number_of Free)) (inward p c) (outward p c)
