-- Document 01, "Page sheet": "Usable plus the Free pages inside the limits that a non-Free registration, rounded, covers, counted from the
-- registrations page by page, equals Free."
use Rattle.std.specs.Prelude.{ℕ, zero, suc, ◌*◌, ◌-◌, ◌^◌, List, [], ◌∷◌, Bool, false, cond, not, ◌&&◌, ◌||◌, eqb, leb, ltb, Option}
use Rattle.page.specs.Round.{down, up}
use Rattle.entry.specs.declared.MemoryEntry.{MemoryEntry}
use Rattle.entry.specs.declared.BootloaderMemoryKind.TheVariants.{Null, Free}
use Rattle.entry.specs.Kind.{number_of}
use Rattle.entry.specs.declared.Claim.{Claim}
use Rattle.entry.specs.Claim.{inward, outward}
use Rattle.areas.specs.Areas.{or_else}

-- how many of the numbers below n pass a test
unfoldable pub count_to : ℕ → (ℕ → Bool) → ℕ
count_to zero f = 0
count_to (suc n) f = cond (f n) (suc (count_to n f)) (count_to n f)

-- an entry has the page that begins at x
abbrev pub has : MemoryEntry → ℕ → Bool
has e x = leb e.start x && ltb x e.end

-- "inside some single Free registration rounded inward by itself"
abbrev pub free_over : ℕ → ℕ → Claim → Bool
free_over p x c = eqb c.kind (number_of Free) && (not (eqb c.size 0) && has (inward p c) x)

-- "a non-Free registration, rounded, covers"; "Null or size 0 registers nothing"
abbrev pub other_over : ℕ → ℕ → Claim → Bool
other_over p x c =
    not (eqb c.kind (number_of Free)) && (not (eqb c.kind (number_of Null)) && (not (eqb c.size 0) && has (outward p c) x))

unfoldable pub any : (Claim → Bool) → List Claim → Bool
any t [] = false
any t (c ∷ cs) = t c || any t cs

-- page i is Free, inside the limits
unfoldable pub free_at : ℕ → Option ℕ → Option ℕ → List Claim → ℕ → Bool
free_at p low high cs i =
    leb (up p (or_else low 0)) (i * p) && (ltb (i * p) (down p (or_else high (2 ^ 64 - 1))) && any (free_over p (i * p)) cs)

-- page i is covered by another registration
unfoldable pub taken_at : ℕ → List Claim → ℕ → Bool
taken_at p cs i = any (other_over p (i * p)) cs
