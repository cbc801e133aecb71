-- The tests on the registrations, read as the rule of demand 3 says them. Assumes nothing.
use Rattle.std.specs.Prelude.{Option, ℕ}
use mathlib.Core.List.{List}
use mathlib.Core.Bool.{not, ◌&&◌}
use Prim.Native.Nat.{ℕ, ◌-◌, ◌*◌, ◌^◌, ◌≤◌, ◌<◌}
use lib.Dec.{eqb, leb, ltb}
use Rattle.page.specs.Round.{down, up}
use Rattle.entry.specs.declared.MemoryEntry.{MemoryEntry}
use Rattle.entry.specs.declared.BootloaderMemoryKind.TheVariants.{Null, Free}
use Rattle.entry.specs.Kind.{number_of}
use Rattle.entry.specs.Entry.{Has}
use Rattle.entry.specs.declared.Claim.{Claim}
use Rattle.entry.specs.Claim.{inward, outward}
use Rattle.runs.specs.Sets.{Some}
use Rattle.areas.specs.Areas.{or_else}
use Rattle.demand3.specs.Rule.{FreeOver, OtherOver}
use Rattle.page_count.specs.Pages.{has, free_over, other_over, any, free_at, taken_at}
use Rattle.page_count.proofs.Reading.{Reads, and_reads, not_reads, leb_reads, ltb_reads, eqb_reads, reads_as, any_reads}

has_reads : (e : MemoryEntry) (x : ℕ) → Reads (has e x) (Has x e)
has_reads e x =
    reads_as (has e x) (and_reads (leb e.start x) (ltb x e.end) (leb_reads e.start x) (ltb_reads x e.end))
    (λ h. record { from = h.0; to = h.1 }, λ h. (h.from, h.to))

module _ (p x : ℕ) (c : Claim) where
  free_reads : Reads (free_over p x c) (FreeOver p x c)
  free_reads =
      reads_as (free_over p x c)
      (and_reads (eqb c.kind (number_of Free)) _ (eqb_reads c.kind (number_of Free))
      (and_reads (not (eqb c.size 0)) (has (inward p c) x) (not_reads (eqb c.size 0) (eqb_reads c.size 0)) (has_reads (inward p c) x)))
      (λ h. record { kind = h.0; sized = h.1.0; covers = h.1.1 }, λ h. (h.kind, (h.sized, h.covers)))

  other_reads : Reads (other_over p x c) (OtherOver p x c)
  other_reads =
      reads_as (other_over p x c)
      (and_reads (not (eqb c.kind (number_of Free))) _ (not_reads (eqb c.kind (number_of Free)) (eqb_reads c.kind (number_of Free)))
      (and_reads (not (eqb c.kind (number_of Null))) _ (not_reads (eqb c.kind (number_of Null)) (eqb_reads c.kind (number_of Null)))
      (and_reads (not (eqb c.size 0)) (has (outward p c) x) (not_reads (eqb c.size 0) (eqb_reads c.size 0)) (has_reads (outward p c) x))))
      (λ h. record { kind = h.0; proper = h.1.0; sized = h.1.1.0; covers = h.1.1.1 }, λ h. (h.kind, (h.proper, (h.sized, h.covers))))

-- an address inside the limits, under a Free registration
pub record FreeThere (p : ℕ) (low high : Option ℕ) (cs : List Claim) (x : ℕ) : Type 0 where
  pub from : up p (or_else low 0) ≤ x
  pub to : x < down p (or_else high (2 ^ 64 - 1))
  pub free : Some (FreeOver p x) cs

pub free_at_reads : (p : ℕ) (low high : Option ℕ) (cs : List Claim) (i : ℕ) → Reads (free_at p low high cs i) (FreeThere p low high cs (i * p))
unfolding free_at
free_at_reads p low high cs i =
    reads_as (leb (up p (or_else low 0)) (i * p) && (ltb (i * p) (down p (or_else high (2 ^ 64 - 1))) && any (free_over p (i * p)) cs))
    (and_reads (leb (up p (or_else low 0)) (i * p)) _ (leb_reads (up p (or_else low 0)) (i * p))
    (and_reads (ltb (i * p) (down p (or_else high (2 ^ 64 - 1)))) _ (ltb_reads (i * p) (down p (or_else high (2 ^ 64 - 1))))
    (any_reads (FreeOver p (i * p)) (free_over p (i * p)) (free_reads p (i * p)) cs)))
    (λ h. record { from = h.0; to = h.1.0; free = h.1.1 }, λ h. (h.from, (h.to, h.free)))

pub taken_at_reads : (p : ℕ) (cs : List Claim) (i : ℕ) → Reads (taken_at p cs i) (Some (OtherOver p (i * p)) cs)
unfolding taken_at
taken_at_reads p cs i = any_reads (OtherOver p (i * p)) (other_over p (i * p)) (other_reads p (i * p)) cs
