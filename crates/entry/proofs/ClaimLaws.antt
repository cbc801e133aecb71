-- The two ways that a claim is rounded, and what it is then. Assumes nothing.
use mathlib.Core.Path.{◌≡◌, refl}
use mathlib.Core.Bool.{Bool, true, false}
use Prim.Native.Nat.{ℕ, ◌≤◌}
use lib.Dec.{eqb}
use borrow.Author.Tests.{eq-eqb, ne_eqb, eqb-true, eqb-false}
use Rattle.page.specs.Round.{top, Aligned, Page}
use Rattle.page.proofs.Laws.{down_aligned, up_aligned, up_le_top, ending_low}
use Rattle.entry.specs.declared.MemoryEntry.{MemoryEntry}
use Rattle.entry.specs.declared.BootloaderMemoryKind.TheVariants.{Free}
use Rattle.entry.specs.Kind.{number_of}
use Rattle.entry.specs.declared.Claim.{Claim}
use Rattle.entry.specs.Claim.{inward, outward, rounded}

pub free_inward : (p : ℕ) (c : Claim) → c.kind ≡ number_of Free → rounded p c ≡ inward p c
unfolding rounded
free_inward p c e = rw (eq-eqb _ _ e)

pub other_outward : (p : ℕ) (c : Claim) → (c.kind ≡ number_of Free → ⊥) → rounded p c ≡ outward p c
unfolding rounded
other_outward p c n = rw (ne_eqb _ _ n)

-- a fact of what is rounded, from the two cases
pub rounded_ways : (p : ℕ) (c : Claim) (P : MemoryEntry → Type 0)
    → (c.kind ≡ number_of Free → P (inward p c)) → ((c.kind ≡ number_of Free → ⊥) → P (outward p c)) → P (rounded p c)
rounded_ways p c P f g = go (eqb c.kind (number_of Free)) refl
  where
    go : (t : Bool) → eqb c.kind (number_of Free) ≡ t → P (rounded p c)
    go true e = rw (free_inward p c (eqb-true _ _ e)) (f (eqb-true _ _ e))
    go false e = rw (other_outward p c (eqb-false _ _ e)) (g (eqb-false _ _ e))

pub rounded_kind : (p : ℕ) (c : Claim) → (rounded p c).kind ≡ c.kind
unfolding inward outward
rounded_kind p c = rounded_ways p c (λ e. e.kind ≡ c.kind) (λ e. refl) (λ e. refl)

-- whole pages, that end at the last page's start at most
pub rounded_from : (p : ℕ) (c : Claim) → Page p → Aligned p (rounded p c).start
unfolding inward outward
rounded_from p c g = rounded_ways p c (λ e. Aligned p e.start) (λ e. up_aligned p _ g) (λ e. down_aligned p _)

pub rounded_to : (p : ℕ) (c : Claim) → Page p → Aligned p (rounded p c).end
unfolding inward outward
rounded_to p c g = rounded_ways p c (λ e. Aligned p e.end) (λ e. down_aligned p _) (λ e. up_aligned p _ g)

pub rounded_low : (p : ℕ) (c : Claim) → Page p → (rounded p c).end ≤ top p
unfolding inward outward
rounded_low p c g = rounded_ways p c (λ e. e.end ≤ top p) (λ e. ending_low p _ _ g) (λ e. up_le_top p _ g)
