-- Areas less a claim: which addresses are left, that the areas still ascend and are whole pages, and which stay as they are. For every
-- page size. Assumes nothing.
use Rattle.std.specs.Prelude.{Ok}
use mathlib.Core.Path.{◌≡◌, refl}
use mathlib.Core.Bool.{Bool, true, false, cond, ◌||◌}
use mathlib.Core.List.{List, Memᴰ}
use mathlib.Core.Logic.{◌↔◌, ◌⊎◌, inl, inr}
use Prim.Native.Nat.{ℕ, ◌≤◌, ◌<◌}
use native.Mathlib.Omega.{arith}
use lib.Dec.{eqb, leb}
use borrow.Author.Tests.{eqb-true, eqb-false, leb-true, leb-false}
use Rattle.page.specs.Round.{top, Aligned, Page}
use Rattle.entry.specs.declared.BootloaderMemoryKind.TheVariants.{Null}
use Rattle.entry.specs.Kind.{number_of, IsKind}
use Rattle.entry.specs.declared.Claim.{Claim}
use Rattle.entry.specs.Claim.{rounded}
use Rattle.entry.proofs.ClaimLaws.{rounded_from, rounded_to, rounded_low}
use Rattle.memory.specs.declared.MemoryMap.{MemoryMap}
use Rattle.memory.specs.declared.Registered.{Registered}
use Rattle.memory.specs.Map.{Something, nothing, answered, registered}
use Rattle.memory.proofs.MapLaws.{Way, no_kind, no_page, new_page, registered_way}
use Rattle.areas.specs.declared.Interval.{Interval}
use Rattle.areas.specs.Interval.{Listed, Ascending}
use Rattle.areas.specs.Areas.{span}
use Rattle.areas.specs.Shape.{WholePages, Shape}
use Rattle.areas.specs.Steps.{Solid}
use Rattle.areas.proofs.Lists.{le_or_lt}
use Rattle.lent_table.specs.Less.{less}
use Rattle.lent_table.proofs.LessLaws.{above_solid, less_listed, less_ascends, less_keeps, less_edges}
use Rattle.late_claim.specs.Late.{less_claim}
use Rattle.late_theorems.specs.Takes.{Takes, Untouched}

-- ── Claims that register nothing ──
-- whether a claim registers nothing, as what it says
pub nothing_ways : (p : ℕ) (c : Claim) (P : Bool → Type 0) → ((Something p c → ⊥) → P true) → ((IsKind c.kind → Something p c) → P false) → P (nothing p c)
unfolding nothing
nothing_ways p c P f g =
    go (eqb c.kind (number_of Null)) (eqb c.size 0) (leb (rounded p c).end (rounded p c).start) refl refl refl
  where
    go : (t u v : Bool) → eqb c.kind (number_of Null) ≡ t → eqb c.size 0 ≡ u → leb (rounded p c).end (rounded p c).start ≡ v → P (t || (u || v))
    go true u v e h k = f (λ s. s.proper (eqb-true _ _ e))
    go false true v e h k = f (λ s. s.sized (eqb-true _ _ h))
    go false false true e h k = f (λ s. omega (arith, leb-true (rounded p c).end (rounded p c).start k, s.some))
    go false false false e h k = g (λ i. record { known = i; proper = eqb-false _ _ e; sized = eqb-false _ _ h; some = leb-false _ _ k })

-- such a claim is done and leaves the map
pub registers_nothing : (p : ℕ) (m : MemoryMap) (c : Claim) → IsKind c.kind → (Something p c → ⊥) → registered p m c ≡ answered m (Ok tt)
registers_nothing p m c known n = go (registered p m c) (registered_way p m c)
  where
    go : (r : Registered) → Way p m c r → r ≡ answered m (Ok tt)
    go r (no_kind i) = absurd (i known)
    go r (no_page i j) = refl
    go r (new_page s) = absurd (n s)

-- ── Areas less a claim ──
-- two nonempty intervals that share no address lie one after the other
aside : (a b c d : ℕ) → a < b → c < d → ((x : ℕ) → a ≤ x → x < b → c ≤ x → x < d → ⊥) → (b ≤ c) ⊎ (d ≤ a)
aside a b c d some solid off = go (le_or_lt b c) (le_or_lt d a) (le_or_lt a c)
  where
    go : (b ≤ c) ⊎ (c < b) → (d ≤ a) ⊎ (a < d) → (a ≤ c) ⊎ (c < a) → (b ≤ c) ⊎ (d ≤ a)
    go (inl h) k j = inl h
    go (inr h) (inl k) j = inr k
    go (inr h) (inr k) (inl j) = absurd (off c j h (omega arith) solid)
    go (inr h) (inr k) (inr j) = absurd (off a (omega arith) some (omega arith) k)

module _ (p : ℕ) (c : Claim) (known : IsKind c.kind) where
  pub claim_ascends : (l : List Interval) → Ascending l → Ascending (less_claim p c l)
  unfolding less_claim
  claim_ascends l h =
      nothing_ways p c (λ t. Ascending (cond t l (less (span (rounded p c)) l))) (λ n. h) (λ f. less_ascends (span (rounded p c)) (f known).some l h)

  -- "its areas less the rounded claim"
  pub claim_listed : (l : List Interval) → Solid l → (x : ℕ) → Listed x (less_claim p c l) ↔ (Listed x l × (Takes p x c → ⊥))
  unfolding less_claim
  claim_listed l s x =
      nothing_ways p c (λ t. Listed x (cond t l (less (span (rounded p c)) l)) ↔ (Listed x l × (Takes p x c → ⊥)))
      (λ n. (λ i. (i, λ t. n t.something), λ h. h.0))
      (λ f. let r = less_listed (span (rounded p c)) (f known).some x l s in (
        λ i. let t = r.0 i in (t.0, λ u. t.1 u.inside),
        λ h. r.1 (h.0, λ i. h.1 (record { something = f known; inside = i })),
      ))

  -- "An area that the claim does not overlap keeps its base and size"
  pub claim_keeps : (l : List Interval) → Solid l → (q : Interval) → Memᴰ q l → q.lo < q.hi → Untouched p c q → Memᴰ q (less_claim p c l)
  unfolding less_claim
  claim_keeps l s q i some off =
      nothing_ways p c (λ t. Memᴰ q (cond t l (less (span (rounded p c)) l)))
      (λ n. i)
      (λ f. less_keeps (span (rounded p c)) (f known).some l s q i
      (aside q.lo q.hi (rounded p c).start (rounded p c).end some (f known).some
      (λ x u v w z. off x (u, v) (record { something = f known; inside = (w, z) }))))

  claim_pages : Page p → (l : List Interval) → Shape p l → (r : Interval) → Memᴰ r (less_claim p c l) → WholePages p r
  unfolding less_claim
  claim_pages g l h =
      nothing_ways p c (λ t. (r : Interval) → Memᴰ r (cond t l (less (span (rounded p c)) l)) → WholePages p r)
      (λ n. h.pages)
      (λ f r i.
      let e = less_edges (span (rounded p c)) (f known).some (Aligned p) (λ b. Aligned p b × (b ≤ top p))
      (rounded_from p c g, omega (arith, (f known).some, rounded_low p c g)) (rounded_to p c g) l (above_solid l 0 h.ascend)
      (λ q j. let w = h.pages q j in (w.from, (w.to, w.low))) r i in
      record { from = e.0; to = e.1.0; low = e.1.1 })

  -- what is left has the shape of a table
  pub claim_shape : Page p → (l : List Interval) → Shape p l → Shape p (less_claim p c l)
  claim_shape g l h = record { ascend = claim_ascends l h.ascend; pages = claim_pages g l h }
