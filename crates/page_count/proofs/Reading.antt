-- Tests read as statements: a test that is true exactly where a statement holds, for the tests that page counts are made of, and for `any` over
-- the registrations. Assumes nothing.
use mathlib.Core.Path.{◌≡◌, refl, sym}
use mathlib.Core.List.Memᴰ
use mathlib.Core.List.{List, [], ◌∷◌}
use mathlib.Core.Bool.{Bool, true, false, not, ◌&&◌, ◌||◌}
use mathlib.Core.Logic.{◌⊎◌, inl, inr, ⊎_elim, ◌↔◌}
use Prim.Native.Nat.{ℕ, ◌≤◌, ◌<◌}
use native.Mathlib.Omega.{arith}
use lib.Dec.{eqb, leb, ltb}
use borrow.Author.Tests.{le-leb, leb-true, lt-ltb, ltb-true, eq-eqb, eqb-true}
use Rattle.entry.specs.declared.Claim.{Claim}
use Rattle.runs.specs.Sets.{Some}
use Rattle.page_count.specs.Pages.{any}

-- the test is true exactly where A holds
abbrev pub Reads : Bool → Type 0 → Type 0
Reads b A = (b ≡ true) ↔ A

-- two tests that read alike are one
pub same : {A B : Type 0} (b c : Bool) → Reads b A → Reads c B → A ↔ B → b ≡ c
same b c r s e = go b c (λ t. s.1 (e.0 (r.0 t))) (λ t. r.1 (e.1 (s.0 t)))
  where
    go : (x y : Bool) → (x ≡ true → y ≡ true) → (y ≡ true → x ≡ true) → x ≡ y
    go true y f g = sym (f refl)
    go false true f g = g refl
    go false false f g = refl

-- `false` is never true
pub false_true : {A : Type 0} → false ≡ true → A
false_true e = let z : ◌≡◌ {A = ℕ} 0 1 = cc in let w : ⊥ = omega arith in absurd w

-- ── The parts of a test ──
pub and_reads : {A B : Type 0} (b c : Bool) → Reads b A → Reads c B → Reads (b && c) (A × B)
and_reads true c r s = (λ e. (r.0 refl, s.0 e), λ h. s.1 h.1)
and_reads false c r s = (λ e. false_true e, λ h. r.1 h.0)

pub or_reads : {A B : Type 0} (b c : Bool) → Reads b A → Reads c B → Reads (b || c) (A ⊎ B)
or_reads true c r s = (λ e. inl (r.0 refl), λ h. refl)
or_reads false c r s = (λ e. inr (s.0 e), ⊎_elim (λ a. false_true (r.1 a)) (λ b. s.1 b))

pub not_reads : {A : Type 0} (b : Bool) → Reads b A → Reads (not b) (A → ⊥)
not_reads true r = (λ e. false_true e, λ h. absurd (h (r.0 refl)))
not_reads false r = (λ e a. false_true (r.1 a), λ h. refl)

pub leb_reads : (a b : ℕ) → Reads (leb a b) (a ≤ b)
leb_reads a b = (leb-true a b, le-leb a b)

pub ltb_reads : (a b : ℕ) → Reads (ltb a b) (a < b)
ltb_reads a b = (ltb-true a b, lt-ltb a b)

pub eqb_reads : (a b : ℕ) → Reads (eqb a b) (a ≡ b)
eqb_reads a b = (eqb-true a b, eq-eqb a b)

-- a statement put for another that it is worth
pub reads_as : {A B : Type 0} (b : Bool) → Reads b A → A ↔ B → Reads b B
reads_as b r e = (λ t. e.0 (r.0 t), λ h. r.1 (e.1 h))

-- ── Some registration ──
module _ (P : Claim → Type 0) (t : Claim → Bool) (r : (c : Claim) → Reads (t c) (P c)) where
  pub any_reads : (cs : List Claim) → Reads (any t cs) (Some P cs)
  unfolding any
  any_reads [] = (λ e. false_true e, λ s. absurd (Memᴰ.not-nil s.among))
  any_reads (c ∷ cs) = reads_as (t c || any t cs) (or_reads (t c) (any t cs) (r c) (any_reads cs)) (
    ⊎_elim
        (λ i. record { claim = c; among = Memᴰ.head refl; is = i })
        (λ s. record { claim = s.claim; among = Memᴰ.tail s.among; is = s.is }),
    λ s. ⊎_elim
        (λ e. inl (rw e at s.is))
        (λ m. inr (record { claim = s.claim; among = m; is = s.is }))
        (Memᴰ.cases_cons s.among),
  )
