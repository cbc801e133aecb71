-- A number is given exactly when its case is: the law by which a theorem on a refusal's case becomes one on its number. Assumes nothing.
use mathlib.Core.Path.{◌≡◌, sym, ◌∙◌, ap}
use mathlib.Core.Logic.{◌↔◌, ⊎_elim}
use Prim.Native.Nat.{ℕ}
use Rattle.numbers.specs.Number.{Names}

module _ {A : Type 0} {number : A → ℕ} (n : Names number) where
  -- an answer with a refusal's number is that refusal
  pub refusal : (c a : A) → (number c ≡ 0 → ⊥) → number a ≡ number c → a ≡ c
  refusal c a f h =
      ⊎_elim (λ z. absurd (f (sym h ∙ z)))
      (λ x. ⊎_elim (λ z. absurd (f z)) (λ y. sym x ∙ ap n.back h ∙ y) (n.named c))
      (n.named a)

  -- "Given exactly when"
  pub given : (c : A) {a : A} {When : Type 0} → (number c ≡ 0 → ⊥) → (a ≡ c) ↔ When → (number a ≡ number c) ↔ When
  given c {a} f w = (λ h. w.0 (refusal c a f h), λ h. ap number (w.1 h))
