-- Laws on cell counts: a value states a count exactly if it has 4 bytes; a number takes at most 8 bytes, and none exactly if its count is
-- faulty or is stated and not 1 or 2. Assumes nothing.
use mathlib.Core.Path.{◌≡◌, refl}
use Prim.Native.Nat.{ℕ, ◌≤◌}
use native.Mathlib.Omega.{arith}
use mathlib.Core.List.{List}
use mathlib.Core.Logic.{◌↔◌, inl, inr}
use lib.ListN.{length}
use lib.Dec.{eqb}
use borrow.Author.Tests.{eq-eqb, ne_eqb}
use Rattle.words.specs.Bytes.{word}
use Rattle.words.proofs.BytesLaws.{never, cond_elim}
use Rattle.cells.specs.declared.CellCount.{CellCount}
use Rattle.cells.specs.declared.CellCount.TheVariants.{Stated, Absent, Faulty}
use Rattle.cells.specs.Count.{stated_by, cell_bytes, width_by, address_width, size_width, Unfit}

-- ── A stated count ──
module _ (v : List ℕ) where
  pub stated_is : length v ≡ 4 → stated_by v ≡ Stated (word v 0)
  unfolding stated_by
  stated_is h = rw (eq-eqb _ _ h)

  pub stated_not : (length v ≡ 4 → ⊥) → stated_by v ≡ Faulty
  unfolding stated_by
  stated_not n = rw (ne_eqb _ _ n)

  pub stated_faulty : stated_by v ≡ Faulty ↔ (length v ≡ 4 → ⊥)
  stated_faulty = (λ e h. let u = stated_is h in never (cc), stated_not)

-- ── Its bytes ──
module _ (c : ℕ) where
  pub cell_one : c ≡ 1 → cell_bytes c ≡ 4
  unfolding cell_bytes
  cell_one h = rw h

  pub cell_two : c ≡ 2 → cell_bytes c ≡ 8
  unfolding cell_bytes
  cell_two h = rw h

  pub cell_other : (c ≡ 1 → ⊥) → (c ≡ 2 → ⊥) → cell_bytes c ≡ 0
  unfolding cell_bytes
  cell_other h g = rw (ne_eqb _ _ h, ne_eqb _ _ g)

  pub cell_small : cell_bytes c ≤ 8
  unfolding cell_bytes
  cell_small =
      cond_elim (λ (x : ℕ). x ≤ 8) (eqb c 1) _ _ (λ e. omega arith)
      (λ e. cond_elim (λ (x : ℕ). x ≤ 8) (eqb c 2) _ _ (λ u. omega arith) (λ u. omega arith))

  pub cell_none : cell_bytes c ≡ 0 → (c ≡ 1 → ⊥) × (c ≡ 2 → ⊥)
  cell_none h = (λ e. omega (arith, cell_one e), λ e. omega (arith, cell_two e))

-- ── A number's bytes ──
pub width_small : (c : CellCount) (missing : ℕ) → width_by c missing ≤ 8
width_small (Stated c) missing = cell_small c
width_small Absent missing = cell_small missing
width_small Faulty missing = omega arith

module _ (missing : ℕ) (some : cell_bytes missing ≡ 0 → ⊥) where
  none_unfit : (c : CellCount) → width_by c missing ≡ 0 → Unfit c
  none_unfit (Stated k) h = let n = cell_none k h in inr (k, refl, n.0, n.1)
  none_unfit Absent h = absurd (some h)
  none_unfit Faulty h = inl refl

  unfit_none : (c : CellCount) → Unfit c → width_by c missing ≡ 0
  unfit_none c (inl e) = rw e
  unfit_none c (inr (k, e, h, g)) = rw e (cell_other k h g)

  pub width_none : (c : CellCount) → width_by c missing ≡ 0 ↔ Unfit c
  width_none c = (none_unfit c, unfit_none c)

pub address_none : (c : CellCount) → address_width c ≡ 0 ↔ Unfit c
address_none = width_none 2 (λ h. omega (arith, cell_two 2 refl))

pub size_none : (c : CellCount) → size_width c ≡ 0 ↔ Unfit c
size_none = width_none 1 (λ h. omega (arith, cell_one 1 refl))
