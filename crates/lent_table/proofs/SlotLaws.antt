-- One slot: its two numbers read and stored where it is known what stands before and after them, as numbers and as an area. Assumes nothing.
use mathlib.Core.Path.{◌≡◌, ap, ap₂, ◌∙◌}
use mathlib.Core.List.{List, ◌∷◌, ◌++◌}
use Prim.Native.Nat.{ℕ, ◌+◌, ◌-◌}
use native.Mathlib.Omega.{arith}
use lib.ListN.{length, get_or, set, drop}
use lib.Seq.{drop_at}
use Rattle.areas.specs.declared.Interval.{Interval}
use Rattle.areas.specs.Table.{flat}
use Rattle.areas.proofs.Writing.{get_past, set_past, get_here, set_here, flat_length}
use Rattle.lent_table.specs.Table.{table_in}
use Rattle.lent_table.specs.Steps.{Upward}
use Rattle.lent_table.proofs.TableLaws.{from_slot, flat_reads}

-- ── As two numbers ──
module _ (l : List ℕ) (k : ℕ) (a : List ℕ) (u v : ℕ) (b : List ℕ) (la : length a ≡ k + k) (e : l ≡ a ++ (u ∷ v ∷ b)) where
  pub get_base : get_or l (k + k) 0 ≡ u
  get_base = rw e (get_here a (u ∷ v ∷ b) (k + k) la)

  pub get_size : get_or l (k + k + 1) 0 ≡ v
  get_size = rw e (get_past a (u ∷ v ∷ b) (k + k) la 1)

  pub set_second : (w : ℕ) → set l (k + k + 1) w ≡ a ++ (u ∷ w ∷ b)
  set_second w = rw e (set_past a (u ∷ v ∷ b) (k + k) la 1 w)

  pub set_slot : (t w : ℕ) → set (set l (k + k) t) (k + k + 1) w ≡ a ++ (t ∷ w ∷ b)
  set_slot t w =
      rw e (ap (λ (m : List ℕ). set m (k + k + 1) w) (set_here a (u ∷ v ∷ b) (k + k) la t) ∙ set_past a (t ∷ v ∷ b) (k + k) la 1 w)

-- ── As an area ──
pub double : (pre : List Interval) (j : ℕ) → length pre ≡ j → length (flat pre) ≡ j + j
double pre j e = omega (arith, flat_length pre)

-- the areas from slot i on
module _ (l : List ℕ) (i n : ℕ) (pre xs : List Interval) (post : List ℕ) (lp : length pre ≡ i) (ln : i + length xs ≡ n) (e : l ≡ flat pre ++ (flat xs ++ post)) where
  pub here : Upward xs → from_slot l n i ≡ xs
  here u =
      let c : n - i ≡ length xs = omega arith in
      ap₂ (λ (k : ℕ) (m : List ℕ). table_in k m) c (ap (λ (m : List ℕ). drop (i + i) m) e ∙ drop_at (flat pre) (flat xs ++ post) (i + i) (double pre i lp))
      ∙ flat_reads xs post u

-- the base and the size in slot i, and stores to both
module _ (l : List ℕ) (i : ℕ) (pre : List Interval) (r : Interval) (more : List Interval) (post : List ℕ) (lp : length pre ≡ i) (e : l ≡ flat pre ++ (flat (r ∷ more) ++ post)) where
  pub base_is : get_or l (i + i) 0 ≡ r.lo
  unfolding flat
  base_is = get_base l i (flat pre) r.lo (r.hi - r.lo) (flat more ++ post) (double pre i lp) e

  pub size_is : get_or l (i + i + 1) 0 ≡ r.hi - r.lo
  unfolding flat
  size_is = get_size l i (flat pre) r.lo (r.hi - r.lo) (flat more ++ post) (double pre i lp) e

  pub set_size : (v : ℕ) → set l (i + i + 1) v ≡ flat pre ++ (r.lo ∷ v ∷ (flat more ++ post))
  unfolding flat
  set_size = set_second l i (flat pre) r.lo (r.hi - r.lo) (flat more ++ post) (double pre i lp) e

  pub set_both : (u v : ℕ) → set (set l (i + i) u) (i + i + 1) v ≡ flat pre ++ (u ∷ v ∷ (flat more ++ post))
  unfolding flat
  set_both = set_slot l i (flat pre) r.lo (r.hi - r.lo) (flat more ++ post) (double pre i lp) e
