-- The number in the first cells of some bytes, by the bytes that the cells take: there is one exactly if cells are 1 or 2 and so many bytes
-- are there, and then it is the number in the first of them. Assumes nothing.
use mathlib.Core.Path.{◌≡◌, refl}
use Prim.Native.Nat.{ℕ, ◌*◌, ◌≤◌, ◌<◌}
use native.Mathlib.Omega.{arith}
use mathlib.Core.List.{List}
use mathlib.Core.Bool.{Bool, true, false, cond}
use mathlib.Core.Logic.{◌⊎◌, inl, inr}
use lib.ListN.{length}
use lib.Dec.{eqb, leb}
use borrow.Author.Tests.{ne_eqb, le-leb, lt-leb, eqb-true, eqb-false, leb-true, leb-false}
use Rattle.std.specs.Prelude.{Option, Some, None}
use Rattle.words.specs.Bytes.{word, double}
use Rattle.words.proofs.BytesLaws.{never, cond_elim}
use Rattle.cells.specs.Count.{cell_bytes}
use Rattle.cells.specs.Rows.{number_at}
use Rattle.reserved.specs.Number.{cells_number}

-- cells that take bytes take four each, and are at most two
four_each : (c : ℕ) → (cell_bytes c ≡ 0 → ⊥) → (cell_bytes c ≡ c * 4) × (c ≤ 2)
unfolding cell_bytes
four_each c =
    cond_elim (λ (x : ℕ). (x ≡ 0 → ⊥) → (x ≡ c * 4) × (c ≤ 2)) (eqb c 1) _ _
    (λ e o. let h : c ≡ 1 = eqb-true _ _ e in (omega arith, omega arith))
    (λ e. cond_elim (λ (x : ℕ). (x ≡ 0 → ⊥) → (x ≡ c * 4) × (c ≤ 2)) (eqb c 2) _ _
    (λ u o. let h : c ≡ 2 = eqb-true _ _ u in (omega arith, omega arith))
    (λ u o. absurd (o refl)))

module _ (v : List ℕ) (c : ℕ) where
  by_width : cells_number v c ≡ cond (eqb (cell_bytes c) 0) None (cond (leb (cell_bytes c) (length v)) (Some (number_at v (cell_bytes c) 0)) None)
  unfolding cells_number cell_bytes
  by_width = go (eqb c 1) (eqb c 2)
    where
      go : (p q : Bool)
          → cond p (cond (leb 4 (length v)) (Some (word v 0)) None) (cond q (cond (leb 8 (length v)) (Some (double v 0)) None) None)
          ≡ cond (eqb (cond p 4 (cond q 8 0)) 0) None
          (cond (leb (cond p 4 (cond q 8 0)) (length v)) (Some (number_at v (cond p 4 (cond q 8 0)) 0)) None)
      go true q = refl
      go false true = refl
      go false false = refl

  -- each answer by the bytes in hand
  module _ (w : ℕ) (e : cell_bytes c ≡ w) where
    pub number_none : w ≡ 0 → None ≡ cells_number v c
    number_none h = rw (by_width, e, h)

    pub number_short : length v < w → None ≡ cells_number v c
    number_short h = let o : w ≡ 0 → ⊥ = λ z. omega arith in rw (by_width, e, ne_eqb _ _ o, lt-leb _ _ h)

    pub number_is : (w ≡ 0 → ⊥) → w ≤ length v → (n : ℕ) → n ≡ number_at v w 0 → Some n ≡ cells_number v c
    number_is o h n i = rw (by_width, e, ne_eqb _ _ o, le-leb _ _ h, i)

  -- what an answer in hand says
  module _ (m : Option ℕ) (is : m ≡ cells_number v c) where
    pub number_missing : m ≡ None → (cell_bytes c ≡ 0) ⊎ (length v < cell_bytes c)
    number_missing h = go (eqb (cell_bytes c) 0) refl (leb (cell_bytes c) (length v)) refl
      where
        go : (p : Bool) → eqb (cell_bytes c) 0 ≡ p → (q : Bool) → leb (cell_bytes c) (length v) ≡ q
            → (cell_bytes c ≡ 0) ⊎ (length v < cell_bytes c)
        go true e q u = inl (eqb-true _ _ e)
        go false e true u = let i = number_is _ refl (eqb-false _ _ e) (leb-true _ _ u) _ refl in never (cc)
        go false e false u = inr (leb-false _ _ u)

    pub number_read : (n : ℕ) → m ≡ Some n → (cell_bytes c ≡ c * 4) × (c ≤ 2) × (n ≡ number_at v (cell_bytes c) 0)
    number_read n h = go (eqb (cell_bytes c) 0) refl (leb (cell_bytes c) (length v)) refl
      where
        go : (p : Bool) → eqb (cell_bytes c) 0 ≡ p → (q : Bool) → leb (cell_bytes c) (length v) ≡ q
            → (cell_bytes c ≡ c * 4) × (c ≤ 2) × (n ≡ number_at v (cell_bytes c) 0)
        go true e q u = let i = number_none _ refl (eqb-true _ _ e) in never (cc)
        go false e true u =
            let o : cell_bytes c ≡ 0 → ⊥ = eqb-false _ _ e in
            let i = number_is _ refl o (leb-true _ _ u) _ refl in
            let w = four_each c o in
            (w.0, w.1, cc)
        go false e false u = let i = number_short _ refl (leb-false _ _ u) in never (cc)
