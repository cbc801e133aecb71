-- Going through the areas once: what it comes to in each way that the first area past the range's start lies, how many areas it leaves, and
-- that it leaves the areas less the range where they ascend. Assumes nothing.
use mathlib.Core.Path.{◌≡◌, refl, ap, sym, ◌∙◌}
use mathlib.Core.List.{List, [], ◌∷◌, ◌++◌}
use mathlib.Core.Bool.{Bool, true, false, cond}
use mathlib.Core.Logic.{inl, ⊎_elim}
use Prim.Native.Nat.{ℕ, suc, ◌≤◌, ◌<◌}
use native.Mathlib.Omega.{arith}
use native.Mathlib.Nat.{le_refl}
use lib.Dec.{leb}
use lib.ListN.{length, take, drop, length-append, take-append-drop}
use borrow.Author.Tests.{le-leb, lt-leb, leb-true, leb-false}
use Rattle.areas.specs.declared.Interval.{Interval}
use Rattle.areas.specs.Interval.{interval, Above, Ascending}
use Rattle.areas.proofs.Lists.{le_or_lt}
use Rattle.lent_table.specs.Less.{less}
use Rattle.lent_table.specs.Edit.{lead, above, cut_here, cut_from}
use Rattle.lent_table.proofs.LessLaws.{less_nil, less_after, less_rest, cons_off, cons_left, cons_split}
use Rattle.lent_table.proofs.Trimming.{above_length}

pub cut_at : (c : Interval) (xs : List Interval) (i : ℕ) → i ≡ lead c.lo xs → cut_from c xs ≡ take i xs ++ cut_here c (drop i xs)
unfolding cut_from
cut_at c xs i e = rw e

-- ── Where the first area lies ──
module _ (c : Interval) where
  pub here_nil : cut_here c [] ≡ []
  unfolding cut_here
  here_nil = refl

  module _ (r : Interval) (l : List Interval) where
    pub here_after : c.hi ≤ r.lo → cut_here c (r ∷ l) ≡ r ∷ l
    unfolding cut_here
    here_after h = rw (le-leb c.hi r.lo h)

    module _ (h : r.lo < c.hi) where
      pub here_inside : c.lo ≤ r.lo → cut_here c (r ∷ l) ≡ above c.hi (r ∷ l)
      unfolding cut_here
      here_inside k = rw (lt-leb c.hi r.lo h, le-leb c.lo r.lo k)

      module _ (k : r.lo < c.lo) where
        pub here_left : r.hi ≤ c.hi → cut_here c (r ∷ l) ≡ interval r.lo c.lo ∷ above c.hi l
        unfolding cut_here
        here_left e = rw (lt-leb c.hi r.lo h, lt-leb c.lo r.lo k, le-leb r.hi c.hi e)

        pub here_two : c.hi < r.hi → cut_here c (r ∷ l) ≡ interval r.lo c.lo ∷ interval c.hi r.hi ∷ l
        unfolding cut_here
        here_two e = rw (lt-leb c.hi r.lo h, lt-leb c.lo r.lo k, lt-leb r.hi c.hi e)

  -- ── At most one area more ──
  here_short : (xs : List Interval) → length (cut_here c xs) ≤ suc (length xs)
  unfolding cut_here
  here_short [] = omega arith
  here_short (r ∷ l) = go (leb c.hi r.lo) (leb c.lo r.lo) (leb r.hi c.hi)
    where
      go : (s t u : Bool)
          → length (cond s (r ∷ l) (cond t (above c.hi (r ∷ l)) (cond u (interval r.lo c.lo ∷ above c.hi l) (interval r.lo c.lo ∷ interval c.hi r.hi ∷ l))))
          ≤ suc (suc (length l))
      go true t u = omega arith
      go false true u = omega (arith, above_length c.hi (r ∷ l))
      go false false true = omega (arith, above_length c.hi l)
      go false false false = omega arith

  pub cut_short : (xs : List Interval) → length (cut_from c xs) ≤ suc (length xs)
  unfolding cut_from
  cut_short xs =
      let i = lead c.lo xs in
      omega (arith, length-append (take i xs) (cut_here c (drop i xs)), here_short (drop i xs), length-append (take i xs) (drop i xs), ap length (take-append-drop i xs))

  -- ── Of areas that ascend ──
  module _ (solid : c.lo < c.hi) where
    here_less : (r : Interval) (l : List Interval) → r.lo < r.hi → c.lo < r.hi → Above (suc r.hi) l → cut_here c (r ∷ l) ≡ less c (r ∷ l)
    here_less r l some stop up =
        ⊎_elim (λ (h : c.hi ≤ r.lo). here_after r l h ∙ sym (less_after c solid (r ∷ l) r.lo h (le_refl r.lo, some, up)))
        (λ (h : r.lo < c.hi).
        ⊎_elim (λ (k : c.lo ≤ r.lo). here_inside r l h k ∙ sym (less_rest c solid (r ∷ l) r.lo k (le_refl r.lo, some, up)))
        (λ (k : r.lo < c.lo). ⊎_elim (left h k) (two h k) (le_or_lt r.hi c.hi))
        (le_or_lt c.lo r.lo))
        (le_or_lt c.hi r.lo)
      where
        left : r.lo < c.hi → r.lo < c.lo → r.hi ≤ c.hi → cut_here c (r ∷ l) ≡ less c (r ∷ l)
        left h k e =
            here_left r l h k e
            ∙ sym (cons_left c solid r l some k stop e
            ∙ ap (λ (m : List Interval). interval r.lo c.lo ∷ m) (less_rest c solid l (suc r.hi) (omega arith) up))

        two : r.lo < c.hi → r.lo < c.lo → c.hi < r.hi → cut_here c (r ∷ l) ≡ less c (r ∷ l)
        two h k e =
            here_two r l h k e
            ∙ sym (cons_split c solid r l some k e
            ∙ ap (λ (m : List Interval). interval r.lo c.lo ∷ interval c.hi r.hi ∷ m) (less_after c solid l (suc r.hi) (omega arith) up))

    cut_above : (xs : List Interval) (a : ℕ) → Above a xs → cut_from c xs ≡ less c xs
    unfolding cut_from lead
    cut_above [] a h = here_nil ∙ sym (less_nil c)
    cut_above (r ∷ l) a h = go (leb r.hi c.lo) refl (cut_above l (suc r.hi) h.2)
      where
        go : (t : Bool) → leb r.hi c.lo ≡ t → cut_from c l ≡ less c l
            → take (cond t (suc (lead c.lo l)) 0) (r ∷ l) ++ cut_here c (drop (cond t (suc (lead c.lo l)) 0) (r ∷ l)) ≡ less c (r ∷ l)
        go true e more = ap (λ (m : List Interval). r ∷ m) more ∙ sym (cons_off c solid r l h.1 (inl (leb-true _ _ e)))
        go false e more = here_less r l h.1 (leb-false _ _ e) h.2

    -- it leaves the areas less the range
    pub cut_less : (xs : List Interval) → Ascending xs → cut_from c xs ≡ less c xs
    cut_less xs h = cut_above xs 0 h
