-- Areas less one interval: which addresses are left, that the areas still ascend, and what stays as it is. Assumes nothing.
use mathlib.Core.Path.{◌≡◌, refl, ap, ◌∙◌}
use mathlib.Core.List.Memᴰ
use mathlib.Core.List.{List, [], ◌∷◌, ◌++◌, Memᴰ}
use mathlib.Core.Logic.{◌⊎◌, inl, inr, ⊎_elim, ◌↔◌}
use Prim.Native.Nat.{ℕ, suc, ◌≤◌, ◌<◌}
use native.Mathlib.Omega.{arith}
use native.Mathlib.Nat.{le_refl}
use mathlib.Core.Bool.{Bool, true, false, cond}
use lib.Dec.{leb}
use lib.ListN.{drop}
use borrow.Author.Tests.{leb-true, leb-false}
use Rattle.areas.specs.declared.Interval.{Interval}
use Rattle.areas.specs.Interval.{interval, Inside, Listed, Above, Ascending}
use Rattle.areas.specs.declared.Cut.{Cut}
use Rattle.areas.specs.declared.Cut.TheVariants.{Gone, Rest, Split}
use Rattle.areas.specs.Carve.{cut_by}
use Rattle.areas.specs.Steps.{Solid}
use Rattle.areas.proofs.Lists.{le_or_lt, listed_append, listed_left, listed_right}
use Rattle.areas.proofs.CarveLaws.{CutOf, is_gone, is_before, is_after, is_left, is_right, is_split, cut_of, gone=, before=, after=, left=, right=, split=}
use Rattle.lent_table.specs.Less.{left_of, less}
use Rattle.lent_table.specs.Edit.{lead, front, above}

pub above_solid : (l : List Interval) (a : ℕ) → Above a l → Solid l
above_solid [] a h = tt
above_solid (r ∷ l) a h = (h.1, above_solid l (suc r.hi) h.2)

-- a lower bound may sink
above_lower : (l : List Interval) (a b : ℕ) → b ≤ a → Above a l → Above b l
above_lower [] a b h k = tt
above_lower (r ∷ l) a b h k = (omega arith, k.1, k.2)

pub less_nil : (c : Interval) → less c [] ≡ []
unfolding less
less_nil c = refl

less_cons : (c r : Interval) (l : List Interval) → less c (r ∷ l) ≡ left_of (cut_by c r) ++ less c l
unfolding less
less_cons c r l = refl

module _ (c : Interval) (solid : c.lo < c.hi) where
  -- ── One area ──
  cut_listed_lem : (x : ℕ) (r : Interval) (k : Cut) → CutOf c r.lo r.hi k → Listed x (left_of k) ↔ (Inside x r × (Inside x c → ⊥))
  cut_listed_lem x r k (is_gone p q) = (λ i. absurd i, λ h. absurd (h.1 (omega arith, omega arith)))
  cut_listed_lem x r k (is_before p) = (⊎_elim (λ i. (i, λ j. omega arith)) (λ z. absurd z), λ h. inl h.0)
  cut_listed_lem x r k (is_after p) = (⊎_elim (λ i. (i, λ j. omega arith)) (λ z. absurd z), λ h. inl h.0)
  cut_listed_lem x r k (is_left p q t) = (
    ⊎_elim (λ (i : Inside x (interval r.lo c.lo)). ((omega arith, omega arith), λ j. omega arith)) (λ z. absurd z),
    λ h. inl (h.0.0, ⊎_elim (λ (u : c.lo ≤ x). absurd (h.1 (u, omega arith))) (λ u. u) (le_or_lt c.lo x)),
  )
  cut_listed_lem x r k (is_right p q t) = (
    ⊎_elim (λ (i : Inside x (interval c.hi r.hi)). ((omega arith, omega arith), λ j. omega arith)) (λ z. absurd z),
    λ h. inl (⊎_elim (λ u. u) (λ (u : x < c.hi). absurd (h.1 (omega arith, u))) (le_or_lt c.hi x), h.0.1),
  )
  cut_listed_lem x r k (is_split p q) = (
    ⊎_elim (λ (i : Inside x (interval r.lo c.lo)). ((omega arith, omega arith), λ j. omega arith))
        (⊎_elim (λ (i : Inside x (interval c.hi r.hi)). ((omega arith, omega arith), λ j. omega arith)) (λ z. absurd z)),
    λ h. ⊎_elim (λ (u : c.lo ≤ x). inr (inl (⊎_elim (λ v. v) (λ (v : x < c.hi). absurd (h.1 (u, v))) (le_or_lt c.hi x), h.0.1)))
        (λ (u : x < c.lo). inl (h.0.0, u)) (le_or_lt c.lo x),
  )

  -- what is left of an area is in it, and ascends; so what ascends past it still does
  cut_above : (a : ℕ) (r : Interval) (l : List Interval) (k : Cut) → a ≤ r.lo → r.lo < r.hi → Above (suc r.hi) l → CutOf c r.lo r.hi k → Above a (left_of k ++ l)
  cut_above a r l k h s m (is_gone p q) = above_lower l (suc r.hi) a (omega arith) m
  cut_above a r l k h s m (is_before p) = (h, s, m)
  cut_above a r l k h s m (is_after p) = (h, s, m)
  cut_above a r l k h s m (is_left p q t) = (h, p, above_lower l (suc r.hi) (suc c.lo) (omega arith) m)
  cut_above a r l k h s m (is_right p q t) = (omega arith, t, m)
  cut_above a r l k h s m (is_split p q) = (h, p, (omega arith, q, m))

  -- ── All of them ──
  -- "its areas less the rounded claim": an address is left exactly when it lies in an area and not in the interval
  pub less_listed : (x : ℕ) (l : List Interval) → Solid l → Listed x (less c l) ↔ (Listed x l × (Inside x c → ⊥))
  less_listed x [] s = rw (less_nil c) (λ i. absurd i, λ h. h.0)
  less_listed x (r ∷ l) s =
      let k = cut_by c r in
      let one = cut_listed_lem x r k (cut_of c r.lo r.hi solid s.0) in
      let more = less_listed x l s.1 in
      rw (less_cons c r l) (
        λ i. ⊎_elim (λ j. (inl (one.0 j).0, (one.0 j).1)) (λ j. (inr (more.0 j).0, (more.0 j).1)) (listed_append x (left_of k) (less c l) i),
        λ h. ⊎_elim (λ j. listed_left x (left_of k) (less c l) (one.1 (j, h.1))) (λ j. listed_right x (left_of k) (less c l) (more.1 (j, h.1))) h.0,
      )

  pub less_above : (l : List Interval) (a : ℕ) → Above a l → Above a (less c l)
  less_above [] a h = rw (less_nil c) tt
  less_above (r ∷ l) a h =
      rw (less_cons c r l)
      (cut_above a r (less c l) (cut_by c r) h.0 h.1 (less_above l (suc r.hi) h.2) (cut_of c r.lo r.hi solid h.1))

  pub less_ascends : (l : List Interval) → Ascending l → Ascending (less c l)
  less_ascends l h = less_above l 0 h

  -- ── Where each area lies to one side, or inside ──
  module _ (r : Interval) (l : List Interval) (some : r.lo < r.hi) where
    cons_is : (k : Cut) → cut_by c r ≡ k → less c (r ∷ l) ≡ left_of k ++ less c l
    cons_is k e = less_cons c r l ∙ ap (λ (x : Cut). left_of x ++ less c l) e

    pub cons_off : (r.hi ≤ c.lo) ⊎ (c.hi ≤ r.lo) → less c (r ∷ l) ≡ r ∷ less c l
    cons_off (inl o) = cons_is (Rest r) (before= c r.lo r.hi solid some o)
    cons_off (inr o) = cons_is (Rest r) (after= c r.lo r.hi solid some o)

    cons_gone : c.lo ≤ r.lo → r.hi ≤ c.hi → less c (r ∷ l) ≡ less c l
    cons_gone u v = cons_is Gone (gone= c r.lo r.hi solid some u v)

    cons_right : c.lo ≤ r.lo → r.lo < c.hi → c.hi < r.hi → less c (r ∷ l) ≡ interval c.hi r.hi ∷ less c l
    cons_right u v w = cons_is (Rest (interval c.hi r.hi)) (right= c r.lo r.hi solid some u v w)

    pub cons_left : r.lo < c.lo → c.lo < r.hi → r.hi ≤ c.hi → less c (r ∷ l) ≡ interval r.lo c.lo ∷ less c l
    cons_left u v w = cons_is (Rest (interval r.lo c.lo)) (left= c r.lo r.hi solid some u v w)

    pub cons_split : r.lo < c.lo → c.hi < r.hi → less c (r ∷ l) ≡ interval r.lo c.lo ∷ interval c.hi r.hi ∷ less c l
    cons_split u v = cons_is (Split (interval r.lo c.lo) (interval c.hi r.hi)) (split= c r.lo r.hi solid some u v)

  -- areas that start after it
  pub less_after : (l : List Interval) (a : ℕ) → c.hi ≤ a → Above a l → less c l ≡ l
  less_after [] a u h = less_nil c
  less_after (r ∷ l) a u h = cons_off r l h.1 (inr (omega arith)) ∙ ap (λ (k : List Interval). r ∷ k) (less_after l (suc r.hi) (omega arith) h.2)

  -- areas that start in it or after it: those that end in it are gone, and the next starts where it ends
  pub less_rest : (l : List Interval) (a : ℕ) → c.lo ≤ a → Above a l → less c l ≡ above c.hi l
  unfolding above lead front
  less_rest [] a u h = less_nil c
  less_rest (r ∷ l) a u h = ends (leb r.hi c.hi) refl (less_rest l (suc r.hi) (omega arith) h.2)
    where
      starts : (t : Bool) → leb c.hi r.lo ≡ t → c.hi < r.hi → less c (r ∷ l) ≡ cond t (r ∷ l) (interval c.hi r.hi ∷ l)
      starts true e k = less_after (r ∷ l) r.lo (leb-true _ _ e) (le_refl r.lo, h.1, h.2)
      starts false e k =
          cons_right r l h.1 (omega arith) (leb-false _ _ e) k
          ∙ ap (λ (m : List Interval). interval c.hi r.hi ∷ m) (less_after l (suc r.hi) (omega arith) h.2)

      ends : (t : Bool) → leb r.hi c.hi ≡ t → less c l ≡ above c.hi l → less c (r ∷ l) ≡ front c.hi (drop (cond t (suc (lead c.hi l)) 0) (r ∷ l))
      ends true e rest = cons_gone r l h.1 (omega arith) (leb-true _ _ e) ∙ rest
      ends false e rest = starts (leb c.hi r.lo) refl (leb-false _ _ e)

  -- ── What each area that is left has ──
  -- an area that does not overlap stays
  pub less_keeps : (l : List Interval) → Solid l → (r : Interval) → Memᴰ r l → (r.hi ≤ c.lo) ⊎ (c.hi ≤ r.lo) → Memᴰ r (less c l)
  less_keeps [] s r i o = absurd (Memᴰ.not-nil i)
  less_keeps (q ∷ l) s r i o =
      ⊎_elim (λ e. rw (cons_off q l s.0 (rw e at o)) (Memᴰ.head e))
      (λ j. rw (less_cons c q l) (Memᴰ.append_right (left_of (cut_by c q)) (less_keeps l s.1 r j o)))
      (Memᴰ.cases_cons i)

  -- what holds of all starts and ends, the interval's own the other way round, holds of those that are left
  pub less_edges : (P Q : ℕ → Type 0) → Q c.lo → P c.hi → (l : List Interval) → Solid l → ((r : Interval) → Memᴰ r l → P r.lo × Q r.hi)
      → (r : Interval) → Memᴰ r (less c l) → P r.lo × Q r.hi
  less_edges P Q lo hi [] s f r i = absurd (Memᴰ.not-nil (rw (less_nil c) at i))
  less_edges P Q lo hi (q ∷ l) s f r i =
      ⊎_elim (go (cut_by c q) (cut_of c q.lo q.hi solid s.0))
      (λ j. less_edges P Q lo hi l s.1 (λ t k. f t (Memᴰ.tail k)) r j)
      (Memᴰ.append_cases (left_of (cut_by c q)) (rw (less_cons c q l) at i))
    where
      one : P q.lo × Q q.hi
      one = f q (Memᴰ.head refl)

      only : (t : Interval) → P t.lo × Q t.hi → Memᴰ r (t ∷ []) → P r.lo × Q r.hi
      only t h j = ⊎_elim (λ e. rw e h) (λ z. absurd (Memᴰ.not-nil z)) (Memᴰ.cases_cons j)

      go : (k : Cut) → CutOf c q.lo q.hi k → Memᴰ r (left_of k) → P r.lo × Q r.hi
      go k (is_gone a b) j = absurd (Memᴰ.not-nil j)
      go k (is_before a) j = only q one j
      go k (is_after a) j = only q one j
      go k (is_left a b d) j = only (interval q.lo c.lo) (one.0, lo) j
      go k (is_right a b d) j = only (interval c.hi q.hi) (hi, one.1) j
      go k (is_split a b) j =
          ⊎_elim (λ e. rw e (one.0, lo)) (λ z. only (interval c.hi q.hi) (hi, one.1) z) (Memᴰ.cases_cons j)
