-- The areas of a list of entries ascend, and have the addresses that document 01 says. Assumes nothing.
use Rattle.std.specs.Prelude.{Option}
use mathlib.Core.List.{List, [], ◌∷◌, ◌++◌, map}
use mathlib.Core.Logic.{◌⊎◌, inl, inr, ⊎_elim, ◌↔◌}
use Prim.Native.Nat.{ℕ, suc, ◌≤◌, ◌<◌}
use native.Mathlib.Omega.{arith}
use native.Mathlib.Nat.{le_refl}
use Rattle.entry.specs.declared.MemoryEntry.{MemoryEntry}
use Rattle.entry.specs.Entry.{overlap, meet}
use Rattle.entry.proofs.EntryLaws.{Meets, some, none, meets}
use Rattle.areas.specs.declared.Interval.{Interval}
use Rattle.areas.specs.Interval.{Inside, Listed, Ascending}
use Rattle.areas.specs.Carve.{carve}
use Rattle.areas.specs.Areas.{span, free_of, busy_of, carved_by, pieces, areas_in}
use Rattle.areas.specs.Steps.{Solid}
use Rattle.areas.proofs.Lists.{Every, every_append, listed_append, listed_left, listed_right}
use Rattle.areas.proofs.CarveLaws.{Chain, chain_wider, carve_right, carve_chain}
use Rattle.areas.proofs.SortLaws.{Off, Apart, sort_listed, sort_ascends}

-- what the entries of every map have: the others than Free are nonempty, and the Free ones are too, and never touch
pub record Sound (es : List MemoryEntry) : Type 0 where
  pub solid : Solid (busy_of es)
  pub apart : Apart (map span (free_of es))

-- x lies in a Free entry, between the limits, and in no reservation
abbrev Left : ℕ → MemoryEntry → List Interval → List MemoryEntry → Type 0
Left x limits busy fs = Listed x (map span fs) × (limits.start ≤ x) × (x < limits.end) × (Listed x busy → ⊥)

-- intervals apart from all of a chain's range are apart from its pieces
chain_off : (q : Interval) (l : List Interval) (a b : ℕ) → Chain a b l → (q.hi < a) ⊎ (b < q.lo) → Every (Off q) l
chain_off q [] a b h o = tt
chain_off q (r ∷ l) a b h o = (
  ⊎_elim (λ (u : q.hi < a). inl (omega arith)) (λ (u : b < q.lo). inr (omega arith)) o,
  chain_off q l (suc r.hi) b h.3 (⊎_elim (λ (u : q.hi < a). inl (omega arith)) (λ (u : b < q.lo). inr u) o),
)

-- what is apart from f is apart from what lies in f
off_inside : (p f : Interval) (l : List Interval) → f.lo ≤ p.lo → p.hi ≤ f.hi → Every (Off f) l → Every (Off p) l
off_inside p f [] u v h = tt
off_inside p f (r ∷ l) u v h = (⊎_elim (λ (o : f.hi < r.lo). inl (omega arith)) (λ (o : r.hi < f.lo). inr (omega arith)) h.0, off_inside p f l u v h.1)

-- a chain in f, and after it what is apart from f
apart_append : (f : Interval) (l m : List Interval) (a : ℕ) → f.lo ≤ a → Chain a f.hi l → Every (Off f) m → Apart m → Apart (l ++ m)
apart_append f [] m a u h g k = k
apart_append f (r ∷ l) m a u h g k = (
  h.1,
  every_append (Off r) l m (chain_off r l (suc r.hi) f.hi h.3 (inl (le_refl (suc r.hi)))) (off_inside r f m (omega arith) h.2 g),
  apart_append f l m (suc r.hi) (omega arith) h.3 g k,
)

module _ (limits : MemoryEntry) (busy : List Interval) (solid : Solid busy) where
  -- one Free entry
  carved_chain : (f : MemoryEntry) → Chain f.start f.end (carved_by busy (meet f limits))
  unfolding overlap
  carved_chain f = go (meet f limits) (meets f limits)
    where
      go : (r : Option MemoryEntry) → Meets f limits r → Chain f.start f.end (carved_by busy r)
      go r (some h) =
          let c : MemoryEntry = overlap f limits in
          chain_wider (carve busy c.start c.end) c.start c.end f.start f.end (omega arith) (omega arith) (carve_chain busy c.start c.end solid h)
      go r (none h) = tt

  carved_listed : (f : MemoryEntry) (x : ℕ) → Listed x (carved_by busy (meet f limits)) ↔ Left x limits busy (f ∷ [])
  unfolding overlap
  carved_listed f x = go (meet f limits) (meets f limits)
    where
      go : (r : Option MemoryEntry) → Meets f limits r → Listed x (carved_by busy r) ↔ Left x limits busy (f ∷ [])
      go r (some h) = let c = carve_right x busy _ _ solid h in (
        λ i. let t = c.into i in (inl (omega arith, omega arith), omega arith, omega arith, t.2),
        λ l. ⊎_elim (λ (i : Inside x (span f)). c.back (omega arith) (omega arith) l.3) (λ z. absurd z) l.0,
      )
      go r (none h) = (λ i. absurd i, λ l. ⊎_elim (λ (i : Inside x (span f)). absurd (omega arith)) (λ z. absurd z) l.0)

  -- and all of them
  pieces_off : (q : Interval) (fs : List MemoryEntry) → Every (Off q) (map span fs) → Every (Off q) (pieces limits busy fs)
  unfolding pieces
  pieces_off q [] h = tt
  pieces_off q (f ∷ fs) h =
      every_append (Off q) (carved_by busy (meet f limits)) (pieces limits busy fs)
      (chain_off q (carved_by busy (meet f limits)) f.start f.end (carved_chain f) h.0) (pieces_off q fs h.1)

  pub pieces_apart : (fs : List MemoryEntry) → Apart (map span fs) → Apart (pieces limits busy fs)
  unfolding pieces
  pieces_apart [] h = tt
  pieces_apart (f ∷ fs) h =
      apart_append (span f) (carved_by busy (meet f limits)) (pieces limits busy fs) f.start (le_refl f.start)
      (carved_chain f) (pieces_off (span f) fs h.1) (pieces_apart fs h.2)

  pieces_listed : (fs : List MemoryEntry) (x : ℕ) → Listed x (pieces limits busy fs) ↔ Left x limits busy fs
  unfolding pieces
  pieces_listed [] x = (λ i. absurd i, λ h. h.0)
  pieces_listed (f ∷ fs) x =
      let one = carved_listed f x in
      let more = pieces_listed fs x in (
        λ i. ⊎_elim
            (λ j. let t = one.0 j in (⊎_elim (λ (k : Inside x (span f)). inl k) (λ z. absurd z) t.0, t.1, t.2, t.3))
            (λ j. let t = more.0 j in (inr t.0, t.1, t.2, t.3))
            (listed_append x (carved_by busy (meet f limits)) (pieces limits busy fs) i),
        λ h. ⊎_elim
            (λ (j : Inside x (span f)). listed_left x (carved_by busy (meet f limits)) (pieces limits busy fs) (one.1 (inl j, h.1, h.2, h.3)))
            (λ j. listed_right x (carved_by busy (meet f limits)) (pieces limits busy fs) (more.1 (j, h.1, h.2, h.3)))
            h.0,
      )

module _ (limits : MemoryEntry) (es : List MemoryEntry) where
  pub areas_ascend : Sound es → Ascending (areas_in limits es)
  unfolding areas_in
  areas_ascend g = sort_ascends (pieces limits (busy_of es) (free_of es)) (pieces_apart limits (busy_of es) g.solid (free_of es) g.apart)

  pub areas_listed : Solid (busy_of es) → (x : ℕ)
      → Listed x (areas_in limits es) ↔ (Listed x (map span (free_of es)) × (limits.start ≤ x) × (x < limits.end) × (Listed x (busy_of es) → ⊥))
  unfolding areas_in
  areas_listed solid x =
      let s = sort_listed x (pieces limits (busy_of es) (free_of es)) in
      let r = pieces_listed limits (busy_of es) solid (free_of es) x in
      (λ i. r.0 (s.0 i), λ h. s.1 (r.1 h))
