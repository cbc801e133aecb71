-- Every area starts at the start of a Free entry cut to the limits, or where a reservation ends, and ends at the end of such an entry,
-- or where a reservation starts: what holds of those edges, as being whole pages, holds of the areas'. Assumes nothing.
use Rattle.std.specs.Prelude.{Option}
use mathlib.Core.List.{List, [], ◌∷◌}
use Prim.Native.Nat.{ℕ, zero, suc, ◌-◌, ◌<◌}
use Rattle.entry.specs.declared.MemoryEntry.{MemoryEntry}
use Rattle.entry.specs.Entry.{overlap, meet}
use Rattle.entry.proofs.EntryLaws.{Meets, some, none, meets}
use Rattle.areas.specs.declared.Interval.{Interval}
use Rattle.areas.specs.Interval.{interval}
use Rattle.areas.specs.declared.Cut.{Cut}
use Rattle.areas.specs.Carve.{cut_by, after, walk, carve_by, carve}
use Rattle.areas.specs.Areas.{free_of, busy_of, carved_by, pieces, areas_in}
use Rattle.areas.specs.Steps.{Solid}
use Rattle.areas.proofs.Lists.{Every, every_append}
use Rattle.areas.proofs.CarveLaws.{CutOf, is_gone, is_before, is_after, is_left, is_right, is_split, cut_of}
use Rattle.areas.proofs.SortLaws.{sort_every}

-- P of where an interval starts, and Q of where it ends
abbrev pub Edged : (ℕ → Type 0) → (ℕ → Type 0) → Interval → Type 0
Edged P Q r = P r.lo × Q r.hi

-- the same of a Free entry, once it is cut to the limits
abbrev pub CutTo : (ℕ → Type 0) → (ℕ → Type 0) → MemoryEntry → MemoryEntry → Type 0
CutTo P Q limits f = P (overlap f limits).start × Q (overlap f limits).end

module _ (P Q : ℕ → Type 0) where
  module _ (left : ℕ → ℕ → List Interval) (left-ok : (a b : ℕ) → a < b → P a → Q b → Every (Edged P Q) (left a b)) where
    after_edges : (r : Interval) (s e : ℕ) → s < e → P s → Q e → Edged Q P r → (go : ℕ → ℕ → List Interval)
        → ((a b : ℕ) → a < b → P a → Q b → Every (Edged P Q) (go a b)) → (c : Cut) → CutOf r s e c → Every (Edged P Q) (after left go c)
    after_edges r s e lt ps qe h go ok c (is_gone p q) = tt
    after_edges r s e lt ps qe h go ok c (is_before p) = ok s e lt ps qe
    after_edges r s e lt ps qe h go ok c (is_after p) = ok s e lt ps qe
    after_edges r s e lt ps qe h go ok c (is_left p q t) = ok s r.lo p ps h.0
    after_edges r s e lt ps qe h go ok c (is_right p q t) = ok r.hi e t h.1 qe
    after_edges r s e lt ps qe h go ok c (is_split p q) =
        every_append (Edged P Q) (left s r.lo) (go r.hi e) (left-ok s r.lo p ps h.0) (ok r.hi e q h.1 qe)

    walk_edges : (rs : List Interval) (s e : ℕ) → s < e → P s → Q e → Solid rs → Every (Edged Q P) rs → Every (Edged P Q) (walk left rs s e)
    unfolding walk
    walk_edges [] s e lt ps qe solid h = ((ps, qe), tt)
    walk_edges (r ∷ rs) s e lt ps qe solid h =
        after_edges r s e lt ps qe h.0 (λ a b. walk left rs a b) (λ a b ab pa qb. walk_edges rs a b ab pa qb solid.1 h.1) (cut_by r (interval s e)) (cut_of r s e solid.0 lt)

  module _ (busy : List Interval) (solid : Solid busy) (busy-ok : Every (Edged Q P) busy) where
    carve_by_edges : (k s e : ℕ) → s < e → P s → Q e → Every (Edged P Q) (carve_by k busy s e)
    unfolding carve_by
    carve_by_edges zero s e lt ps qe = tt
    carve_by_edges (suc k) s e lt ps qe = walk_edges (λ a b. carve_by k busy a b) (λ a b ab pa qb. carve_by_edges k a b ab pa qb) busy s e lt ps qe solid busy-ok

    carve_edges : (s e : ℕ) → s < e → P s → Q e → Every (Edged P Q) (carve busy s e)
    unfolding carve
    carve_edges s e lt ps qe = carve_by_edges (e - s) s e lt ps qe

    carved_edges : (limits f : MemoryEntry) → CutTo P Q limits f → Every (Edged P Q) (carved_by busy (meet f limits))
    carved_edges limits f h = go (meet f limits) (meets f limits)
      where
        go : (r : Option MemoryEntry) → Meets f limits r → Every (Edged P Q) (carved_by busy r)
        go r (some k) = carve_edges _ _ k h.0 h.1
        go r (none k) = tt

    pub pieces_edges : (limits : MemoryEntry) (fs : List MemoryEntry) → Every (CutTo P Q limits) fs → Every (Edged P Q) (pieces limits busy fs)
    unfolding pieces
    pieces_edges limits [] h = tt
    pieces_edges limits (f ∷ fs) h =
        every_append (Edged P Q) (carved_by busy (meet f limits)) (pieces limits busy fs) (carved_edges limits f h.0) (pieces_edges limits fs h.1)

  pub areas_edges : (limits : MemoryEntry) (es : List MemoryEntry) → Solid (busy_of es) → Every (Edged Q P) (busy_of es) → Every (CutTo P Q limits) (free_of es)
      → Every (Edged P Q) (areas_in limits es)
  unfolding areas_in
  areas_edges limits es solid b f = sort_every (Edged P Q) (pieces limits (busy_of es) (free_of es)) (pieces_edges (busy_of es) solid b limits (free_of es) f)
