-- An area carved by reservations, as `add_memory` does it: document 01, "Areas".
-- CarveLaws.carve_right says what it comes to: an address is left exactly when it lies in the area and in no reservation.
use Rattle.std.specs.Prelude.{List, [], ◌∷◌, ◌++◌, cond, ℕ, zero, suc, ◌-◌, ltb, leb}
use Rattle.areas.specs.declared.Interval.{Interval}
use Rattle.areas.specs.Interval.{interval}
use Rattle.areas.specs.declared.Cut.{Cut}
use Rattle.areas.specs.declared.Cut.TheVariants.{Gone, Rest, Split}

-- the end of an area, where it lies in the reservation: back to the reservation's start
abbrev pub trim_end : Interval → ℕ → ℕ
trim_end r e = cond (ltb r.lo e) (cond (leb e r.hi) r.lo e) e

-- the start of an area, where it lies in the reservation: on to the reservation's end
abbrev pub trim_start : Interval → ℕ → ℕ
trim_start r s = cond (leb r.lo s) (cond (ltb s r.hi) r.hi s) s

-- what the reservation leaves of [s, e), by the Rust's tests in their order: the end is trimmed, then the start,
-- and what then still holds the reservation is split
abbrev pub cut_start : Interval → ℕ → ℕ → Cut
cut_start r s e =
    cond (leb e s) Gone
    (cond (leb s r.lo) (cond (ltb r.lo e) (Split (interval s r.lo) (interval r.hi e)) (Rest (interval s e))) (Rest (interval s e)))

abbrev pub cut_end : Interval → ℕ → ℕ → Cut
cut_end r s e = cond (leb e s) Gone (cut_start r (trim_start r s) e)

unfoldable pub cut_by : Interval → Interval → Cut
cut_by r a = cut_end r a.lo (trim_end r a.hi)

-- what is left is carved on; of a split, the piece on the left comes first
abbrev pub after : (ℕ → ℕ → List Interval) → (ℕ → ℕ → List Interval) → Cut → List Interval
after left go Gone = []
after left go (Rest a) = go a.lo a.hi
after left go (Split a b) = left a.lo a.hi ++ go b.lo b.hi

-- [s, e) against the reservations that are still to come, where `left` carves a piece on the left
unfoldable pub walk : (ℕ → ℕ → List Interval) → List Interval → ℕ → ℕ → List Interval
walk left [] s e = interval s e ∷ []
walk left (r ∷ rs) s e = after left (λ a b. walk left rs a b) (cut_by r (interval s e))

-- "The piece on the left is carved again from the first reservation": k bounds how deep that goes
unfoldable pub carve_by : ℕ → List Interval → ℕ → ℕ → List Interval
carve_by zero all s e = []
carve_by (suc k) all s e = walk (λ a b. carve_by k all a b) all s e

-- the nonempty area [s, e) less the reservations. A piece on the left is smaller than its area, so its size is depth enough:
-- CarveLaws.carve_eq is the equation that `add_memory` is, with no bound in it
unfoldable pub carve : List Interval → ℕ → ℕ → List Interval
carve all s e = carve_by (e - s) all s e

-- ── How deep the calls nest ──

-- what is left is carved on; a piece on the left is one call deeper
abbrev pub after_nests : (ℕ → ℕ → Type 0) → (ℕ → ℕ → Type 0) → Cut → Type 0
after_nests left go Gone = Unit {0}
after_nests left go (Rest a) = go a.lo a.hi
after_nests left go (Split a b) = left a.lo a.hi × go b.lo b.hi

unfoldable pub walk_nests : (ℕ → ℕ → Type 0) → List Interval → ℕ → ℕ → Type 0
walk_nests left [] s e = Unit {0}
walk_nests left (r ∷ rs) s e = after_nests left (λ a b. walk_nests left rs a b) (cut_by r (interval s e))

-- carving [s, e) makes at most k calls of itself one within the other, the first included
unfoldable pub Nests : ℕ → List Interval → ℕ → ℕ → Type 0
Nests zero all s e = ⊥
Nests (suc k) all s e = walk_nests (λ a b. Nests k all a b) all s e
