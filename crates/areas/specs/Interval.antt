-- Plain intervals of addresses, and lists of them. Nothing here knows of a map.
use Rattle.std.specs.Prelude.{ℕ, suc, ◌≤◌, ◌<◌, List, [], ◌∷◌, ◌⊎◌}
use Rattle.areas.specs.declared.Interval.{Interval}

-- the addresses from lo up to, not including, hi
abbrev pub interval : ℕ → ℕ → Interval
interval lo hi = record { lo = lo; hi = hi }

abbrev pub Inside : ℕ → Interval → Type 0
Inside x r = (r.lo ≤ x) × (x < r.hi)

-- the address x lies in an interval of the list
abbrev pub Listed : ℕ → List Interval → Type 0
Listed x [] = ⊥
Listed x (r ∷ l) = Inside x r ⊎ Listed x l

-- all at a or above, ascending, nonempty, and never touching: each starts past the end of the one before
abbrev pub Above : ℕ → List Interval → Type 0
Above a [] = Unit {0}
Above a (r ∷ l) = (a ≤ r.lo) × (r.lo < r.hi) × Above (suc r.hi) l

-- demand 3: "Areas ascend, are nonempty .., and never touch." Normal.one_list says that such a list is determined by its addresses
abbrev pub Ascending : List Interval → Type 0
Ascending l = Above 0 l
