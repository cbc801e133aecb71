-- Areas less one interval. LessLaws.less_listed says what it comes to: an address is left exactly when it lies in an area
-- and not in the interval.
use Rattle.std.specs.Prelude.{List, [], ◌∷◌, ◌++◌}
use Rattle.areas.specs.declared.Interval.{Interval}
use Rattle.areas.specs.declared.Cut.{Cut}
use Rattle.areas.specs.declared.Cut.TheVariants.{Gone, Rest, Split}
use Rattle.areas.specs.Carve.{cut_by}

-- what a cut leaves
abbrev pub left_of : Cut → List Interval
left_of Gone = []
left_of (Rest a) = a ∷ []
left_of (Split a b) = a ∷ b ∷ []

-- each area is cut as a build cuts it
unfoldable pub less : Interval → List Interval → List Interval
less c [] = []
less c (r ∷ l) = left_of (cut_by c r) ++ less c l
