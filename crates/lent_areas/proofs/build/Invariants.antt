-- `lent_areas::build` meets its contract: the table has room for the areas of every map that our calls made. The invariant (RowLaws, `laid`):
-- the first i areas of the table lie in the row. Assumes nothing.
use Rattle.std.proofs.Common.{◌≡◌}
use Rattle.lent_areas.proofs.RowLaws.{laid}
use Rattle.lent_areas.proofs.build.Given as goal

abbrev pub invariant-loop-i : goal.invariant-loop-i
invariant-loop-i l = l.row ≡ laid l.initial.row l.slots l.i
