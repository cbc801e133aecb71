-- `lent_table::split_at` meets its contract: the area is cut at lo, and what it is from hi on goes in after it (Splitting). Assumes nothing.
use native.Mathlib.Omega.{arith}
use lib.ListN.{length-set}
use Rattle.lent_table.proofs.Splitting.{parted}
use Rattle.lent_table.proofs.split_at.Goals as goal

pub insert_area-requires : goal.insert_area-requires
insert_area-requires c = (omega arith, simp length-set (omega arith))

pub shape_of-slots : goal.shape_of-slots
shape_of-slots c = omega (arith, simp length-set at c.insert_area.auto.slots)

pub returns : goal.returns
returns c = parted _ _ _ _ _ (omega arith) c.insert_area.ensures
