-- `report_text::put_areas` meets its contract. The invariant: the first i areas are put, if there is room for them. Assumes nothing.
use Rattle.pen.specs.Writing.{Lands}
use Rattle.report_text.specs.Text.{area_lines}
use Rattle.report_text.proofs.put_areas.Given as goal

abbrev pub invariant-loop-i : goal.invariant-loop-i
invariant-loop-i l = Lands l.initial.out l.at (area_lines l.slots l.i 0) l.out l.p
