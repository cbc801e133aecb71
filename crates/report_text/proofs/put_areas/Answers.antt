use Rattle.report_text.proofs.TextLaws.{begins, more}
use Rattle.report_text.proofs.put_areas.Goals as goal

pub loop-i-init : goal.loop-i-init
loop-i-init c = begins c.args.slots.now

pub loop-i-preserved : goal.loop-i-preserved
loop-i-preserved c = more c.args.slots.now c.loop-i.i c.loop-i.invariant c.put_area-p.ensures
