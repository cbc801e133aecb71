use Rattle.std.proofs.Common.{rules}
use Rattle.program.proofs.WholeLaws.{reported}
use Rattle.program.proofs.report.Goals as goal

pub returns-clause-text : goal.returns-clause-text
returns-clause-text g c =
    reported _ _ _ _ _ _ _ _ _ _ (search rules) c.in_ok-n.ensures.held.0 c.in_ok-n.ensures.bytes c.report-k.ensures.writes c.write_all.ensures.bytes
