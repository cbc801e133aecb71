use Rattle.std.proofs.Common.{rules}
use Rattle.program.proofs.WholeLaws.{reported_late, refused_long}
use Rattle.program.proofs.late.Goals as goal

pub returns-clause-text : goal.returns-clause-text
returns-clause-text g c =
    reported_late _ _ _ _ _ _ _ _ _ _ (search rules) c.if-n-gt262144.false c.in_ok-n.ensures.bytes c.late-k.ensures.writes c.write_all.ensures.bytes

pub returns-clause-long : goal.returns-clause-long
returns-clause-long g c =
    refused_long _ _ _ _ _ (search rules) c.if-n-gt262144.false c.in_ok-n.ensures.bytes
