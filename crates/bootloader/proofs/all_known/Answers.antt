use mathlib.Core.Path.{ap, sym, ◌∙◌}
use Rattle.entry.specs.Kind.{kind_of}
use Rattle.bootloader.specs.List.{is_known}
use Rattle.bootloader.proofs.ListLaws.{known_done, known_step, known_stop}
use Rattle.bootloader.proofs.all_known.Goals as goal

pub returns-in_default : goal.returns-in_default
returns-in_default c =
    let r = c.kind_of.ensures ∙ ap kind_of c.le64.ensures.is in
    sym (known_stop _ _ _ _ c.loop-i-test.true r (ap is_known c.in_default.is)) ∙ c.loop-i.invariant

pub loop-i-preserved : goal.loop-i-preserved
loop-i-preserved c =
    let r = c.kind_of.ensures ∙ ap kind_of c.le64.ensures.is in
    sym (known_step _ _ _ _ c.loop-i-test.true r (ap is_known c.in-Some.is)) ∙ c.loop-i.invariant

pub returns : goal.returns
returns c = sym (known_done _ _ _ c.loop-i-test.false) ∙ c.loop-i.invariant
