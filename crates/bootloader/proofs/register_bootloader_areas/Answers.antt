-- `register_bootloader_areas` judges all kinds, registers on a copy, and hands back the caller's map where that is refused.
use mathlib.Core.Path.{ap, sym, ◌∙◌}
use Rattle.memory.specs.Run.{is_done}
use Rattle.bootloader.proofs.ListLaws.{listed_unknown, listed_known}
use Rattle.memory.proofs.RunLaws.{settled_done, settled_refused}
use Rattle.bootloader.proofs.register_bootloader_areas.Goals as goal

pub returns-then-not-all_known : goal.returns-then-not-all_known
returns-then-not-all_known c = sym (listed_unknown 4096 _ _ (sym c.all_known.ensures ∙ c.if-not-all_known.true))

pub returns-in-Ok : goal.returns-in-Ok
returns-in-Ok c =
    let known = sym c.all_known.ensures ∙ c.if-not-all_known.false in
    let done = c.in-Ok.is in
    rw (listed_known 4096 _ _ known, ← c.register_list_in-answer.ensures) (sym (settled_done c.args.map _ (ap is_done done)))

pub returns-in-Err : goal.returns-in-Err
returns-in-Err c =
    let known = sym c.all_known.ensures ∙ c.if-not-all_known.false in
    let no = c.in-Err.is in
    rw (listed_known 4096 _ _ known, ← c.register_list_in-answer.ensures) (sym (settled_refused c.args.map _ (ap is_done no)))
