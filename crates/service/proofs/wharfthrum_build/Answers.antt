-- `wharfthrum_build` answers the build's report in plain fields, and leaves the slots that the build leaves.
use mathlib.Core.Path.{ap, ◌∙◌}
use Rattle.service.specs.Plain.{plain_of}
use Rattle.service.proofs.wharfthrum_build.Goals as goal

pub returns : goal.returns
returns c =
    let k = c in
    record { value = c.plain.ensures ∙ ap plain_of k.init.ensures.report; slots_after = k.init.ensures.slots }
