-- `wharfthrum_build_map` answers the build's report in plain fields, and leaves the slots and the map that the build leaves. Assumes nothing.
use mathlib.Core.Path.{ap, ◌∙◌}
use Rattle.service.specs.Plain.{plain_of}
use Rattle.service.proofs.Leaving.{left_refused, left_done}
use Rattle.service.proofs.wharfthrum_build_map.Goals as goal

pub returns-in_default : goal.returns-in_default
returns-in_default c =
    let d = c in
    let h = d.init_map-start.ensures in
    record { value = c.plain.ensures ∙ ap plain_of h.reports.report; slots_after = h.reports.slots; map_after = left_refused 4096 _ _ _ _ h.reports.report c.in_default.is }

pub returns : goal.returns
returns c =
    let d = c in
    let h = d.init_map-start.ensures in
    record { value = c.plain-2.ensures ∙ ap plain_of h.reports.report; slots_after = h.reports.slots; map_after = left_done 4096 _ _ _ _ h.reports.report d.in-Ok.is h.map c.store.ensures }
