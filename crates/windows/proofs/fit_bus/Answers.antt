-- `fit_bus` is translation's rule. Assumes nothing.
use mathlib.Core.Path.{◌∙◌}
use Rattle.windows.proofs.FitLaws.{bus_below, bus_past, bus_long, bus_inside}
use Rattle.windows.proofs.fit_bus.Goals as goal

pub returns-then-region-range : goal.returns-then-region-range
returns-then-region-range c = bus_below _ _ _ c.if-region-range.true

pub returns-then-range-offset : goal.returns-then-range-offset
returns-then-range-offset c = bus_past _ _ _ c.if-region-range.false c.if-range-offset.true

pub returns-then-range-offset-2 : goal.returns-then-range-offset-2
returns-then-range-offset-2 c =
    bus_long _ _ _ c.if-region-range.false _ c.reach_of.ensures c.if-range-offset.false c.if-range-offset-2.true

pub returns : goal.returns
returns c =
    c.land.ensures ∙ bus_inside _ _ _ c.if-region-range.false _ c.reach_of.ensures c.if-range-offset.false c.if-range-offset-2.false
