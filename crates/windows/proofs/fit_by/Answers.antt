-- `fit_by` picks the rule. Assumes nothing.
use Rattle.windows.proofs.fit_by.Goals as goal

pub returns-then-soc : goal.returns-then-soc
returns-then-soc c = rw c.if-soc.true c.fit_soc.ensures

pub returns : goal.returns
returns c = rw c.if-soc.false c.fit_bus.ensures
