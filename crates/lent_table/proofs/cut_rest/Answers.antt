-- `lent_table::cut_rest` meets its contract: what its four steps come to (Trimming). Assumes nothing.
use Rattle.lent_table.proofs.Trimming.{rested}
use Rattle.lent_table.proofs.cut_rest.Goals as goal

pub returns : goal.returns
returns c = rested _ _ _ c.past-j.ensures c.trim_front.ensures c.clear.ensures c.slide.ensures
