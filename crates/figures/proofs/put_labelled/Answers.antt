-- `figures::put_labelled` meets its contract: what stands between its two calls is what the first left. Assumes nothing.
use Rattle.figures.proofs.put_labelled.Goals as goal

pub returns : goal.returns
returns c =
    record {
      between = _;
      behind = _;
      first = c.put-a.ensures;
      second = c.put_decimal.ensures;
    }
