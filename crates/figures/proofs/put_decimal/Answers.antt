-- `figures::put_decimal` meets its contract: the fewest digits that hold a number are its decimal text (DigitsLaws). Assumes nothing.
use borrow.Author.Rules.{rules}
use Rattle.figures.proofs.DigitsLaws.{decimal_is}
use Rattle.figures.proofs.PutLaws.{same_put}
use Rattle.figures.proofs.put_decimal.Goals as goal

pub returns : goal.returns
returns c =
    let d = c in
    same_put c.put.ensures (decimal_is (search rules) d.decimal-k.ensures.len d.decimal-k.ensures.digits)
