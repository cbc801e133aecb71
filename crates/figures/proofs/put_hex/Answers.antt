-- `figures::put_hex` meets its contract: a width of 16 is the whole of the number (DigitsLaws). Assumes nothing.
use borrow.Author.Rules.{rules}
use Rattle.figures.proofs.DigitsLaws.{hex_is}
use Rattle.figures.proofs.PutLaws.{same_put}
use Rattle.figures.proofs.put_hex.Goals as goal

pub returns : goal.returns
returns c =
    let d = c in
    same_put c.put.ensures (hex_is (search rules) d.hex-k.ensures.len d.hex-k.ensures.digits)
