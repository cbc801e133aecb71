-- `text::string_of` meets its contract: the value, and where its string ends. Assumes nothing.
use Rattle.text.specs.Strings.{string_at}
use Rattle.text.proofs.string_of.Goals as goal

pub returns-in_err-value : goal.returns-in_err-value
unfolding string_at
returns-in_err-value c = rw (← c.getprop.ensures, c.in_err-value.was) c.from_residual.ensures

pub returns-in_err-len : goal.returns-in_err-len
unfolding string_at
returns-in_err-len c =
    rw (← c.getprop.ensures, c.in_ok-value.was, ← c.part.ensures, ← c.text.ensures, c.in_err-len.was)
    c.from_residual-in_err-len.ensures

pub returns : goal.returns
unfolding string_at
returns c =
    rw (← c.getprop.ensures, c.in_ok-value.was, ← c.part.ensures, ← c.text.ensures, c.in_ok-len.was)
