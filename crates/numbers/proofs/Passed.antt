-- What `?` hands on is the refusal that it met. Assumes nothing.
use Rattle.std.specs.Prelude.{Result, Ok, Err, IsErrAnd}
use mathlib.Core.Path.{◌≡◌, ap}

pub passed : {T E : Type 0} (r : Result T E) {e : E} → IsErrAnd r (λ y. y ≡ e) → r ≡ Err e
passed (Ok _) h = absurd h
passed (Err _) h = ap Err h
