-- How many bytes a number takes. Assumes nothing.
use mathlib.Core.Path.{◌≡◌, refl}
use Prim.Native.Nat.{ℕ}
use lib.ListN.{length}
use Rattle.pen.specs.Numbers.{bytes4, bytes8}

pub bytes4_length : (w : ℕ) → length (bytes4 w) ≡ 4
unfolding bytes4
bytes4_length w = refl

pub bytes8_length : (w : ℕ) → length (bytes8 w) ≡ 8
unfolding bytes8 bytes4
bytes8_length w = refl
