-- What is held of standard input.
use Rattle.std.specs.Prelude.{◌≡◌, ℕ, ◌<◌, List, length, take, Option, Result, Ok, Err}
use Rattle.std.specs.Io.KnownBytes.{Consumes, IsAtEnd}
use Rattle.io.specs.Counts.{IsPrefixLen}
use Rattle.standard.specs.declared.Failure.{Failure}
use Rattle.standard.specs.declared.Failure.TheVariants.{Unread}

-- so many bytes at the start of a space, and no more than it has; of a failure nothing is held
abbrev pub Holds : List ℕ → Result ℕ Failure → Type 0
Holds space (Ok n) = IsPrefixLen n space
Holds space (Err f) = f ≡ Unread

-- one read of a reader with known bytes: what is held is what it lost, and nothing only where it has ended or there is no room
abbrev pub Reads : Option (List ℕ) → Option (List ℕ) → List ℕ → Result ℕ Failure → Type 0
Reads old new space (Ok n) = Consumes old new (take n space) × (n ≡ 0 → 0 < length space → IsAtEnd new)
Reads old new space (Err f) = Unit {0}

-- the same of as many reads as there is room for: where room is left, the reader has ended
abbrev pub ReadsAll : Option (List ℕ) → Option (List ℕ) → List ℕ → Result ℕ Failure → Type 0
ReadsAll old new space (Ok n) = Consumes old new (take n space) × (n < length space → IsAtEnd new)
ReadsAll old new space (Err f) = Unit {0}
