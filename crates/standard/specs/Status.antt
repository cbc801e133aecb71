-- The exit status of a program that reads and writes.
use Rattle.std.specs.Prelude.{◌≡◌, ℕ, List, Option, Result, Ok, Err}
use Rattle.std.specs.Io.KnownBytes.{Appends}
use Rattle.standard.specs.declared.Failure.{Failure}
use Rattle.standard.specs.declared.Failure.TheVariants.{Unread, Unwritten}

-- 0 where all is written, and another number for each failure
abbrev pub status_of : Result Unit Failure → ℕ
status_of (Ok _) = 0
status_of (Err Unread) = 1
status_of (Err Unwritten) = 2

-- where all is written, a writer with known bytes holds the whole text behind them
abbrev pub Writes : Option (List ℕ) → Option (List ℕ) → List ℕ → Result Unit Failure → Type 0
Writes old new text r = r ≡ Ok tt → Appends old new text
