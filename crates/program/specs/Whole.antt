-- What the two programs write where the bytes of their reader are known, as of one over memory.
use Rattle.std.specs.Prelude.{◌≡◌, ℕ, ◌≤◌, ◌<◌, List, length, take, ⊤, Option, None, Some, IfSome, Result, Ok, Err}
use Rattle.std.proofs.Math.ListN.{replicate}
use Rattle.std.specs.Io.KnownBytes.{Appends, Keeps}
use Rattle.standard.specs.declared.Failure.{Failure}
use Rattle.standard.specs.declared.Failure.TheVariants.{Unread}
use Rattle.report_text.specs.Text.{report_text}
use Rattle.report_text.specs.LateText.{late_text}

-- the 512 slots that a program lends
abbrev pub lent_slots : List ℕ
lent_slots = replicate 1024 0

-- `report`, of a reader that has s: what is written is the report of s, of which one byte more is read than an order file may have
abbrev pub Reports : Option (List ℕ) → Option (List ℕ) → Option (List ℕ) → Result Unit Failure → Type 0
Reports None old new r = ⊤
Reports (Some s) old new r = r ≡ Ok tt → Appends old new (report_text 4096 (take 65537 s) lent_slots)

-- `late`, of a reader that has s: what is written is the text of s, and s is no longer than the program takes
abbrev pub ReportsLate : Option (List ℕ) → Option (List ℕ) → Option (List ℕ) → Result Unit Failure → Type 0
ReportsLate None old new r = ⊤
ReportsLate (Some s) old new r = r ≡ Ok tt → (length s ≤ 262144) × Appends old new (late_text 4096 s lent_slots)

-- nothing is written where a read failed, or more came than the program takes
abbrev pub SilentUnread : Option (List ℕ) → Option (List ℕ) → Result Unit Failure → Type 0
SilentUnread old new r = r ≡ Err Unread → Keeps old new

-- of a reader that has more than `late` takes, nothing is done
abbrev pub RefusesLong : Option (List ℕ) → Result Unit Failure → Type 0
RefusesLong known r = IfSome known (λ s. 262144 < length s → r ≡ Err Unread)
