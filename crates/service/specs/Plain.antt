-- A build's answer in plain fields, for a caller that knows no enums: document 01, "Where an answer is an enum, a definition gives this
-- paper's number and values for each case of the enum."
use Rattle.startup.specs.declared.Refusal.{Refusal}
use Rattle.startup.specs.declared.Summary.{Summary}
use Rattle.std.specs.Prelude.{ℕ, Float, Option, Some, None, Result, Ok, Err}
use Rattle.sheet.specs.Nearest.{plus_zero}
use Rattle.startup.specs.Verdict.{refusal_number}
use Rattle.service.specs.declared.WharfthrumReport.{WharfthrumReport}

-- "The share is either none or a double": 0 or 1 says which
abbrev pub has_share : Option Float → ℕ
has_share None = 0
has_share (Some x) = 1

-- the double, and +0 where there is none
abbrev pub share_float : Option Float → Float
share_float None = plus_zero
share_float (Some x) = x

-- "0 is done." A refusal has its number, and 0 in every other field
abbrev pub plain_of : Result Summary Refusal → WharfthrumReport
plain_of (Ok x) =
    record {
      number = 0;
      count = x.count;
      free = x.sheet.free;
      usable = x.sheet.usable;
      has_share = has_share x.sheet.share;
      share = share_float x.sheet.share;
    }
plain_of (Err r) =
    record { number = refusal_number r; count = 0; free = 0; usable = 0; has_share = 0; share = plus_zero }
