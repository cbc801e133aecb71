-- Bytes that are the same up to totalsize: document 01, "Bytes past totalsize are not read."
use Rattle.std.specs.Prelude.{◌≡◌, ℕ, ◌≤◌, ◌<◌, List, length, get_or}
use Rattle.fdt.specs.Header.{totalsize}

-- s has a header of 40 bytes and all that its totalsize says; t has the same bytes up to there, and each goes on as it may
pub record SameFront (s t : List ℕ) : Type 0 where
  pub some : 40 ≤ totalsize s
  pub whole : totalsize s ≤ length s
  pub also : totalsize s ≤ length t
  pub bytes : (i : ℕ) → i < totalsize s → get_or s i 0 ≡ get_or t i 0
