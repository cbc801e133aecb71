-- A number of cells from the front of some bytes, as cells_to_usize reads it.
use Rattle.std.specs.Prelude.{ℕ, List, cond, length, eqb, leb, Option, Some, None}
use Rattle.words.specs.Bytes.{word, double}

-- one cell has 4 bytes, two have 8; no number for any other count or too few bytes
unfoldable pub cells_number : List ℕ → ℕ → Option ℕ
cells_number v cells =
    cond (eqb cells 1) (cond (leb 4 (length v)) (Some (word v 0)) None)
    (cond (eqb cells 2) (cond (leb 8 (length v)) (Some (double v 0)) None) None)
