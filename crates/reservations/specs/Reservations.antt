-- The memory reservation block: Specification, section 5.3, and document 01, "Reservation block".
use Rattle.std.specs.Prelude.{ℕ, zero, suc, ◌+◌, ◌*◌, ◌-◌, ◌/◌, ◌%◌, List, [], ◌∷◌, cond, ◌&&◌, length, eqb, leb}
use Rattle.words.specs.Bytes.{double, part_of}
use Rattle.cells.specs.declared.Region.{Region}
use Rattle.fdt.specs.declared.Blocks.{Blocks}
use Rattle.reservations.specs.declared.Reservation.{Reservation}
use Rattle.reservations.specs.declared.Reservation.TheVariants.{Entry, End, Past}

-- "Skipped whole, with no refusal, unless its offset is >= 40, a multiple of 8 and <= the structure offset." The entries "run up to the
-- structure offset"
unfoldable pub block_in : List ℕ → Blocks → List ℕ
block_in s b =
    cond (leb 40 b.reservations && (eqb (b.reservations % 8) 0 && leb b.reservations b.structure.at))
    (part_of s b.reservations (b.structure.at - b.reservations))
    []

-- "Entries of 16 big-endian bytes": address and size
abbrev pub region_at : List ℕ → ℕ → Region
region_at v i = record { address = double v (i * 16); size = double v (i * 16 + 8) }

-- "or to (0, 0)"
unfoldable pub entry_of : List ℕ → ℕ → Reservation
entry_of v i =
    cond (leb (length v / 16) i) Past
    (cond (eqb (region_at v i).address 0 && eqb (region_at v i).size 0) End (Entry (region_at v i)))

-- an entry and then the others, or nothing more. "A missing end is accepted."
abbrev pub and_then : Reservation → List Region → List Region
and_then (Entry r) l = r ∷ l
and_then End l = []
and_then Past l = []

-- the entries from number i on, up to the end, in at most f of them
unfoldable pub entries_from : ℕ → List ℕ → ℕ → List Region
entries_from zero v i = []
entries_from (suc f) v i = and_then (entry_of v i) (entries_from f v (i + 1))

-- the entries of a block
abbrev pub entries_of : List ℕ → List Region
entries_of v = entries_from (length v / 16) v 0
