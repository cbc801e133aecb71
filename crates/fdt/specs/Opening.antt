-- Opening a tree: document 01, "The tree" and "Numbers a caller gets back".
use Rattle.numbers.specs.Number.{number_by}
use Rattle.std.specs.Prelude.{ℕ, List, cond, length, leb, eqb, Option, Some, None, Result, Ok, Err}
use Rattle.fdt.specs.Header.{totalsize, off_dt_struct, off_dt_strings, off_mem_rsvmap, size_dt_struct, size_dt_strings, good_header, structure_of, strings_of}
use Rattle.fdt.specs.Walk.{walked}
use Rattle.fdt.specs.declared.Block.{Block}
use Rattle.fdt.specs.declared.Blocks.{Blocks}
use Rattle.fdt.specs.declared.TreeFault.{TreeFault}
use Rattle.fdt.specs.declared.TreeFault.TheVariants.{BadHeader, OverLimit, BadStructure}

-- "Numbers a caller gets back"
abbrev pub fault_number : TreeFault → ℕ
fault_number BadHeader = 4
fault_number BadStructure = 5
fault_number OverLimit = 6

abbrev pub opened_number : Result (Option Blocks) TreeFault → ℕ
opened_number = number_by fault_number

-- a part of some bytes, by its place and its length
abbrev pub block : ℕ → ℕ → Block
block at len = record { at = at; len = len }

-- where the blocks stand
unfoldable pub blocks_of : List ℕ → Blocks
blocks_of s =
    record {
      structure = block (off_dt_struct s) (size_dt_struct s);
      strings = block (off_dt_strings s) (size_dt_strings s);
      reservations = off_mem_rsvmap s;
    }

abbrev pub judged : Result Unit TreeFault → Blocks → Result (Option Blocks) TreeFault
judged (Ok _) blocks = Ok (Some blocks)
judged (Err f) blocks = Err f

-- "A tree of 0 bytes is no tree."; 4 before 6 and 5; "byte size comes before the walk, and in it the first faulty token decides"
unfoldable pub opened_of : List ℕ → Result (Option Blocks) TreeFault
opened_of s =
    cond (eqb (length s) 0) (Ok None)
    (cond (good_header s)
    (cond (leb (totalsize s) 1048576) (judged (walked (structure_of s) (strings_of s)) (blocks_of s)) (Err OverLimit))
    (Err BadHeader))
