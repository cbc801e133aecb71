-- The header: Devicetree Specification v0.4, section 5.2, and the bounds that document 01, "The tree", puts on it.
use Rattle.std.specs.Prelude.{◌≡◌, ℕ, ◌+◌, ◌%◌, ◌≤◌, List, Bool, ◌&&◌, length, leb, eqb}
use Rattle.words.specs.Bytes.{word, part_of}

-- the fields, in their order: 4 bytes each, big-endian
abbrev pub magic : List ℕ → ℕ
magic s = word s 0

abbrev pub totalsize : List ℕ → ℕ
totalsize s = word s 4

abbrev pub off_dt_struct : List ℕ → ℕ
off_dt_struct s = word s 8

abbrev pub off_dt_strings : List ℕ → ℕ
off_dt_strings s = word s 12

abbrev pub off_mem_rsvmap : List ℕ → ℕ
off_mem_rsvmap s = word s 16

abbrev pub version : List ℕ → ℕ
version s = word s 20

abbrev pub last_comp_version : List ℕ → ℕ
last_comp_version s = word s 24

abbrev pub size_dt_strings : List ℕ → ℕ
size_dt_strings s = word s 32

abbrev pub size_dt_struct : List ℕ → ℕ
size_dt_struct s = word s 36

-- "at least 40 bytes; magic 0xd00dfeed; 40 <= totalsize <= bytes given; version >= 17; last compatible version <= 17; structure and
-- strings offsets >= 40, each with its size inside totalsize; structure offset a multiple of 4."
pub record GoodHeader (s : List ℕ) : Type 0 where
  pub long : 40 ≤ length s
  pub marked : magic s ≡ 0xd00dfeed
  pub some : 40 ≤ totalsize s
  pub whole : totalsize s ≤ length s
  pub recent : 17 ≤ version s
  pub compatible : last_comp_version s ≤ 17
  pub struct_from : 40 ≤ off_dt_struct s
  pub strings_from : 40 ≤ off_dt_strings s
  pub struct_in : off_dt_struct s + size_dt_struct s ≤ totalsize s
  pub strings_in : off_dt_strings s + size_dt_strings s ≤ totalsize s
  pub aligned : off_dt_struct s % 4 ≡ 0

-- the same as a test. HeaderLaws.good_header_lem ties the two
unfoldable pub good_header : List ℕ → Bool
good_header s =
    leb 40 (length s)
    && (eqb (magic s) 0xd00dfeed
    && (leb 40 (totalsize s)
    && (leb (totalsize s) (length s)
    && (leb 17 (version s)
    && (leb (last_comp_version s) 17
    && (leb 40 (off_dt_struct s)
    && (leb 40 (off_dt_strings s)
    && (leb (off_dt_struct s + size_dt_struct s) (totalsize s)
    && (leb (off_dt_strings s + size_dt_strings s) (totalsize s)
    && eqb (off_dt_struct s % 4) 0)))))))))

-- the structure block (section 5.4) and the strings block (section 5.5)
abbrev pub structure_of : List ℕ → List ℕ
structure_of s = part_of s (off_dt_struct s) (size_dt_struct s)

abbrev pub strings_of : List ℕ → List ℕ
strings_of s = part_of s (off_dt_strings s) (size_dt_strings s)
