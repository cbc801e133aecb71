-- What is read of a stream of cases, and how cases are counted.
use Rattle.std.specs.Prelude.{◌≡◌, ℕ, ◌+◌, ◌*◌, ◌%◌, ◌^◌, ◌<◌, ◌≤◌, Bool, true, false, cond, List, length, ◌==◌, slice_index}
use Rattle.stream.specs.declared.Tally.{Tally}

-- the number in the 8 bytes at place i, the lowest byte first
abbrev pub number : List ℕ → ℕ → ℕ
number l i =
    slice_index l i
    + 256 * (slice_index l (i + 1)
    + 256 * (slice_index l (i + 2)
    + 256 * (slice_index l (i + 3)
    + 256 * (slice_index l (i + 4)
    + 256 * (slice_index l (i + 5)
    + 256 * (slice_index l (i + 6)
    + 256 * slice_index l (i + 7)))))))

-- r is the number at place i, or 0 where the bytes do not have it whole
abbrev pub NumberAt : List ℕ → ℕ → ℕ → Type 0
NumberAt l i r = (i + 8 ≤ length l → r ≡ number l i) × (length l < i + 8 → r ≡ 0)

-- r is the place n bytes further on than place i, or the end of the bytes where that lies past it
abbrev pub Ahead : List ℕ → ℕ → ℕ → ℕ → Type 0
Ahead l i n r = (i + n ≤ length l → r ≡ i + n) × (length l < i + n → r ≡ length l)

-- a, b and c are the three numbers from place i on
abbrev pub Three : List ℕ → ℕ → ℕ → ℕ → ℕ → Type 0
Three l i a b c = NumberAt l i a × NumberAt l (i + 8) b × NumberAt l (i + 16) c

-- r is true where A holds, and nowhere else
abbrev pub Tells : Bool → Type 0 → Type 0
Tells r A = (r ≡ true → A) × (A → r ≡ true)

-- before the first case
abbrev pub none : Tally
none = record { cases = 0; differ = 0; case = 0; part = 0; cut = false }

-- one more, as a 64-bit count goes
abbrev pub more : ℕ → ℕ
more n = (n + 1) % 2 ^ 64

-- with one case more, and the part of it that differs, or 0; the first that differs is kept
unfoldable pub and_case : Tally → ℕ → Tally
and_case t part =
    cond (part == 0)
    (record { cases = more t.cases; differ = t.differ; case = t.case; part = t.part; cut = t.cut })
    (cond (t.differ == 0)
    (record { cases = more t.cases; differ = 1; case = t.cases; part = part; cut = t.cut })
    (record { cases = more t.cases; differ = more t.differ; case = t.case; part = t.part; cut = t.cut }))
