-- Laws on little-endian numbers in a list: a number past the end is 0, and eight bytes are one number. Assumes nothing.
use mathlib.Core.Path.{◌≡◌, ap, sym, ◌∙◌}
use Prim.Native.Nat.{ℕ, ◌+◌, ◌*◌, ◌≤◌, ◌<◌}
use native.Mathlib.Decide.{dec_le}
use native.Mathlib.Omega.{arith}
use mathlib.Core.List.{List}
use lib.ListN.{length, get_or, get_or-eq_default}
use Rattle.words.specs.Little.{half, quarter, eight}

pub half_past : (s : List ℕ) (at : ℕ) → length s ≤ at → half s at ≡ 0
unfolding half
half_past s at h = rw (get_or-eq_default s 0 {n = at} h, get_or-eq_default s 0 {n = at + 1} (omega arith))

pub quarter_past : (s : List ℕ) (at : ℕ) → length s ≤ at → quarter s at ≡ 0
unfolding quarter
quarter_past s at h = rw (half_past s at h, half_past s (at + 2) (omega arith))

pub eight_past : (s : List ℕ) (at : ℕ) → length s ≤ at → eight s at ≡ 0
unfolding eight
eight_past s at h = rw (quarter_past s at h, quarter_past s (at + 4) (omega arith))

-- a place that a sum or a product was cut off at, past the end: the eight bytes there are those at the place itself
pub eight_capped : (s : List ℕ) (at x : ℕ) → (at < length s → x ≡ at) → (length s ≤ at → length s ≤ x) → eight s x ≡ eight s at
eight_capped s at x same past = by (dec_le (length s) at)
  where
    by : Dec (length s ≤ at) → eight s x ≡ eight s at
    by (yes h) = eight_past s x (past h) ∙ sym (eight_past s at h)
    by (no h) = ap (eight s) (same (omega arith))

-- byte by byte, the lowest innermost last: as the eight bytes are read at once
pub eight_is : (s : List ℕ) (at : ℕ) → eight s at
    ≡ ((((((((get_or s (at + 7) 0 * 256 + get_or s (at + 6) 0) * 256 + get_or s (at + 5) 0) * 256 + get_or s (at + 4) 0) * 256 + get_or s (at + 3) 0) * 256
    + get_or s (at + 2) 0) * 256 + get_or s (at + 1) 0) * 256 + get_or s at 0))
unfolding eight quarter half
eight_is s at =
    let a : at + 2 + 1 ≡ at + 3 = omega arith in
    let b : at + 4 + 1 ≡ at + 5 = omega arith in
    let c : at + 4 + 2 ≡ at + 6 = omega arith in
    let d : at + 6 + 1 ≡ at + 7 = omega arith in
    rw (a, b, c, d) (omega arith)
