-- A number's bytes are those of the library's `to_be_bytes`. Assumes nothing.
use Rattle.std.proofs.Common.{◌≡◌, ℕ, ◌/◌, ◌%◌, arith}
use Rattle.std.specs.Int.{to_be_bytes, w32, w64}
use Rattle.pen.specs.Numbers.{bytes4, bytes8}

pub low_bytes : (w : ℕ) → to_be_bytes w32 (w % 4294967296) ≡ bytes4 w
unfolding bytes4
low_bytes w =
    let a : w % 4294967296 / 16777216 % 256 ≡ w / 256 / 256 / 256 % 256 = omega arith in
    let b : w % 4294967296 / 65536 % 256 ≡ w / 256 / 256 % 256 = omega arith in
    let c : w % 4294967296 / 256 % 256 ≡ w / 256 % 256 = omega arith in
    let d : w % 4294967296 % 256 ≡ w % 256 = omega arith in
    cc

pub all_bytes : (w : ℕ) → to_be_bytes w64 w ≡ bytes8 w
unfolding bytes8 bytes4
all_bytes w =
    let a : w / 72057594037927936 % 256 ≡ w / 4294967296 / 256 / 256 / 256 % 256 = omega arith in
    let b : w / 281474976710656 % 256 ≡ w / 4294967296 / 256 / 256 % 256 = omega arith in
    let c : w / 1099511627776 % 256 ≡ w / 4294967296 / 256 % 256 = omega arith in
    let d : w / 16777216 % 256 ≡ w % 4294967296 / 256 / 256 / 256 % 256 = omega arith in
    let e : w / 65536 % 256 ≡ w % 4294967296 / 256 / 256 % 256 = omega arith in
    let f : w / 256 % 256 ≡ w % 4294967296 / 256 % 256 = omega arith in
    let g : w % 256 ≡ w % 4294967296 % 256 = omega arith in
    cc
