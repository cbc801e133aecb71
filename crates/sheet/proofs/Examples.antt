-- Worked examples, each a closed case that antt computes: the bits of a share. The first is the document's case S. Assumes nothing.
use Rattle.std.specs.Prelude.{Some, None}
use mathlib.Core.Path.{◌≡◌, refl}
use lib.Ieee.{to_bits}
use Rattle.sheet.specs.Share.{quotient, counted, share_of, bits_of}

pub case_s : bits_of (share_of 2048 1534) ≡ Some 0x3fe7_f800_0000_0000
unfolding quotient counted to_bits
case_s = refl

pub none_free : bits_of (share_of 0 0) ≡ None
none_free = refl

-- positive zero
pub none_usable : bits_of (share_of 5 0) ≡ Some 0
unfolding quotient counted to_bits
none_usable = refl

pub all_usable : bits_of (share_of 7 7) ≡ Some 0x3ff0_0000_0000_0000
unfolding quotient counted to_bits
all_usable = refl

-- rounded down; `fifth`, below, is rounded up
pub third : bits_of (share_of 3 1) ≡ Some 0x3fd5_5555_5555_5555
unfolding quotient counted to_bits
third = refl

pub fifth : bits_of (share_of 5 1) ≡ Some 0x3fc9_9999_9999_999a
unfolding quotient counted to_bits
fifth = refl

-- the least and the most of counts below 2 ^ 52, but for none and all
pub least : bits_of (share_of 0xf_ffff_ffff_ffff 1) ≡ Some 0x3cb0_0000_0000_0001
unfolding quotient counted to_bits
least = refl

pub most : bits_of (share_of 0xf_ffff_ffff_ffff 0xf_ffff_ffff_fffe) ≡ Some 0x3fef_ffff_ffff_fffe
unfolding quotient counted to_bits
most = refl

-- a larger number counts as the largest count
pub over : bits_of (share_of 0xffff_ffff_ffff_ffff 0x10_0000_0000_0000) ≡ Some 0x3ff0_0000_0000_0000
unfolding quotient counted to_bits
over = refl
