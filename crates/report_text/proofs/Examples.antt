-- Worked examples, each a closed case that antt computes: the text of the document's case S and of a refusal, a line
-- with no share, and the longest number. Assumes nothing.
use Rattle.startup.specs.Report.{reported}
use Rattle.std.specs.Prelude.{Err}
use mathlib.Core.Path.{◌≡◌, refl}
use Prim.Native.Nat.{ℕ}
use mathlib.Core.List.{List, [], ◌∷◌, ◌++◌}
use lib.Ieee.{to_bits}
use Rattle.sheet.specs.Share.{quotient, counted}
use Rattle.sheet.specs.Sheet.{sheet_of}
use Rattle.startup.specs.declared.Refusal.TheVariants.{BadOrder}
use Rattle.figures.specs.Figures.{width_by, decimal_text, hex_text}
use Rattle.report_text.specs.Text.{count_line, area_line, area_lines, share_text, pages_line, refused_line, text_of}

-- `areas 3`
abbrev count : List ℕ
count =
    97 ∷ 114 ∷ 101 ∷ 97 ∷ 115 ∷ 32 ∷ 51 ∷ 10 ∷ []

-- `0000000000000000 0000000000100000`
abbrev first : List ℕ
first =
    48 ∷ 48 ∷ 48 ∷ 48 ∷ 48 ∷ 48 ∷ 48 ∷ 48 ∷ 48 ∷ 48 ∷ 48 ∷ 48 ∷ 48 ∷ 48 ∷ 48 ∷ 48 ∷ 32 ∷
    48 ∷ 48 ∷ 48 ∷ 48 ∷ 48 ∷ 48 ∷ 48 ∷ 48 ∷ 48 ∷ 48 ∷ 49 ∷ 48 ∷ 48 ∷ 48 ∷ 48 ∷ 48 ∷ 10 ∷ []

-- `0000000000300000 0000000000100000`
abbrev second : List ℕ
second =
    48 ∷ 48 ∷ 48 ∷ 48 ∷ 48 ∷ 48 ∷ 48 ∷ 48 ∷ 48 ∷ 48 ∷ 51 ∷ 48 ∷ 48 ∷ 48 ∷ 48 ∷ 48 ∷ 32 ∷
    48 ∷ 48 ∷ 48 ∷ 48 ∷ 48 ∷ 48 ∷ 48 ∷ 48 ∷ 48 ∷ 48 ∷ 49 ∷ 48 ∷ 48 ∷ 48 ∷ 48 ∷ 48 ∷ 10 ∷ []

-- `0000000000402000 00000000003fe000`
abbrev third : List ℕ
third =
    48 ∷ 48 ∷ 48 ∷ 48 ∷ 48 ∷ 48 ∷ 48 ∷ 48 ∷ 48 ∷ 48 ∷ 52 ∷ 48 ∷ 50 ∷ 48 ∷ 48 ∷ 48 ∷ 32 ∷
    48 ∷ 48 ∷ 48 ∷ 48 ∷ 48 ∷ 48 ∷ 48 ∷ 48 ∷ 48 ∷ 48 ∷ 51 ∷ 102 ∷ 101 ∷ 48 ∷ 48 ∷ 48 ∷ 10 ∷ []

-- `pages 2048 1534 3fe7f80000000000`
abbrev pages : List ℕ
pages =
    112 ∷ 97 ∷ 103 ∷ 101 ∷ 115 ∷ 32 ∷ 50 ∷ 48 ∷ 52 ∷ 56 ∷ 32 ∷ 49 ∷ 53 ∷ 51 ∷ 52 ∷ 32 ∷ 51 ∷
    102 ∷ 101 ∷ 55 ∷ 102 ∷ 56 ∷ 48 ∷ 48 ∷ 48 ∷ 48 ∷ 48 ∷ 48 ∷ 48 ∷ 48 ∷ 48 ∷ 48 ∷ 10 ∷ []

pub case_s :
    text_of (reported 3 (sheet_of 2048 1534)) (0 ∷ 0x10_0000 ∷ 0x30_0000 ∷ 0x10_0000 ∷ 0x40_2000 ∷ 0x3f_e000 ∷ [])
    ≡ count ++ (first ++ (second ++ (third ++ pages)))
unfolding width_by decimal_text hex_text count_line area_line area_lines share_text pages_line text_of quotient counted to_bits
case_s = refl

-- `refused 9`
pub refused_order : (l : List ℕ) → text_of (Err BadOrder) l ≡ 114 ∷ 101 ∷ 102 ∷ 117 ∷ 115 ∷ 101 ∷ 100 ∷ 32 ∷ 57 ∷ 10 ∷ []
unfolding width_by decimal_text refused_line text_of
refused_order l = refl

-- `pages 0 0 none`
pub none_free : pages_line (sheet_of 0 0) ≡ 112 ∷ 97 ∷ 103 ∷ 101 ∷ 115 ∷ 32 ∷ 48 ∷ 32 ∷ 48 ∷ 32 ∷ 110 ∷ 111 ∷ 110 ∷ 101 ∷ 10 ∷ []
unfolding width_by decimal_text share_text pages_line
none_free = refl

-- `18446744073709551615`
pub longest :
    decimal_text 0xffff_ffff_ffff_ffff
    ≡ 49 ∷ 56 ∷ 52 ∷ 52 ∷ 54 ∷ 55 ∷ 52 ∷ 52 ∷ 48 ∷ 55 ∷ 51 ∷ 55 ∷ 48 ∷ 57 ∷ 53 ∷ 53 ∷ 49 ∷ 54 ∷ 49 ∷ 53 ∷ []
unfolding width_by decimal_text
longest = refl
