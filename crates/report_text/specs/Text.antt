-- The report's text, byte for byte: document 01, "Order file and report".
use Rattle.startup.specs.declared.Refusal.{Refusal}
use Rattle.startup.specs.declared.Summary.{Summary}
use Rattle.std.specs.Prelude.{ℕ, zero, suc, ◌+◌, List, [], ◌∷◌, ◌++◌, get_or, Option, Some, None, Result, Ok, Err}
use Rattle.figures.specs.Figures.{decimal_text, hex_text}
use Rattle.sheet.specs.declared.PageSheet.{PageSheet}
use Rattle.sheet.specs.Share.{share_of, bits_of}
use Rattle.sheet.specs.Sheet.{slots_to}
use Rattle.startup.specs.Verdict.{refusal_number}
use Rattle.startup.specs.Report.{report_of, slots_after}

abbrev pub newline : List ℕ
newline = 10 ∷ []

abbrev pub space : List ℕ
space = 32 ∷ []

-- "decimal" and "16 hex digits" are those of Figures: `areas `, "the count, decimal"
unfoldable pub count_line : ℕ → List ℕ
count_line n = (97 ∷ 114 ∷ 101 ∷ 97 ∷ 115 ∷ 32 ∷ []) ++ (decimal_text n ++ newline)

-- "each base and size"
unfoldable pub area_line : ℕ → ℕ → List ℕ
area_line base size = hex_text base ++ (space ++ (hex_text size ++ newline))

-- of n areas from slot i on
unfoldable pub area_lines : List ℕ → ℕ → ℕ → List ℕ
area_lines l zero i = []
area_lines l (suc n) i = area_line (get_or l (i + i) 0) (get_or l (i + i + 1) 0) ++ area_lines l n (i + 1)

-- "the share's bits, hex (or `none`)"
abbrev pub bits_text : Option ℕ → List ℕ
bits_text None = 110 ∷ 111 ∷ 110 ∷ 101 ∷ []
bits_text (Some b) = hex_text b

-- the share of the sheet's two counts: a sheet that a build gives has no other
unfoldable pub share_text : PageSheet → List ℕ
share_text s = bits_text (bits_of (share_of s.free s.usable))

-- `pages `, "Free and usable pages, decimal; the share's bits"
unfoldable pub pages_line : PageSheet → List ℕ
pages_line s =
    (112 ∷ 97 ∷ 103 ∷ 101 ∷ 115 ∷ 32 ∷ [])
    ++ (decimal_text s.free ++ (space ++ (decimal_text s.usable ++ (space ++ (share_text s ++ newline)))))

-- "A refusal prints only `refused ` and the number."
unfoldable pub refused_line : ℕ → List ℕ
refused_line n = (114 ∷ 101 ∷ 102 ∷ 117 ∷ 115 ∷ 101 ∷ 100 ∷ 32 ∷ []) ++ (decimal_text n ++ newline)

-- the text of a report whose areas stand in l
unfoldable pub text_of : Result Summary Refusal → List ℕ → List ℕ
text_of (Ok x) l = count_line x.count ++ (area_lines l (slots_to l x.count) 0 ++ pages_line x.sheet)
text_of (Err r) l = refused_line (refusal_number r)

-- THE TEXT of an order file s, for lent slots l
unfoldable pub report_text : ℕ → List ℕ → List ℕ → List ℕ
report_text p s l = text_of (report_of p s l) (slots_after p s l)
