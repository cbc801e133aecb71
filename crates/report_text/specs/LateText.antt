-- The text of late claims behind an order file, byte for byte: document 02, request L3.
use Rattle.startup.specs.declared.Refusal.{Refusal}
use Rattle.startup.specs.declared.Summary.{Summary}
use Rattle.late_claim.specs.declared.LateRefusal.{LateRefusal}
use Rattle.std.specs.Prelude.{ℕ, List, [], ◌∷◌, ◌++◌, take, drop, Result, Ok, Err}
use Rattle.sheet.specs.Sheet.{slots_to}
use Rattle.bootloader.specs.List.{claims}
use Rattle.order.specs.Layout.{file_end}
use Rattle.startup.specs.Verdict.{refusal_number}
use Rattle.startup.specs.Report.{report_of, slots_after}
use Rattle.startup.specs.Start.{map_left}
use Rattle.figures.specs.Figures.{labelled}
use Rattle.report_text.specs.Text.{newline, count_line, area_lines, refused_line}
use Rattle.late_claim.specs.Late.{late_number, on_done}
use Rattle.late_run.specs.Run.{Run, late_all}

-- `late K` "with the number of claims made"
unfoldable pub made_line : ℕ → List ℕ
made_line i = labelled (108 ∷ 97 ∷ 116 ∷ 101 ∷ 32 ∷ []) i ++ newline

-- `refused NUMBER at K` "with the index of the one that was refused, counted from 0"
unfoldable pub refused_at_line : ℕ → ℕ → List ℕ
refused_at_line k i =
    labelled (114 ∷ 101 ∷ 102 ∷ 117 ∷ 115 ∷ 101 ∷ 100 ∷ 32 ∷ []) k ++ (labelled (32 ∷ 97 ∷ 116 ∷ 32 ∷ []) i ++ newline)

abbrev pub last_line : Result Unit LateRefusal → ℕ → List ℕ
last_line a i = on_done a (made_line i) (refused_at_line (late_number a) i)

-- `areas N`, "the N area lines as the report does", and the last line: n areas stand in l
unfoldable pub lines_of : ℕ → List ℕ → Result Unit LateRefusal → ℕ → List ℕ
lines_of n l a i = count_line n ++ (area_lines l (slots_to l n) 0 ++ last_line a i)

abbrev pub run_text : Run → List ℕ
run_text r = lines_of r.count r.table r.answer r.index

-- the order file f with the bytes t behind it, for lent slots l, where the build reported
abbrev pub text_by : ℕ → List ℕ → List ℕ → List ℕ → Result Summary Refusal → List ℕ
text_by p f t l (Ok x) = run_text (late_all p (map_left p f l) x.count (slots_after p f l) 0 (claims t))
-- "An order file that is refused prints `refused NUMBER` alone, as the report does."
text_by p f t l (Err r) = refused_line (refusal_number r)

unfoldable pub text_behind : ℕ → List ℕ → List ℕ → List ℕ → List ℕ
text_behind p f t l = text_by p f t l (report_of p f l)

-- THE TEXT of an input s, for lent slots l: "an order file and, right after its end .., late claims of 24 bytes"
unfoldable pub late_text : ℕ → List ℕ → List ℕ → List ℕ
late_text p s l = text_behind p (take (file_end s) s) (drop (file_end s) s) l

-- the slots when the claims are made; those of a refused build are as they were
abbrev pub slots_by : ℕ → List ℕ → List ℕ → List ℕ → Result Summary Refusal → List ℕ
slots_by p f t l (Ok x) = (late_all p (map_left p f l) x.count (slots_after p f l) 0 (claims t)).table
slots_by p f t l (Err r) = slots_after p f l

-- THE SLOTS after an input s, where they were l
unfoldable pub late_slots : ℕ → List ℕ → List ℕ → List ℕ
late_slots p s l = slots_by p (take (file_end s) s) (drop (file_end s) s) l (report_of p (take (file_end s) s) l)
