-- Laws of the report's lines: how long they are, the share's text at each answer, one area more behind the others and the loop that puts
-- them; and the whole text at each report, which a buffer of 17500 bytes holds. Assumes nothing.
use Rattle.startup.specs.declared.Summary.{Summary}
use Rattle.std.specs.Prelude.{Option, Some, None, ℕ, Result, Ok, Err}
use mathlib.Core.Path.{◌≡◌, refl, sym, ap, ◌∙◌}
use mathlib.Core.List.{List, [], ◌++◌, append_assoc, append-nil}
use Prim.Native.Nat.{ℕ, zero, suc, ◌+◌, ◌*◌, ◌/◌, ◌≤◌, min}
use native.Mathlib.Omega.{arith}
use native.Mathlib.Nat.{zero-add, add-zero}
use native.Mathlib.Numerals.{add-one}
use lib.ListN.{length, get_or, length-append}
use lib.Seq.{paste-zero}
use Rattle.sheet.specs.declared.PageSheet.{PageSheet}
use Rattle.sheet.specs.Share.{share_of, bits_of}
use Rattle.sheet.specs.Sheet.{slots_to}
use Rattle.startup.specs.declared.Refusal.{Refusal}
use Rattle.startup.specs.Verdict.{refusal_number}
use Rattle.startup.specs.Report.{Reports, reported}
use Rattle.figures.specs.Figures.{decimal_text, hex_text}
use Rattle.figures.proofs.DigitsLaws.{hex_length, decimal_length}
use Rattle.report_text.specs.Text.{bits_text, share_text, newline, space, count_line, area_line, area_lines, pages_line, refused_line, text_of, report_text}
use Rattle.pen.specs.Writing.{Writes, Lands}
use Rattle.pen.proofs.WritingLaws.{lands_append, as_text}

-- ── The share ──
bits_length : (r : Option ℕ) → length (bits_text r) ≤ 16
bits_length None = omega arith
bits_length (Some b) = omega (arith, hex_length b)

module _ (s : PageSheet) where
  pub share_length : length (share_text s) ≤ 16
  unfolding share_text
  share_length = bits_length (bits_of (share_of s.free s.usable))

  module _ {r : (Option ℕ)} (is : r ≡ bits_of (share_of s.free s.usable)) where
    pub share_none : r ≡ None → bits_text None ≡ share_text s
    unfolding share_text
    share_none e = ap bits_text (sym e ∙ is)

    pub share_bits : {b : ℕ} → r ≡ Some b → hex_text b ≡ share_text s
    unfolding share_text
    share_bits e = ap bits_text (sym e ∙ is)

-- ── The lines ──
pub area_length : (base size : ℕ) → length (area_line base size) ≡ 34
unfolding area_line
area_length base size =
    length-append (hex_text base) (space ++ (hex_text size ++ newline))
    ∙ ap (λ (k : ℕ). k + suc (length (hex_text size ++ newline))) (hex_length base)
    ∙ ap (λ (k : ℕ). 16 + suc k) (length-append (hex_text size) newline ∙ ap (λ (k : ℕ). k + 1) (hex_length size))

pub areas_length : (l : List ℕ) (n i : ℕ) → length (area_lines l n i) ≡ n * 34
unfolding area_lines
areas_length l zero i = refl
areas_length l (suc n) i =
    let base = get_or l (i + i) 0 in
    let size = get_or l (i + i + 1) 0 in
    let here = area_length base size in
    let there = areas_length l n (i + 1) in
    omega (arith, length-append (area_line base size) (area_lines l n (i + 1)))

-- one area more comes behind the others
line_at : List ℕ → ℕ → List ℕ
line_at l j = area_line (get_or l (j + j) 0) (get_or l (j + j + 1) 0)

lines_at : (l : List ℕ) (n i : ℕ) → area_lines l (suc n) i ≡ area_lines l n i ++ line_at l (i + n)
unfolding area_lines line_at
lines_at l zero i = append-nil (line_at l i) ∙ ap (line_at l) (sym (add-zero i))
lines_at l (suc n) i =
    ap (λ (r : List ℕ). line_at l i ++ r) (lines_at l n (i + 1) ∙ ap (λ (j : ℕ). area_lines l n (i + 1) ++ line_at l j) (omega arith))
    ∙ sym (append_assoc (line_at l i) (area_lines l n (i + 1)) (line_at l (i + suc n)))

lines_more : (l : List ℕ) (n : ℕ) → area_lines l n 0 ++ area_line (get_or l (n + n) 0) (get_or l (n + n + 1) 0) ≡ area_lines l (n + 1) 0
unfolding line_at
lines_more l n =
    ap (λ (j : ℕ). area_lines l n 0 ++ line_at l j) (sym (zero-add n))
    ∙ sym (lines_at l n 0) ∙ ap (λ (k : ℕ). area_lines l k 0) (sym (add-one n))

-- ── The loop of `put_areas`: the first i areas are put ──
module _ (slots : List ℕ) {out₀ : List ℕ} {at : ℕ} where
  pub begins : Lands out₀ at (area_lines slots 0 0) out₀ at
  unfolding area_lines
  begins h = record { put = paste-zero out₀ at []; end = omega arith }

  pub more : (i : ℕ) {out out' : List ℕ} {p p' : ℕ} → Lands out₀ at (area_lines slots i 0) out p
      → Lands out p (area_line (get_or slots (i + i) 0) (get_or slots (i + i + 1) 0)) out' p'
      → Lands out₀ at (area_lines slots (i + 1) 0) out' p'
  more i inv w = as_text (lines_more slots i) (lands_append inv w)

-- ── How long a text can be ──
pub count_length : (n : ℕ) → length (count_line n) ≤ 27
unfolding count_line
count_length n = omega (arith, length-append (decimal_text n) newline, decimal_length n)

pages_length : (s : PageSheet) → length (pages_line s) ≤ 65
unfolding pages_line
pages_length s =
    let share = share_text s ++ newline in
    let usable = decimal_text s.usable ++ (space ++ share) in
    omega (
      arith,
      length-append (decimal_text s.free) (space ++ usable),
      length-append (decimal_text s.usable) (space ++ share),
      length-append (share_text s) newline,
      decimal_length s.free,
      decimal_length s.usable,
      share_length s,
    )

pub refused_length : (n : ℕ) → length (refused_line n) ≤ 29
unfolding refused_line
refused_length n = omega (arith, length-append (decimal_text n) newline, decimal_length n)

-- the count, the areas and a last line t
pub lines_length : (l : List ℕ) (n : ℕ) (t : List ℕ) → length l ≡ 1024 → length t ≤ 65
    → length (count_line n ++ (area_lines l (slots_to l n) 0 ++ t)) ≤ 17500
lines_length l n t slots few =
    let k = slots_to l n in
    omega (
      arith,
      length-append (count_line n) (area_lines l k 0 ++ t),
      length-append (area_lines l k 0) t,
      count_length n,
      areas_length l k 0,
    )

pub text_length : (r : Result Summary Refusal) (l : List ℕ) → length l ≡ 1024 → length (text_of r l) ≤ 17500
unfolding text_of
text_length (Ok x) l slots = lines_length l x.count (pages_line x.sheet) slots (pages_length x.sheet)
text_length (Err r) l slots = omega (arith, refused_length (refusal_number r))

-- ── The whole text ──
module _ {report : (Result Summary Refusal)} (l : List ℕ) where
  pub refused_text : {r : Refusal} {n : ℕ} → report ≡ Err r → n ≡ refusal_number r → refused_line n ≡ text_of report l
  unfolding text_of
  refused_text e is = ap refused_line is ∙ ap (λ (x : Result Summary Refusal). text_of x l) (sym e)

  pub done_text : {n k : ℕ} {sheet : PageSheet} → report ≡ reported n sheet → length l ≡ 1024 → k ≡ min n 512
      → count_line n ++ (area_lines l k 0 ++ pages_line sheet) ≡ text_of report l
  unfolding text_of
  done_text {n} {k} {sheet} e slots is =
      ap (λ (j : ℕ). count_line n ++ (area_lines l j 0 ++ pages_line sheet)) (is ∙ ap (λ (m : ℕ). min n (m / 2)) (sym slots))
      ∙ ap (λ (x : Result Summary Refusal). text_of x l) (sym e)

-- the text of what the build answered and left, as the text of the order file
pub text_of_report : {p : ℕ} {s l l' out out' : List ℕ} {r : (Result Summary Refusal)} {k : ℕ} → Reports p s l l' r → Writes out 0 (text_of r l') out' k
    → Writes out 0 (report_text p s l) out' k
unfolding report_text
text_of_report b w = rw (← b.report, ← b.slots) w
