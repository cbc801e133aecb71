-- Laws of the text of late claims: which line is the last, how long the lines are, and the whole text by what the build reported.
-- Assumes nothing.
use Rattle.late_claim.specs.declared.LateRefusal.{LateRefusal}
use Rattle.std.specs.Prelude.{Result, Ok, Err}
use mathlib.Core.Path.{◌≡◌, sym, ap, ◌∙◌}
use mathlib.Core.List.{List, [], ◌∷◌, ◌++◌}
use Prim.Native.Nat.{ℕ, ◌-◌, ◌/◌, ◌≤◌, min}
use native.Mathlib.Omega.{arith}
use lib.ListN.{length, take, drop, length-drop, length-append}
use lib.Seq.{take-length}
use Rattle.page.specs.Round.{Page}
use Rattle.memory.specs.Made.{Made}
use Rattle.sheet.specs.declared.PageSheet.{PageSheet}
use Rattle.bootloader.specs.List.{claims}
use Rattle.order.specs.Layout.{file_end}
use Rattle.startup.specs.declared.Refusal.{Refusal}
use Rattle.startup.specs.declared.Start.{Start}
use Rattle.startup.specs.Verdict.{refusal_number}
use Rattle.startup.specs.Report.{report_of, slots_after, reported}
use Rattle.startup.specs.Start.{map_left, Starts}
use Rattle.startup.proofs.StartLaws.{left_made}
use Rattle.figures.specs.Figures.{decimal_text, labelled}
use Rattle.figures.proofs.DigitsLaws.{decimal_length}
use Rattle.report_text.specs.Text.{newline, count_line, area_lines, refused_line}
use Rattle.report_text.proofs.TextLaws.{lines_length}
use Rattle.late_claim.specs.Late.{late_refusal_number, late_number}
use Rattle.late_run.specs.declared.LateRun.{LateRun}
use Rattle.late_run.specs.Run.{Run, late_all, ran}
use Rattle.report_text.specs.LateText.{made_line, refused_at_line, last_line, lines_of, run_text, text_behind, late_text, late_slots}

-- ── The last line ──
module _ (a : Result Unit LateRefusal) (i : ℕ) where
  pub last_made : a ≡ Ok tt → made_line i ≡ last_line a i
  last_made e = rw e

  -- k is the refusal's number
  pub last_refused : {r : LateRefusal} {k : ℕ} → a ≡ Err r → k ≡ late_refusal_number r → refused_at_line k i ≡ last_line a i
  last_refused e is = rw (e, is)

-- ── The areas and the last line ──
pub lines_of_lem : (n : ℕ) {k : ℕ} (l : List ℕ) (a : Result Unit LateRefusal) (i : ℕ) → length l ≡ 1024 → k ≡ min n 512
    → count_line n ++ (area_lines l k 0 ++ last_line a i) ≡ lines_of n l a i
unfolding lines_of
lines_of_lem n {k} l a i slots is =
    ap (λ (j : ℕ). count_line n ++ (area_lines l j 0 ++ last_line a i)) (is ∙ ap (λ (m : ℕ). min n (m / 2)) (sym slots))

last_length : (a : Result Unit LateRefusal) (i : ℕ) → length (last_line a i) ≤ 53
unfolding made_line refused_at_line
last_length (Ok u) i = omega (arith, length-append (decimal_text i) newline, decimal_length i)
last_length (Err r) i =
    let k = late_number (Err r) in
    let behind = labelled (32 ∷ 97 ∷ 116 ∷ 32 ∷ []) i ++ newline in
    omega (arith, length-append (decimal_text k) behind, length-append (decimal_text i) newline, decimal_length k, decimal_length i)

pub run_length : (n : ℕ) (l : List ℕ) (a : Result Unit LateRefusal) (i : ℕ) → length l ≡ 1024 → length (lines_of n l a i) ≤ 17500
unfolding lines_of
run_length n l a i slots = lines_length l n (last_line a i) slots (omega (arith, last_length a i))

-- ── The whole: e is where the file ends, x what the build gave, and l' the slots then ──
module _ {p : ℕ} (s : List ℕ) {l l' : List ℕ} {e : ℕ} {x : Start} (end : e ≡ file_end s) (starts : Starts p (take e s) l l' x) where
  pub start_made : Page p → Made p x.map
  start_made g = rw starts.map (left_made p (take e s) l g)

  -- the report, of the file itself
  report_is : report_of p (take (file_end s) s) l ≡ x.report
  report_is = rw (← end) (sym starts.reports.report)

  pub text_refused : {f : Refusal} {k : ℕ} → x.report ≡ Err f → k ≡ refusal_number f → refused_line k ≡ late_text p s l
  unfolding late_text text_behind
  text_refused {f} {k} d is =
      let r : report_of p (take (file_end s) s) l ≡ Err f = report_is ∙ d in
      rw (r, is)

  pub slots_refused : {f : Refusal} → x.report ≡ Err f → l' ≡ late_slots p s l
  unfolding late_slots
  slots_refused {f} d =
      let r : report_of p (take (file_end s) s) l ≡ Err f = report_is ∙ d in
      rw (r, ← end) starts.reports.slots

  -- what the code cuts off behind the file is all that is there
  behind : take (length s - e) (drop e s) ≡ drop e s
  behind = ap (λ (k : ℕ). take k (drop e s)) (sym (length-drop e s)) ∙ take-length (drop e s)

  -- what the claims behind the file left
  module _ {n : ℕ} {sheet : PageSheet} (done : x.report ≡ reported n sheet) {y : LateRun} {l'' : List ℕ}
      (run : ran y l'' ≡ late_all p x.map n l' 0 (claims (take (length s - e) (drop e s)))) where
    is_done_lem : report_of p (take (file_end s) s) l ≡ reported n sheet
    is_done_lem = report_is ∙ done

    run_is : ran y l'' ≡ late_all p (map_left p (take (file_end s) s) l) n (slots_after p (take (file_end s) s) l) 0 (claims (drop (file_end s) s))
    run_is = rw (← end, ← starts.map, ← starts.reports.slots, ← behind) run

    pub text_done : lines_of y.count l'' y.answer y.index ≡ late_text p s l
    unfolding late_text text_behind
    text_done = rw is_done_lem (ap run_text run_is)

    pub slots_done : l'' ≡ late_slots p s l
    unfolding late_slots
    slots_done = rw is_done_lem (ap (λ (z : Run). z.table) run_is)
