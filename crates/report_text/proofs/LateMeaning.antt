-- What the text of late claims says beside the report: document 02, request L3, its program. Assumes nothing.
use Rattle.startup.specs.declared.Refusal.{Refusal}
use Rattle.startup.specs.declared.Summary.{Summary}
use Rattle.std.specs.Prelude.{Ok, Result, Err}
use mathlib.Core.Path.{◌≡◌, refl}
use mathlib.Core.List.{List, ◌++◌}
use Prim.Native.Nat.{ℕ, ◌/◌, ◌<◌}
use native.Mathlib.Omega.{arith}
use lib.ListN.{length, take, drop}
use Rattle.sheet.specs.declared.PageSheet.{PageSheet}
use Rattle.sheet.specs.Sheet.{slots_to}
use Rattle.memory.specs.declared.MemoryMap.{MemoryMap}
use Rattle.bootloader.specs.List.{claims, claims_at}
use Rattle.order.specs.Layout.{GoodOrder, file_end}
use Rattle.order.proofs.EndLaws.{file_before, file_behind}
use Rattle.startup.specs.Report.{report_number, report_of, slots_after, reported}
use Rattle.report_text.specs.Text.{count_line, area_lines, pages_line, text_of, report_text}
use Rattle.late_run.specs.Run.{run, late_all}
use Rattle.report_text.specs.LateText.{made_line, lines_of, text_by, text_behind, late_text}

-- "an order file and, right after its end (its length is what its header says), late claims"
pub split_text : (p : ℕ) {f : List ℕ} → GoodOrder f → (t l : List ℕ) → late_text p (f ++ t) l ≡ text_behind p f t l
unfolding late_text
split_text p g t l = rw (file_before g t, file_behind g t)

-- fewer than 24 bytes are no claim
few_claims : (p : ℕ) (m : MemoryMap) (n : ℕ) (l t : List ℕ) → length t < 24 → late_all p m n l 0 (claims t) ≡ run m n l 0 (Ok tt)
unfolding late_all claims_at
few_claims p m n l t h = let e : length t / 24 ≡ 0 = omega arith in rw e

module _ (p : ℕ) (s l : List ℕ) where
  -- the order file, and what follows it
  abbrev file : List ℕ
  file = take (file_end s) s

  abbrev rest : List ℕ
  rest = drop (file_end s) s

  -- "An order file that is refused prints `refused NUMBER` alone, as the report does."
  pub refused_alike : (report_number (report_of p file l) ≡ 0 → ⊥) → late_text p s l ≡ report_text p file l
  unfolding late_text text_behind report_text text_of
  refused_alike = go (report_of p file l)
    where
      go : (r : Result Summary Refusal) → (report_number r ≡ 0 → ⊥) → text_by p file rest l r ≡ text_of r (slots_after p file l)
      go (Ok x) f = absurd (f refl)
      go (Err r) f = refl

  -- "With no late claim the area lines are the report's": the count and the areas as the report has them, and then `late 0`
  pub no_claims : length rest < 24 → {n : ℕ} {sheet : PageSheet} → report_of p file l ≡ reported n sheet
      → (late_text p s l ≡ count_line n ++ (area_lines (slots_after p file l) (slots_to (slots_after p file l) n) 0 ++ made_line 0))
      × (report_text p file l ≡ count_line n ++ (area_lines (slots_after p file l) (slots_to (slots_after p file l) n) 0 ++ pages_line sheet))
  unfolding late_text text_behind lines_of report_text text_of
  no_claims h e = (rw (e, few_claims p _ _ _ rest h), rw e)
