-- What the two calls over a map's memory leave, from what their callees leave. Assumes nothing.
use Rattle.startup.specs.declared.Summary.{Summary}
use Rattle.std.specs.Prelude.{Result, Ok, Err}
use Rattle.std.specs.Result.{result_unwrap_or, result_and}
use mathlib.Core.Path.{◌≡◌, ap, sym, ◌∙◌}
use mathlib.Core.List.{List}
use Prim.Native.Nat.{ℕ}
use Rattle.entry.specs.declared.Claim.{Claim}
use Rattle.memory.specs.declared.MemoryMap.{MemoryMap}
use Rattle.numbers.specs.Number.{number_by}
use Rattle.late_claim.specs.declared.LateRefusal.{LateRefusal}
use Rattle.late_claim.specs.declared.Late.{Late}
use Rattle.late_claim.specs.Late.{After, late_number, late_refusal_number, late_of, after, after_in}
use Rattle.late_run.proofs.Running.{left_is, number_is}
use Rattle.map_numbers.specs.Numbers.{map_in, numbers_of}
use Rattle.sheet.specs.declared.PageSheet.{PageSheet}
use Rattle.startup.specs.declared.Refusal.{Refusal}
use Rattle.startup.specs.Report.{report_of, reported}
use Rattle.startup.specs.Start.{map_left}
use Rattle.service.specs.declared.WharfthrumLate.{WharfthrumLate}
use Rattle.service.specs.Late.{numbers_left, memory_after, plain_late}

-- ── A build: its report r ──
module _ (p : ℕ) (s l k : List ℕ) (r : Result Summary Refusal) (is : r ≡ report_of p s l) where
  pub left_refused : {f : Refusal} → r ≡ Err f → k ≡ memory_after p s l k
  unfolding memory_after
  left_refused e = sym (ap (λ (x : Result Summary Refusal). numbers_left x (map_left p s l) k) (sym is ∙ e))

  pub left_done : {n : ℕ} {sheet : PageSheet} → r ≡ reported n sheet → {m : MemoryMap} → m ≡ map_left p s l
      → {k' : List ℕ} → k' ≡ numbers_of m → k' ≡ memory_after p s l k
  unfolding memory_after
  left_done e h i = i ∙ ap numbers_of h ∙ sym (ap (λ (x : Result Summary Refusal). numbers_left x (map_left p s l) k) (sym is ∙ e))

-- ── A late claim by value: on the map m, which was loaded from the numbers k, it left r and the slots l' ──
abbrev plain_with : ℕ → Late → WharfthrumLate
plain_with x r = record { number = x; count = r.count }

module _ (p : ℕ) (k : List ℕ) (c : Claim) (n : ℕ) (l : List ℕ) {m : MemoryMap} (loaded : m ≡ map_in k) {r : Late} {l' : List ℕ} (is : after r l' ≡ late_of p m c n l) where
  whole : after r l' ≡ late_of p (map_in k) c n l
  whole = is ∙ ap (λ (z : MemoryMap). late_of p z c n l) loaded

  pub left_answer : {x : ℕ} → x ≡ late_number r.answer → plain_with x r ≡ plain_late (late_of p (map_in k) c n l)
  left_answer e = ap (λ (z : ℕ). plain_with z r) e ∙ ap plain_late whole

  pub left_slots : l' ≡ (late_of p (map_in k) c n l).table
  left_slots = ap (λ (a : After). a.table) whole

  pub left_memory : {k' : List ℕ} → k' ≡ numbers_of r.map → k' ≡ numbers_of (late_of p (map_in k) c n l).map
  left_memory e = e ∙ ap (λ (a : After). numbers_of a.map) whole

-- ── In place: it answered r and left the map m' and the slots l'. By value it would have handed back this ──
abbrev by_value : MemoryMap → ℕ → Result ℕ LateRefusal → Late
by_value m n r = record { map = m; count = result_unwrap_or r n; answer = result_and r (Ok tt) }

abbrev plain_in : ℕ → ℕ → WharfthrumLate
plain_in x y = record { number = x; count = y }

module _ (p : ℕ) (k : List ℕ) (c : Claim) (n : ℕ) (l : List ℕ) {m : MemoryMap} (loaded : m ≡ map_in k) (m' : MemoryMap) (l' : List ℕ) (r : Result ℕ LateRefusal) (is : after_in m' n l' r ≡ late_of p m c n l) where
  same : after (by_value m' n r) l' ≡ late_of p m c n l
  same = left_is m' n l' r ∙ is

  pub left_in_answer : {x y : ℕ} → x ≡ number_by late_refusal_number r → y ≡ result_unwrap_or r n → plain_in x y ≡ plain_late (late_of p (map_in k) c n l)
  left_in_answer e f = rw f (left_answer p k c n l loaded {r = by_value m' n r} same (e ∙ number_is r))

  pub left_in_slots : l' ≡ (late_of p (map_in k) c n l).table
  left_in_slots = left_slots p k c n l loaded {r = by_value m' n r} same

  pub left_in_memory : {k' : List ℕ} → k' ≡ numbers_of m' → k' ≡ numbers_of (late_of p (map_in k) c n l).map
  left_in_memory e = left_memory p k c n l loaded {r = by_value m' n r} same e
