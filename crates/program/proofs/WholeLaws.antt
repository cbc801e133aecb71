-- The whole of a program: what it read is what its reader had, as far as it reads, and what it wrote is the text of that. Assumes nothing.
use Rattle.std.specs.Prelude.{Result, Ok}
use Rattle.std.proofs.Common.{◌≡◌, ℕ, ◌≤◌, ◌<◌, List, [], ◌++◌, arith, length, take, sym, ap, ◌∙◌, subst, lt_of_not-le, take_all, length-take-le}
use Rattle.std.proofs.lemmas.List.{take-append-le, append-nil}
use Rattle.std.specs.Prelude.{Option, None, Some}
use Rattle.std.specs.Io.KnownBytes.{Consumes, IsAtEnd, Appends}
use native.Mathlib.Decide.{dec_le}
use Rattle.standard.specs.declared.Failure.{Failure}
use Rattle.report_text.specs.Text.{report_text}
use Rattle.report_text.specs.LateText.{late_text}
use Rattle.pen.specs.Writing.{Writes}
use Rattle.pen.proofs.WritingLaws.{text_taken}
use Rattle.program.specs.Whole.{lent_slots, Reports, ReportsLate, RefusesLong}

-- a space that is full holds the first bytes of what was there, and one with room to spare holds them all
module _ (space s rest : List ℕ) (n : ℕ) (lost : s ≡ take n space ++ rest) (within : n ≤ length space) where
  all_of : rest ≡ [] → s ≡ take n space
  all_of e = lost ∙ ap (λ l. take n space ++ l) e ∙ append-nil (take n space)

  held : length (take n space) ≡ n
  held = length-take-le n space within

  first_of : (n < length space → rest ≡ []) → take n space ≡ take (length space) s
  first_of ended = go (dec_le (length space) n) where
    go : Dec (length space ≤ n) → take n space ≡ take (length space) s
    go (yes full) =
        sym
        (ap (take (length space)) lost
        ∙ take-append-le (length space) (take n space) rest (omega (arith, held))
        ∙ take_all (length space) (take n space) (omega (arith, held)))
    go (no room) =
        let e = all_of (ended (lt_of_not-le room)) in
        sym (ap (take (length space)) (e) ∙ take_all (length space) (take n space) (omega (arith, held)))

-- `report`: from what reading and writing ensure
pub reported :
    (known after old new : Option (List ℕ)) (space buffer out : List ℕ) (n k : ℕ) (r : Result Unit Failure) → length space ≡ 65537
    → n ≤ length space → Consumes known after (take n space) × (n < length space → IsAtEnd after)
    → Writes buffer 0 (report_text 4096 (take n space) lent_slots) out k → (r ≡ Ok tt → Appends old new (take k out)) → Reports known old new r
reported None after old new space buffer out n k r long within reads text writes = tt
reported (Some s) None old new space buffer out n k r long within reads text writes = absurd reads.0
reported (Some s) (Some rest) old new space buffer out n k r long within reads text writes =
    λ e.
    subst (Appends old new)
    (text_taken text
    ∙ ap (λ f. report_text 4096 f lent_slots) (first_of space s rest n reads.0 within reads.1 ∙ ap (λ m. take m s) long))
    (writes e)

-- the same for `late`, which takes less than it has room for
pub reported_late :
    (known after old new : Option (List ℕ)) (space buffer out : List ℕ) (n k : ℕ) (r : Result Unit Failure) → n < length space → n ≤ 262144
    → Consumes known after (take n space) × (n < length space → IsAtEnd after)
    → Writes buffer 0 (late_text 4096 (take n space) lent_slots) out k → (r ≡ Ok tt → Appends old new (take k out)) → ReportsLate known old new r
reported_late None after old new space buffer out n k r room few reads text writes = tt
reported_late (Some s) None old new space buffer out n k r room few reads text writes = absurd reads.0
reported_late (Some s) (Some rest) old new space buffer out n k r room few reads text writes =
    let all = all_of space s rest n reads.0 (omega arith) (reads.1 room) in
    λ e. (
      omega (arith, ap length all, held space s rest n reads.0 (omega arith)),
      subst (Appends old new) (text_taken text ∙ ap (λ f. late_text 4096 f lent_slots) (sym all)) (writes e),
    )

-- and of more than it takes it does nothing
pub refused_long :
    (known after : Option (List ℕ)) (space : List ℕ) (n : ℕ) (r : Result Unit Failure) → n < length space → n ≤ 262144
    → Consumes known after (take n space) × (n < length space → IsAtEnd after) → RefusesLong known r
refused_long None after space n r room few reads = tt
refused_long (Some s) None space n r room few reads = absurd reads.0
refused_long (Some s) (Some rest) space n r room few reads =
    let all = all_of space s rest n reads.0 (omega arith) (reads.1 room) in
    λ h. absurd (omega (arith, h, ap length all, held space s rest n reads.0 (omega arith)))
