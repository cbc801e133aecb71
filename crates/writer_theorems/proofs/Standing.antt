-- After every sequence of calls the writer goes on and its buffer holds what was written, or it has finished. A refused call changes nothing.
-- Assumes nothing.
use mathlib.Core.Path.{◌≡◌, refl, sym, ◌∙◌, ap, subst}
use mathlib.Core.Bool.{true, false}
use mathlib.Core.List.{List}
use Prim.Native.Nat.{ℕ}
use lib.ListN.{length}
use Rattle.std.specs.Prelude.{Result, Ok, Err}
use Rattle.words.proofs.BytesLaws.{never}
use Rattle.flattened.specs.Parts.{begins, property, ends}
use Rattle.writer.specs.declared.Writer.{Writer}
use Rattle.writer.specs.declared.WriteRefusal.{WriteRefusal}
use Rattle.writer.specs.Writer.{Call, reserve, write, finish, on_done, write_number, in_turn, after, answer_of}
use Rattle.writer.specs.Calls.{laid_by, Outcome, taken, unchanged, outcome}
use Rattle.writer.proofs.Accepting.{call_passed}
use Rattle.writer_theorems.specs.History.{Account, with_call, Sized, History, starts, goes}
use Rattle.writer_theorems.proofs.Holding.{Holds, holds_start}
use Rattle.writer_theorems.proofs.Stepping.{holds_part, holds_reservation}

-- ── What a call comes to, by its answer ──
module _ (w : Writer) (c : Call) (buf : List ℕ) where
  pub outcome_done : answer_of w c (length buf) ≡ Ok tt → outcome w c buf ≡ taken w c buf
  unfolding outcome
  outcome_done e = rw e

  pub outcome_refused : {r : WriteRefusal} → answer_of w c (length buf) ≡ Err r → outcome w c buf ≡ unchanged w buf (Err r)
  unfolding outcome
  outcome_refused e = rw e

  -- the answer of the outcome is the answer
  pub outcome_answer : (outcome w c buf).answer ≡ answer_of w c (length buf)
  unfolding outcome
  outcome_answer = go (answer_of w c (length buf))
    where
      go : (x : Result Unit WriteRefusal) → (on_done x (taken w c buf) (unchanged w buf x)).answer ≡ x
      go (Ok _) = refl
      go (Err r) = refl

  -- "A refused call leaves the buffer and the writer's place unchanged."
  pub refused_leaves : (write_number (outcome w c buf).answer ≡ 0 → ⊥) → ((outcome w c buf).writer ≡ w) × ((outcome w c buf).buffer ≡ buf)
  refused_leaves n = go (answer_of w c (length buf)) refl
    where
      go : (x : Result Unit WriteRefusal) → answer_of w c (length buf) ≡ x → ((outcome w c buf).writer ≡ w) × ((outcome w c buf).buffer ≡ buf)
      go (Ok _) e = absurd (n (ap write_number (outcome_answer ∙ e)))
      go (Err r) e = (ap (λ (o : Outcome). o.writer) (outcome_refused e), ap (λ (o : Outcome). o.buffer) (outcome_refused e))

-- once it has finished, no call is in turn
pub over_turn : (w : Writer) (c : Call) → w.done ≡ true → in_turn w c ≡ false
unfolding in_turn
over_turn w (reserve p z) e = rw e
over_turn w (write (begins name)) e = rw e
over_turn w (write (property name value)) e = rw e
over_turn w (write ends) e = rw e
over_turn w finish e = rw e

-- ── Where a sequence of calls comes to stand ──
pub data Stands (w : Writer) (buf : List ℕ) (a : Account) : Type 0 where
  going : a.finished ≡ false → Holds w buf a.entries a.parts → Stands w buf a
  over : w.done ≡ true → a.finished ≡ true → Stands w buf a

stands_taken : (w : Writer) (buf : List ℕ) (a : Account) → Stands w buf a → (c : Call) → Sized c → answer_of w c (length buf) ≡ Ok tt → Stands (after w c) (laid_by w c buf) (with_call a c)
unfolding after
stands_taken w buf a (going f h) (reserve p z) s d = going f (holds_reservation w buf a.entries a.parts h p z s.0 s.1 d)
stands_taken w buf a (going f h) (write x) s d = going f (holds_part w buf a.entries a.parts h x d)
stands_taken w buf a (going f h) finish s d = over refl refl
stands_taken w buf a (over e f) c s d =
    let t = (call_passed w c (length buf) d).turned in
    let u = over_turn w c e in
    never (cc)

-- after a call that came to o
abbrev AfterCall : Account → Call → Outcome → Type 0
AfterCall a c o = Stands o.writer o.buffer (on_done o.answer (with_call a c) a)

stands_on : (w : Writer) (buf : List ℕ) (a : Account) → Stands w buf a → (c : Call) → Sized c → AfterCall a c (outcome w c buf)
stands_on w buf a h c s = go (answer_of w c (length buf)) refl
  where
    go : (x : Result Unit WriteRefusal) → answer_of w c (length buf) ≡ x → AfterCall a c (outcome w c buf)
    go (Ok _) e = subst (AfterCall a c) (sym (outcome_done w c buf e)) (stands_taken w buf a h c s e)
    go (Err r) e = subst (AfterCall a c) (sym (outcome_refused w c buf e)) h

pub stands : {w : Writer} {buf : List ℕ} {a : Account} → History w buf a → Stands w buf a
stands (starts {buf = buf}) = going refl (holds_start buf)
stands (goes {w = w} {buf = buf} {a = a} c s h) = stands_on w buf a (stands h) c s
