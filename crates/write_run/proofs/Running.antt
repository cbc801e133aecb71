-- A run of calls, call by call: what is read ends behind its letter, and one call of a run goes on or ends it. Assumes nothing.
use mathlib.Core.Path.{◌≡◌, refl, sym, subst}
use mathlib.Core.List.{List}
use Prim.Native.Nat.{ℕ, zero, suc, ◌+◌, ◌-◌, ◌≤◌, ◌<◌}
use native.Mathlib.Omega.{arith}
use lib.Dec.{leb, eqb}
use lib.ListN.{length}
use borrow.Author.Tests.{lt-ltb, le-ltb}
use Rattle.std.specs.Prelude.{Option, Some, None, Result, Ok, Err}
use Rattle.words.proofs.BytesLaws.{cond_elim}
use Rattle.writer.specs.declared.Writer.{Writer}
use Rattle.writer.specs.declared.WriteRefusal.{WriteRefusal}
use Rattle.writer.specs.Writer.{Call}
use Rattle.writer.specs.Calls.{outcome, finished}
use Rattle.write_run.specs.declared.Read.{Read}
use Rattle.write_run.specs.declared.CallRead.{CallRead}
use Rattle.write_run.specs.declared.Stop.TheVariants.{NoCall, Refused}
use Rattle.write_run.specs.Input.{whole, by_letter, read_at, Calls, over, ◌then◌, call_of, behind, calls_from}
use Rattle.write_run.specs.Run.{run, run_of}

-- where a call stands, it ends behind p
abbrev Past : ℕ → Option Read → Type 0
Past p None = Unit {0}
Past p (Some r) = p < r.next

whole_past : (s : List ℕ) (p q : ℕ) (c : CallRead) → p < q → Past p (whole s q c)
unfolding whole
whole_past s p q c h = cond_elim (Past p) (leb q (length s)) _ _ (λ e. h) (λ e. tt)

letter_past : (s : List ℕ) (p k : ℕ) → Past p (by_letter s p k)
unfolding by_letter
letter_past s p k =
    cond_elim (Past p) (eqb k 82) _ _ (λ e. whole_past s p _ _ (omega arith)) (λ e.
    cond_elim (Past p) (eqb k 66) _ _ (λ e. whole_past s p _ _ (omega arith)) (λ e.
    cond_elim (Past p) (eqb k 80) _ _ (λ e. whole_past s p _ _ (omega arith)) (λ e.
    cond_elim (Past p) (eqb k 69) _ _ (λ e. whole_past s p _ _ (omega arith)) (λ e.
    cond_elim (Past p) (eqb k 70) _ _ (λ e. whole_past s p _ _ (omega arith)) (λ e. tt)))))

read_past : (s : List ℕ) (p : ℕ) → Past p (read_at s p)
unfolding read_at
read_past s p = cond_elim (Past p) (leb (length s) p) _ _ (λ e. tt) (λ e. letter_past s p _)

pub past : (s : List ℕ) (p : ℕ) (r : Read) → Some r ≡ read_at s p → p < r.next
past s p r e = subst (λ (x : Option Read). Past p x) (sym e) (read_past s p)

-- ── One call of a run ──
module _ (c : Call) (cs : Calls) (k : ℕ) (w w' : Writer) (z : ℕ) (buf buf' : List ℕ) where
  call_goes : (n : ℕ) → finished w' (Ok n) buf' ≡ outcome w c buf → run_of (c then cs) k w z buf ≡ run_of cs (k + 1) w' n buf'
  unfolding run_of
  call_goes n f = rw (← f)

  call_ends : (r : WriteRefusal) → finished w' (Err r) buf' ≡ outcome w c buf → run_of (c then cs) k w z buf ≡ run 0 k (Refused r) buf'
  unfolding run_of
  call_ends r f = rw (← f)

-- ── From a call on ──
-- as many calls as bytes that none so far can have taken: one stands here, and one fewer comes behind it
calls_at : (s : List ℕ) (k p : ℕ) → k ≤ p → p < length s → calls_from (length s - k) s p ≡ behind s (read_at s p) (calls_from (length s - (k + 1)) s)
unfolding calls_from
calls_at s k p h lt = go (length s - k) (omega arith)
  where
    go : (f : ℕ) → f ≡ suc (length s - (k + 1)) → calls_from f s p ≡ behind s (read_at s p) (calls_from (length s - (k + 1)) s)
    go zero e = absurd (omega arith)
    go (suc f) e = let g : f ≡ length s - (k + 1) = omega arith in rw (lt-ltb _ _ lt, g)

pub calls_over : (f : ℕ) (s : List ℕ) (p : ℕ) → length s ≤ p → calls_from f s p ≡ over
unfolding calls_from
calls_over zero s p h = refl
calls_over (suc f) s p h = rw (le-ltb _ _ h)

-- one call of the run from p, as the code makes it: none stands there, or it is done and the run goes on, or it is refused
module _ (s : List ℕ) (k p : ℕ) (w : Writer) (z : ℕ) (buf : List ℕ) (h : k ≤ p) (lt : p < length s) where
  pub step_torn : None ≡ read_at s p → run_of (calls_from (length s - k) s p) k w z buf ≡ run 0 k NoCall buf
  unfolding run_of
  step_torn e = rw (calls_at s k p h lt, ← e)

  module _ (r : Read) (e : Some r ≡ read_at s p) (w' : Writer) (buf' : List ℕ) {a : Result ℕ WriteRefusal} (f : finished w' a buf' ≡ outcome w (call_of s r.call) buf) where
    pub step_goes : {n : ℕ} → a ≡ Ok n → run_of (calls_from (length s - k) s p) k w z buf ≡ run_of (calls_from (length s - (k + 1)) s r.next) (k + 1) w' n buf'
    step_goes {n} g = rw (calls_at s k p h lt, ← e) (call_goes (call_of s r.call) _ k w w' z buf buf' n (rw g at f))

    pub step_ends : {x : WriteRefusal} → a ≡ Err x → run_of (calls_from (length s - k) s p) k w z buf ≡ run 0 k (Refused x) buf'
    step_ends {x} g = rw (calls_at s k p h lt, ← e) (call_ends (call_of s r.call) _ k w w' z buf buf' x (rw g at f))
