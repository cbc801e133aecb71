-- Calls made one after the other, up to the first that is refused: document 02, request L1, and its program.
use Rattle.std.specs.Prelude.{ℕ, ◌+◌, cond, List, Result, Ok, Err}
use Rattle.writer.specs.declared.Writer.{Writer}
use Rattle.writer.specs.declared.WriteRefusal.{WriteRefusal}
use Rattle.writer.specs.Writer.{fresh}
use Rattle.writer.specs.Calls.{outcome}
use Rattle.write_run.specs.declared.Stop.{Stop}
use Rattle.write_run.specs.declared.Stop.TheVariants.{NoCall, Refused, Finished, Unfinished}
use Rattle.write_run.specs.declared.WriteRun.{WriteRun}
use Rattle.write_run.specs.Input.{Calls, over, torn, ◌then◌, calls_in}

-- how long the finished blob is, or 0; the index, counted from 0, of what stopped the run, or how many calls were made; what stopped it;
-- and every byte of the buffer
pub record Run : Type 0 where
  pub size : ℕ
  pub index : ℕ
  pub stop : Stop
  pub buffer : List ℕ

abbrev pub run : ℕ → ℕ → Stop → List ℕ → Run
run z k s buf = record { size = z; index = k; stop = s; buffer = buf }

-- on after a call that is done, or the end by what refuses it
abbrev pub on_answer : {A : Type 0} → Result Unit WriteRefusal → A → (WriteRefusal → A) → A
on_answer (Ok _) on stop = on
on_answer (Err r) on stop = stop r

-- THE RUN of some calls, the first of which has index k, by the writer w on the buffer buf; z is the length that the last call told
unfoldable pub run_of : Calls → ℕ → Writer → ℕ → List ℕ → Run
run_of over k w z buf = run z k (cond w.done Finished Unfinished) buf
run_of torn k w z buf = run 0 k NoCall buf
run_of (c then cs) k w z buf =
    on_answer (outcome w c buf).answer
    (run_of cs (k + 1) (outcome w c buf).writer (outcome w c buf).size (outcome w c buf).buffer)
    (λ r. run 0 k (Refused r) (outcome w c buf).buffer)

-- of an input s, from a writer that has written nothing
unfoldable pub ran_of : List ℕ → List ℕ → Run
ran_of s buf = run_of (calls_in s) 0 fresh 0 buf

abbrev pub ran : WriteRun → List ℕ → Run
ran r buf = run r.size r.index r.stop buf
