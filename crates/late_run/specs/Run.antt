-- Late claims one after the other: document 02, request L3, and its program, which "makes one claim after the other up to the first refusal".
use Rattle.late_claim.specs.declared.LateRefusal.{LateRefusal}
use Rattle.std.specs.Prelude.{◌≡◌, List, [], ◌∷◌, ◌++◌, ℕ, ◌+◌, length, Result, Ok}
use Rattle.entry.specs.declared.Claim.{Claim}
use Rattle.memory.specs.declared.MemoryMap.{MemoryMap}
use Rattle.late_claim.specs.Late.{late_number, on_done, After, late_of}
use Rattle.late_run.specs.declared.LateRun.{LateRun}
use Rattle.late_run.specs.declared.LateRunIn.{LateRunIn}

-- the map, how many slots are used, the lent numbers; the index, "counted from 0", of the claim that was refused, or how many were made; and
-- the answer
pub record Run : Type 0 where
  pub map : MemoryMap
  pub count : ℕ
  pub table : List ℕ
  pub index : ℕ
  pub answer : Result Unit LateRefusal

abbrev pub run : MemoryMap → ℕ → List ℕ → ℕ → Result Unit LateRefusal → Run
run m n l i a = record { map = m; count = n; table = l; index = i; answer = a }

-- what one claim, that of index i, left
abbrev pub stopped : After → ℕ → Run
stopped a i = run a.map a.count a.table i a.answer

-- THE RUN of some claims, the first of which has index i, on the map m and on the numbers l, of which n slots are used
unfoldable pub late_all : ℕ → MemoryMap → ℕ → List ℕ → ℕ → List Claim → Run
late_all p m n l i [] = run m n l i (Ok tt)
late_all p m n l i (c ∷ cs) =
    on_done (late_of p m c n l).answer
    (late_all p (late_of p m c n l).map (late_of p m c n l).count (late_of p m c n l).table (i + 1) cs)
    (stopped (late_of p m c n l) i)

-- ── What the calls hand back, as that ──
abbrev pub ran : LateRun → List ℕ → Run
ran r l = run r.map r.count l r.index r.answer

abbrev pub ran_in : LateRunIn → MemoryMap → List ℕ → Run
ran_in r m l = run m r.count l r.index r.answer

-- ── What a run means ──
-- each of the claims is done, on what the one before it left; in the end that is m', n' and l'
pub data Dones (p : ℕ) : MemoryMap → ℕ → List ℕ → List Claim → MemoryMap → ℕ → List ℕ → Type 0 where
  none : {m : MemoryMap} {n : ℕ} {l : List ℕ} → Dones p m n l [] m n l
  next : {m m' : MemoryMap} {n n' : ℕ} {l l' : List ℕ} (c : Claim) (cs : List Claim) → late_number (late_of p m c n l).answer ≡ 0
      → Dones p (late_of p m c n l).map (late_of p m c n l).count (late_of p m c n l).table cs m' n' l' → Dones p m n l (c ∷ cs) m' n' l'

-- a run that left r: the first i claims are done, and what they left stands; the claim behind them is refused there with the number k
pub record Stops (p : ℕ) (m : MemoryMap) (n : ℕ) (l : List ℕ) (cs : List Claim) (r : Run) (i k : ℕ) : Type 0 where
  pub before : List Claim
  pub here : Claim
  pub rest : List Claim
  pub claims : cs ≡ before ++ here ∷ rest
  pub index : length before ≡ i
  pub done : Dones p m n l before r.map r.count r.table
  pub refused : late_number (late_of p r.map here r.count r.table).answer ≡ k
