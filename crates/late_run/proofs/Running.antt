-- The loop over the claims: what is left to claim, on the arrays as they are, ends as the whole run does. Assumes nothing.
use Rattle.std.specs.Prelude.{Result, Ok, Err}
use Rattle.std.specs.Result.{result_unwrap_or, result_and}
use mathlib.Core.Path.{◌≡◌, refl, ap, sym, ◌∙◌}
use mathlib.Core.List.{List, ◌∷◌}
use Prim.Native.Nat.{ℕ, suc, ◌+◌, ◌-◌, ◌/◌, ◌≤◌, ◌<◌}
use native.Mathlib.Omega.{arith}
use lib.ListN.{length}
use Rattle.page.specs.Round.{Page}
use Rattle.entry.specs.declared.Claim.{Claim}
use Rattle.memory.specs.declared.MemoryMap.{MemoryMap}
use Rattle.memory.specs.Made.{Made}
use Rattle.bootloader.specs.List.{claim_at, claims_at, claims}
use Rattle.numbers.specs.Number.{number_by}
use Rattle.late_claim.specs.declared.LateRefusal.{LateRefusal}
use Rattle.late_claim.specs.Late.{late_number, late_refusal_number, After, after_in, late_of}
use Rattle.late_claim.proofs.Claiming.{zero_done, other}
use Rattle.late_claim.proofs.MadeLaws.{late_made}
use Rattle.late_run.specs.Run.{Run, run, stopped, late_all}

-- ── One claim of a run ──
module _ (p : ℕ) (m : MemoryMap) (n : ℕ) (l : List ℕ) (i : ℕ) (c : Claim) (cs : List Claim) (a : After) (is : a ≡ late_of p m c n l) where
  pub run_on : late_number a.answer ≡ 0 → late_all p m n l i (c ∷ cs) ≡ late_all p a.map a.count a.table (i + 1) cs
  unfolding late_all
  run_on z =
      let done : (late_of p m c n l).answer ≡ (Ok tt) = ap (λ (x : After). x.answer) (sym is) ∙ zero_done a.answer z in
      rw (is, done)

  pub run_stops : (late_number a.answer ≡ 0 → ⊥) → late_all p m n l i (c ∷ cs) ≡ stopped a i
  unfolding late_all
  run_stops f = rw is (other (late_of p m c n l).answer (λ z. f (ap (λ (x : After). late_number x.answer) is ∙ z)) _ (stopped (late_of p m c n l) i))

-- ── What a claim in place says: the count or the old one, done or the refusal, and the number ──
module _ (m : MemoryMap) (n : ℕ) (l : List ℕ) where
  abbrev pub left_by : Result ℕ LateRefusal → After
  left_by r = record { map = m; count = result_unwrap_or r n; table = l; answer = result_and r (Ok tt) }

  pub left_is : (r : Result ℕ LateRefusal) → left_by r ≡ after_in m n l r
  left_is (Ok k) = refl
  left_is (Err e) = refl

pub number_is : (r : Result ℕ LateRefusal) → number_by late_refusal_number r ≡ late_number (result_and r (Ok tt))
number_is (Ok k) = refl
number_is (Err e) = refl

-- ── The loop, at claim i of the k in the bytes t ──
pub record Running (p : ℕ) (t : List ℕ) (k : ℕ) (goal : Run) (m : MemoryMap) (n : ℕ) (l : List ℕ) (size i : ℕ) : Type 0 where
  pub at : i ≤ k
  pub made : Made p m
  pub same : length l ≡ size
  pub left : late_all p m n l i (claims_at t (k - i) i) ≡ goal

pub runs : (p : ℕ) (t : List ℕ) (m : MemoryMap) (n : ℕ) (l : List ℕ) → Made p m → Running p t (length t / 24) (late_all p m n l 0 (claims t)) m n l (length l) 0
runs p t m n l made =
    let e : length t / 24 - 0 ≡ length t / 24 = omega arith in
    record { at = omega arith; made = made; same = refl; left = rw e }

module _ {p : ℕ} {t : List ℕ} {k : ℕ} {goal : Run} {m : MemoryMap} {n : ℕ} {l : List ℕ} {size i : ℕ} (inv : Running p t k goal m n l size i) where
  pub runs_end : k ≤ i → run m n l k (Ok tt) ≡ goal
  unfolding late_all claims_at
  runs_end h =
      let same : i ≡ k = omega (arith, inv.at) in
      let e : k - i ≡ 0 = omega arith in
      rw (e, same) at inv.left

  -- a is what the call of claim i left
  module _ (lt : i < k) {a : After} {c : Claim} (is : c ≡ claim_at t i) (given : a ≡ late_of p m c n l) where
    told : a ≡ late_of p m (claim_at t i) n l
    told = rw is at given

    turn : late_all p m n l i (claim_at t i ∷ claims_at t (k - (i + 1)) (i + 1)) ≡ goal
    unfolding claims_at
    turn = let e : k - i ≡ suc (k - (i + 1)) = omega arith in rw e at inv.left

    pub runs_on : Page p → late_number a.answer ≡ 0 → length a.table ≡ length l → Running p t k goal a.map a.count a.table size (i + 1)
    runs_on g zero e =
        record {
          at = omega arith;
          made = rw told (late_made p m (claim_at t i) n l g inv.made);
          same = e ∙ inv.same;
          left = sym (run_on p m n l i (claim_at t i) _ a told zero) ∙ turn;
        }

    pub runs_stop : (late_number a.answer ≡ 0 → ⊥) → stopped a i ≡ goal
    runs_stop f = sym (run_stops p m n l i (claim_at t i) _ a told f) ∙ turn
