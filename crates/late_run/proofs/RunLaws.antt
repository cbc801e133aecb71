-- What a run means: it is refused where its first refused claim is, on what those before it left; and done exactly where none is.
-- Assumes nothing.
use Rattle.std.specs.Prelude.{Ok}
use mathlib.Core.Path.{◌≡◌, refl, ap, sym, ◌∙◌}
use mathlib.Core.Logic.{◌↔◌}
use mathlib.Core.Bool.{Bool, true, false}
use mathlib.Core.List.{List, [], ◌∷◌, ◌++◌}
use Prim.Native.Nat.{ℕ, ◌+◌}
use native.Mathlib.Omega.{arith}
use lib.Dec.{eqb}
use lib.ListN.{length}
use borrow.Author.Tests.{eqb-true, eqb-false}
use Rattle.entry.specs.declared.Claim.{Claim}
use Rattle.memory.specs.declared.MemoryMap.{MemoryMap}
use Rattle.late_claim.specs.Late.{late_number, After, unchanged, late_of}
use Rattle.late_claim.proofs.MadeLaws.{refused_unchanged}
use Rattle.late_run.specs.Run.{Run, run, stopped, late_all, Dones, none, next, Stops}
use Rattle.late_run.proofs.Running.{run_on, run_stops}

-- a run whose first claim has index i
record From (p : ℕ) (m : MemoryMap) (n : ℕ) (l : List ℕ) (i : ℕ) (cs : List Claim) (r : Run) : Type 0 where
  before : List Claim
  here : Claim
  rest : List Claim
  claims : cs ≡ before ++ here ∷ rest
  index : i + length before ≡ r.index
  done : Dones p m n l before r.map r.count r.table
  refused : late_number (late_of p r.map here r.count r.table).answer ≡ late_number r.answer

module _ (p : ℕ) where
  -- the claims are done, and the run left r
  abbrev Ends : MemoryMap → ℕ → List ℕ → List Claim → Run → Type 0
  Ends m n l cs r = Dones p m n l cs r.map r.count r.table

  -- ── The first claim decides ──
  module _ (m : MemoryMap) (n : ℕ) (l : List ℕ) (i : ℕ) (c : Claim) (cs : List Claim) where
    abbrev one : After
    one = late_of p m c n l

    abbrev rest : Run
    rest = late_all p one.map one.count one.table (i + 1) cs

    from_on : late_number one.answer ≡ 0 → (r : Run) → From p one.map one.count one.table (i + 1) cs r → From p m n l i (c ∷ cs) r
    from_on z r g =
        record {
          before = c ∷ g.before;
          here = g.here;
          rest = g.rest;
          claims = ap (λ (x : List Claim). c ∷ x) g.claims;
          index = omega (arith, g.index);
          done = next c g.before z g.done;
          refused = g.refused;
        }

    from_stops : (late_number one.answer ≡ 0 → ⊥) → From p m n l i (c ∷ cs) (stopped one i)
    from_stops f =
        let e : one ≡ unchanged m n l one.answer = refused_unchanged p m c n l f in
        rw e (record {
          before = [];
          here = c;
          rest = cs;
          claims = refl;
          index = omega arith;
          done = none;
          refused = refl;
        })

    from_either : ((late_number rest.answer ≡ 0 → ⊥) → From p one.map one.count one.table (i + 1) cs rest)
        → (late_number (late_all p m n l i (c ∷ cs)).answer ≡ 0 → ⊥) → From p m n l i (c ∷ cs) (late_all p m n l i (c ∷ cs))
    from_either more f = go (eqb (late_number one.answer) 0) refl
      where
        go : (t : Bool) → eqb (late_number one.answer) 0 ≡ t → From p m n l i (c ∷ cs) (late_all p m n l i (c ∷ cs))
        go true e =
            let z : late_number one.answer ≡ 0 = eqb-true _ _ e in
            let on = run_on p m n l i c cs one refl z in
            rw on (from_on z rest (more (λ y. f (ap (λ (x : Run). late_number x.answer) on ∙ y))))
        go false e =
            let z = eqb-false _ _ e in
            rw (run_stops p m n l i c cs one refl z) (from_stops z)

    dones_either : (late_number rest.answer ≡ 0 → Ends one.map one.count one.table cs rest)
        → late_number (late_all p m n l i (c ∷ cs)).answer ≡ 0 → Ends m n l (c ∷ cs) (late_all p m n l i (c ∷ cs))
    dones_either more h = go (eqb (late_number one.answer) 0) refl
      where
        go : (t : Bool) → eqb (late_number one.answer) 0 ≡ t → Ends m n l (c ∷ cs) (late_all p m n l i (c ∷ cs))
        go true e =
            let z : late_number one.answer ≡ 0 = eqb-true _ _ e in
            let on = run_on p m n l i c cs one refl z in
            rw on (next c cs z (more (rw on at h)))
        go false e =
            let z = eqb-false _ _ e in
            absurd (z (rw (run_stops p m n l i c cs one refl z) at h))

  -- ── The whole run ──
  from : (m : MemoryMap) (n : ℕ) (l : List ℕ) (i : ℕ) (cs : List Claim) → (late_number (late_all p m n l i cs).answer ≡ 0 → ⊥)
      → From p m n l i cs (late_all p m n l i cs)
  from m n l i [] f = absurd (f (unfold late_all in refl))
  from m n l i (c ∷ cs) f = from_either m n l i c cs (from (late_of p m c n l).map (late_of p m c n l).count (late_of p m c n l).table (i + 1) cs) f

  dones_run : {m m' : MemoryMap} {n n' : ℕ} {l l' : List ℕ} {cs : List Claim} (i : ℕ) → Dones p m n l cs m' n' l'
      → late_all p m n l i cs ≡ run m' n' l' (i + length cs) (Ok tt)
  dones_run {m} {m'} {n} {n'} {l} {l'} i none = unfold late_all in ap (λ (j : ℕ). run m n l j (Ok tt)) (omega arith)
  dones_run {m} {m'} {n} {n'} {l} {l'} i (next c cs z d) =
      run_on p m n l i c cs (late_of p m c n l) refl z
      ∙ dones_run (i + 1) d
      ∙ ap (λ (j : ℕ). run m' n' l' j (Ok tt)) (omega arith)

  run_dones : (m : MemoryMap) (n : ℕ) (l : List ℕ) (i : ℕ) (cs : List Claim) → late_number (late_all p m n l i cs).answer ≡ 0 → Ends m n l cs (late_all p m n l i cs)
  run_dones m n l i [] h = unfold late_all in none
  run_dones m n l i (c ∷ cs) h =
      dones_either m n l i c cs (run_dones (late_of p m c n l).map (late_of p m c n l).count (late_of p m c n l).table (i + 1) cs) h

  -- ── The two meanings ──
  module _ (m : MemoryMap) (n : ℕ) (l : List ℕ) (cs : List Claim) where
    -- a run that is refused with k at i: the first i claims are done one after the other, and claim i is refused with k
    pub run_refused : (k : ℕ) → late_number (late_all p m n l 0 cs).answer ≡ k → (k ≡ 0 → ⊥)
        → Stops p m n l cs (late_all p m n l 0 cs) (late_all p m n l 0 cs).index k
    run_refused k e f =
        let g = from m n l 0 cs (λ z. f (sym e ∙ z)) in
        record {
          before = g.before;
          here = g.here;
          rest = g.rest;
          claims = g.claims;
          index = omega (arith, g.index);
          done = g.done;
          refused = g.refused ∙ e;
        }

    -- done exactly when none is refused
    pub run_done : (late_number (late_all p m n l 0 cs).answer ≡ 0) ↔ Dones p m n l cs (late_all p m n l 0 cs).map (late_all p m n l 0 cs).count (late_all p m n l 0 cs).table
    run_done = (run_dones m n l 0 cs, λ d. ap (λ (r : Run). late_number r.answer) (dones_run 0 d))

    -- and then the index is the number of claims
    pub run_index : late_number (late_all p m n l 0 cs).answer ≡ 0 → (late_all p m n l 0 cs).index ≡ length cs
    run_index z = ap (λ (r : Run). r.index) (dones_run 0 (run_dones m n l 0 cs z)) ∙ omega arith
