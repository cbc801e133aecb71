-- A path, a step at a time. Assumes nothing.
use mathlib.Core.Path.{◌≡◌, refl, ◌∙◌, ap}
use Prim.Native.Nat.{ℕ, suc, ◌+◌, ◌-◌, ◌≤◌, ◌<◌}
use native.Mathlib.Omega.{arith}
use mathlib.Core.List.{List, [], ◌∷◌}
use mathlib.Core.Bool.{cond}
use lib.ListN.{length, get_or}
use lib.Dec.{eqb, leb}
use borrow.Author.Tests.{eq-eqb, ne_eqb, le-leb, lt-leb}
use Rattle.std.specs.Prelude.{Option, Some, None}
use Rattle.words.specs.Bytes.{bytes, first_byte, part_of}
use Rattle.words.proofs.BytesLaws.{cond_elim, bytes_length}
use Rattle.fdt.specs.Tree.{lex_at}
use Rattle.nodes.specs.Nav.{inside, first_kid, child_at}
use Rattle.nodes.specs.Path.{steps_from, go_from, path_at}
use Rattle.nodes.proofs.SameLaws.{part_upto}

-- ── Before the first step ──
module _ (b n path : List ℕ) where
  pub path_rootless : first_kid (lex_at b n 0) ≡ None → None ≡ path_at b n path
  unfolding path_at
  path_rootless h =
      rw h
      (cond_elim (λ (x : Option ℕ). None ≡ x) (eqb (length path) 0) _ _ (λ t. refl)
      (λ t. cond_elim (λ (x : Option ℕ). None ≡ x) (eqb (get_or path 0 0) 47) _ _ (λ u. refl) (λ u. refl)))

  pub path_empty : length path ≡ 0 → None ≡ path_at b n path
  unfolding path_at
  path_empty h = rw (eq-eqb _ _ h)

  module _ (some : length path ≡ 0 → ⊥) where
    pub path_relative : (get_or path 0 0 ≡ 47 → ⊥) → None ≡ path_at b n path
    unfolding path_at
    path_relative h = rw (ne_eqb _ _ some, ne_eqb _ _ h)

    module _ (slash : get_or path 0 0 ≡ 47) (root : ℕ) (is : first_kid (lex_at b n 0) ≡ Some root) where
      pub path_root : length path ≡ 1 → Some root ≡ path_at b n path
      unfolding path_at
      path_root h = rw (ne_eqb _ _ some, eq-eqb _ _ slash, is, eq-eqb _ _ h)

      pub path_steps : (length path ≡ 1 → ⊥) → path_at b n path ≡ go_from b n root (steps_from (length path) path 1)
      unfolding path_at
      path_steps h = rw (ne_eqb _ _ some, eq-eqb _ _ slash, is, ne_eqb _ _ h)

-- ── A step ──
go_step : (b n : List ℕ) (q : ℕ) (step : List ℕ) (steps : List (List ℕ)) → 0 < length step
    → go_from b n q (step ∷ steps) ≡ inside None (λ r. go_from b n r steps) (child_at b n q step)
unfolding go_from
go_step b n q [] steps h = let x : ⊥ = omega arith in absurd x
go_step b n q (x ∷ step) steps h = refl

-- the step from i up to z
module _ (b n path : List ℕ) (q i f z : ℕ) (ez : z ≡ first_byte 47 path i) where
  pub step_empty : z ≤ i → go_from b n q (steps_from (suc f) path i) ≡ None
  unfolding steps_from go_from
  step_empty h = let e : z - i ≡ 0 = omega arith in rw (← ez, e)

  -- x is the step, and r the child that is found by it
  module _ (lt : i < z) (le : z ≤ length path) (x : List ℕ) (ex : x ≡ part_of path i (z - i)) (r : Option ℕ) (er : r ≡ child_at b n q x) where
    step_is : go_from b n q (steps_from (suc f) path i) ≡ inside None (λ s. go_from b n s (cond (leb (length path) z) [] (steps_from f path (z + 1)))) r
    unfolding steps_from
    step_is =
        let w = part_upto path i z x ex (omega arith) le in
        let m = bytes_length path i z le in
        rw (← ez) (go_step b n q (bytes path i z) _ (omega arith) ∙ rw (← w, ← er))

    pub step_none : r ≡ None → go_from b n q (steps_from (suc f) path i) ≡ None
    step_none h = step_is ∙ rw h

    module _ (s : ℕ) (is : r ≡ Some s) where
      pub step_last : length path ≤ z → go_from b n q (steps_from (suc f) path i) ≡ Some s
      unfolding go_from
      step_last h = step_is ∙ rw (is, le-leb _ _ h)

      pub step_more : z < length path → go_from b n q (steps_from (suc f) path i) ≡ go_from b n s (steps_from f path (z + 1))
      step_more h = step_is ∙ rw (is, lt-leb _ _ h)

-- ── The loop ──

-- from the node q and the place i on the path's answer is what it is from the root on, with enough steps left
pub record Goes (b n path : List ℕ) (q i : ℕ) : Type 0 where
  pub left : ℕ
  pub within : i ≤ length path
  pub enough : length path ≤ i + left
  pub same : path_at b n path ≡ go_from b n q (steps_from (suc left) path i)

pub goes_from : (b n path : List ℕ) (root : ℕ) → (length path ≡ 0 → ⊥) → path_at b n path ≡ go_from b n root (steps_from (length path) path 1) → Goes b n path root 1
goes_from b n path root some e =
    let l : length path ≡ suc (length path - 1) = omega arith in
    record { left = length path - 1; within = omega arith; enough = omega arith; same = rw (← l) e }

pub goes_on : {b n path : List ℕ} {q i : ℕ} (s z : ℕ) (g : Goes b n path q i) → i < z → z < length path
    → go_from b n q (steps_from (suc g.left) path i) ≡ go_from b n s (steps_from g.left path (z + 1)) → Goes b n path s (z + 1)
goes_on {b} {n} {path} {q} {i} s z g lt more e =
    let l : g.left ≡ suc (g.left - 1) = omega arith in
    record {
      left = g.left - 1;
      within = omega arith;
      enough = omega arith;
      same = g.same ∙ e ∙ ap (λ (f : ℕ). go_from b n s (steps_from f path (z + 1))) l;
    }
