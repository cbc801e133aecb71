-- The walk a step at a time: a step of the walk is one token, and it moves on by four bytes at least. Assumes nothing.
use mathlib.Core.Path.{◌≡◌, sym, ◌∙◌, ap, subst}
use Prim.Native.Nat.{ℕ, suc, ◌+◌, ◌-◌, ◌≤◌, ◌<◌}
use native.Mathlib.Omega.{arith}
use mathlib.Core.List.{List}
use lib.ListN.{length}
use lib.Dec.{leb, eqb}
use Rattle.std.specs.Prelude.{Result}
use Rattle.fdt.specs.Token.{tok_at}
use Rattle.fdt.specs.Walk.{begin_step, step_of, walk_at}
use Rattle.fdt.specs.declared.Token.{Token}
use Rattle.fdt.specs.declared.Token.TheVariants.{Bad, Nop, Begin, EndNode, Prop, Fin}
use Rattle.fdt.specs.declared.State.{State}
use Rattle.fdt.specs.declared.Step.{Step}
use Rattle.fdt.specs.declared.Step.TheVariants.{Go, Stop}
use Rattle.words.proofs.BytesLaws.{cond_elim}
use Rattle.fdt.specs.declared.TreeFault.{TreeFault}
use Rattle.fdt.proofs.TokLaws.{Ahead, ahead}

-- the state after a step from p stands past it
abbrev Moves : ℕ → ℕ → Step → Type 0
Moves p e (Stop v) = Unit {0}
Moves p e (Go next) = (p + 4 ≤ e) × (p + 4 ≤ next.at)

moves : (st : State) (p e : ℕ) (t : Token) → Ahead p e t → Moves p e (step_of st t)
unfolding step_of begin_step
moves st p e Bad a = tt
moves st p e (Nop q) a = a
moves st p e (Begin l q) a =
    cond_elim (Moves p e) (eqb st.depth 0) _ _
    (λ t. cond_elim (Moves p e) (eqb st.nodes 0) _ _ (λ t. cond_elim (Moves p e) (eqb l 0) _ _ (λ t. a) (λ t. tt)) (λ t. tt))
    (λ t. cond_elim (Moves p e) (leb 32 st.depth) _ _ (λ t. tt)
    (λ t. cond_elim (Moves p e) (leb 4096 st.nodes) _ _ (λ t. tt) (λ t. a)))
moves st p e (EndNode q) a = cond_elim (Moves p e) (eqb st.depth 0) _ _ (λ t. tt) (λ t. a)
moves st p e (Prop l x z q) a = cond_elim (Moves p e) st.props _ _ (λ t. a) (λ t. tt)
moves st p e Fin a =
    cond_elim (Moves p e) (eqb st.depth 0) _ _
    (λ t. cond_elim (Moves p e) (eqb st.nodes 0) _ _ (λ t. tt) (λ t. tt)) (λ t. tt)

module _ (b n : List ℕ) (st : State) where
  -- the step that was taken, from what the token and the step are
  pub step_is : {x : Step} (t : Token) (r : Step) → t ≡ tok_at b n st.at → r ≡ step_of st t → r ≡ x → step_of st (tok_at b n st.at) ≡ x
  step_is t r et er ex = sym (er ∙ ap (step_of st) et) ∙ ex

  module _ (next : State) (h : step_of st (tok_at b n st.at) ≡ Go next) where
    step_next : (st.at + 4 ≤ length b) × (st.at + 4 ≤ next.at)
    step_next = subst (Moves st.at (length b)) h (moves st st.at (length b) (tok_at b n st.at) (ahead b n st.at))

    pub step_less : length b - next.at < length b - st.at
    step_less = let m = step_next in omega arith

    -- where more tokens are allowed than the block has left, one fewer are still more, and the walk goes on from the next state
    pub step_on : (f : ℕ) → length b ≤ st.at + f → (g : ℕ) × (length b ≤ next.at + g) × (walk_at (suc f) b n st ≡ walk_at (suc g) b n next)
    unfolding walk_at
    step_on f l =
        let m = step_next in
        let q : f ≡ suc (f - 1) = omega arith in
        (f - 1, omega arith, rw h (ap (λ (x : ℕ). walk_at x b n next) q))

  pub step_off : (f : ℕ) (v : Result Unit TreeFault) → step_of st (tok_at b n st.at) ≡ Stop v → walk_at (suc f) b n st ≡ v
  unfolding walk_at
  step_off f v h = rw h
