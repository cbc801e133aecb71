-- `write_run::write_calls` meets its contract: each turn of its loop is one call of the run (Running). Assumes nothing.
use mathlib.Core.Path.{◌≡◌, sym, ◌∙◌}
use Prim.Native.Nat.{◌-◌}
use native.Mathlib.Omega.{arith}
use lib.ListN.{length}
use Rattle.write_run.specs.Run.{run_of, ran_of}
use Rattle.write_run.proofs.Running.{step_torn, past, step_goes, step_ends, calls_over}
use Rattle.write_run.proofs.write_calls.Goals as goal

pub loop-at-init : goal.loop-at-init
unfolding ran_of
loop-at-init c = let e : length c.args.calls.now - 0 ≡ length c.args.calls.now = omega arith in (omega arith, rw (e, c.start-w.ensures))

pub returns-in_default : goal.returns-in_default
returns-in_default c =
    let l = c.loop-at in
    sym (step_torn _ _ _ l.w l.size l.out l.invariant.0 c.loop-at-test.true (sym c.in_default.is ∙ c.read_call.ensures)) ∙ l.invariant.1

pub returns-in-Err : goal.returns-in-Err
returns-in-Err c =
    let l = c.loop-at in
    let m = c.make_call in
    sym (step_ends _ _ _ l.w l.size l.out l.invariant.0 c.loop-at-test.true c.in-Some.read (sym c.in-Some.is ∙ c.read_call.ensures) m.new.w m.new.out m.ensures c.in-Err.is) ∙ l.invariant.1

pub loop-at-smaller : goal.loop-at-smaller
loop-at-smaller c =
    let l = c.loop-at in
    let on = past _ _ c.in-Some.read (sym c.in-Some.is ∙ c.read_call.ensures) in
    omega (arith, on, c.loop-at-test.true)

pub loop-at-preserved : goal.loop-at-preserved
loop-at-preserved c =
    let l = c.loop-at in
    let m = c.make_call in
    let r = sym c.in-Some.is ∙ c.read_call.ensures in
    let on = past _ _ c.in-Some.read r in (
      omega (arith, on, l.invariant.0),
      sym (step_goes _ _ _ l.w l.size l.out l.invariant.0 c.loop-at-test.true c.in-Some.read r m.new.w m.new.out m.ensures c.in-Ok.is) ∙ l.invariant.1,
    )

pub returns : goal.returns
unfolding run_of
returns c =
    let l = c.loop-at in
    let e = l.invariant.1 in
    rw c.end_of.ensures (rw (calls_over (length c.args.calls.now - l.index) _ _ c.loop-at-test.false) at e)
