-- In `same_claims` no more claims are seen than steps are made.
use Prim.Native.Nat.{◌≤◌}
use Rattle.claims_replay.proofs.same_claims.Given as goal

abbrev pub invariant-loop : goal.invariant-loop
invariant-loop l = l.seen ≤ l.counter
