-- `register_pairs` hands back the empty map where a pair is refused.
use mathlib.Core.Path.{◌≡◌, ap, ◌∙◌}
use Rattle.memory.specs.declared.Registered.{Registered}
use Rattle.memory.specs.Map.{answered}
use Rattle.memory.specs.Run.{is_done, registered_all, settled}
use Rattle.memory.proofs.Refusing.{refused}
use Rattle.startup.specs.Sources.{pair_claims}
use Rattle.startup.proofs.SourceLaws.{ended_done, ended_refused, ended_settled}
use Rattle.startup.proofs.register_pairs.Goals as goal

pub returns-in_default : goal.returns-in_default
returns-in_default c =
    let r : Registered = answered c.register_all_or_none.new.self c.register_all_or_none.result in
    let is : r ≡ settled c.args.map (registered_all 4096 c.args.map (pair_claims c.args.order)) = rw c.pair_claims.ensures at c.register_all_or_none.ensures in
    rw (← ended_settled c.args.map (registered_all 4096 c.args.map (pair_claims c.args.order)), ← is)
    (c.rejected.ensures ∙ ended_refused r (refused c.register_all_or_none.result c.in_default.not-Ok))

pub returns : goal.returns
returns c =
    let r : Registered = answered c.register_all_or_none.new.self c.register_all_or_none.result in
    let is : r ≡ settled c.args.map (registered_all 4096 c.args.map (pair_claims c.args.order)) = rw c.pair_claims.ensures at c.register_all_or_none.ensures in
    rw (← ended_settled c.args.map (registered_all 4096 c.args.map (pair_claims c.args.order)), ← is) (ended_done r (ap is_done c.in-Ok.is))
