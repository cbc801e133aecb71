use mathlib.Core.Path.{subst, sym}
use Rattle.page.proofs.Laws.{page}
use Rattle.memory.specs.declared.Registered.{Registered}
use Rattle.memory.specs.Made.{Made}
use Rattle.memory.proofs.MapLaws.{blank_made}
use Rattle.memory.proofs.RunLaws.{all_made, settled_made}
use Rattle.memory.proofs.tests.all_or_none_leaves_the_map_at_a_refusal.Goals as goal

pub register_all_or_none-requires : goal.register_all_or_none-requires
register_all_or_none-requires c = rw c.empty-map.ensures (blank_made 4096)

pub register_all_or_none-requires-2 : goal.register_all_or_none-requires-2
register_all_or_none-requires-2 c =
    let first : Made 4096 c.empty-map.result = rw c.empty-map.ensures (blank_made 4096) in
    subst (λ (x : Registered). Made 4096 x.map) (sym c.register_all_or_none.ensures) (settled_made 4096 _ _ first (all_made 4096 _ _ page first))
