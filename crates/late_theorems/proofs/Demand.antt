-- Demand 3 with late claims: request L3 of document 02, "Of a table that came from its map and limits so, demand 3 reads late claims as
-- registrations." For every page size. Assumes nothing.
use Rattle.std.specs.Prelude.{Option, ℕ, Ok}
use mathlib.Core.Path.{◌≡◌, refl, ap, sym, ◌∙◌}
use mathlib.Core.List.{List, [], ◌∷◌, ◌++◌}
use mathlib.Core.Logic.{◌↔◌}
use Prim.Native.Nat.{ℕ, ◌+◌}
use lib.ListN.{length, take}
use Rattle.page.specs.Round.{Page}
use Rattle.entry.specs.declared.Claim.{Claim}
use Rattle.memory.specs.declared.MemoryMap.{MemoryMap}
use Rattle.memory.specs.declared.Registered.{Registered}
use Rattle.memory.specs.Map.{registered, blank, answered}
use Rattle.memory.specs.Run.{registered_all}
use Rattle.runs.proofs.Runs.{run_nil, run_on, run_append}
use Rattle.areas.specs.Interval.{Listed}
use Rattle.areas.specs.Areas.{areas_of}
use Rattle.areas.specs.Shape.{Shape}
use Rattle.areas.specs.Table.{flat}
use Rattle.demand3.specs.Rule.{Accepted, map_after, areas_after, Rule, SameClaims, SameLimits}
use Rattle.demand3.specs.Slots.{number_slot, SlotsRight}
use Rattle.demand3.proofs.Demand.{after_made, address_rule, areas_shape, any_order}
use Rattle.demand3.proofs.Slots.{held_right}
use Rattle.lent_table.specs.Table.{table_in}
use Rattle.late_claim.specs.Late.{After}
use Rattle.late_theorems.specs.Came.{Is, Dealt, sources, late}
use Rattle.late_theorems.proofs.Stands.{table_size, table_slots}
use Rattle.late_theorems.proofs.Ways.{map_done, unrefused}
use Rattle.late_theorems.proofs.Came.{used_numbers, built_is, done_is}

-- one more registration of a run
run_more : (p : ℕ) (cs : List Claim) (c : Claim) → Accepted p cs → (registered p (map_after p cs) c).answer ≡ Ok tt
    → registered_all p blank (cs ++ (c ∷ [])) ≡ answered (registered p (map_after p cs) c).map (Ok tt)
run_more p cs c a d = run_append p blank cs (c ∷ []) a ∙ run_on p (map_after p cs) c [] d ∙ run_nil p (registered p (map_after p cs) c).map

-- THEOREM, late claims are registrations: the run of all together is accepted, the map is the one that it leaves, and the table holds its areas
pub dealt : {p : ℕ} {low high : Option ℕ} {cs : List Claim} {m : MemoryMap} {n : ℕ} {l : List ℕ} → Page p → Dealt p low high cs m n l
    → Accepted p cs × (m ≡ map_after p cs) × Is p low high m n l
dealt g (sources {cs} a b) = (a, refl, built_is (after_made _ cs g) b)
dealt {p} g (late {cs} {m} {n} {l} c h done) =
    let d = dealt g h in
    let e = unrefused p m c n l done in
    let accepted : (registered p m c).answer ≡ Ok tt = map_done (registered p m c).answer e.registers in
    let more = run_more p cs c d.0 (rw d.1 at accepted) in (
      ap (λ (x : Registered). x.answer) more,
      ap (λ (x : After). x.map) e.is ∙ ap (λ (x : MemoryMap). (registered p x c).map) d.1 ∙ sym (ap (λ (x : Registered). x.map) more),
      done_is g d.2 c done,
    )

module _ {p : ℕ} {low high : Option ℕ} {cs : List Claim} {m : MemoryMap} {n : ℕ} {l : List ℕ} (g : Page p) (h : Dealt p low high cs m n l) where
  dealt_areas : table_in n l ≡ areas_after p low high cs
  dealt_areas = let d = dealt g h in d.2.areas ∙ ap (λ (x : MemoryMap). areas_of p low high x) d.1

  -- THEOREM, the address rule of demand 3 over registrations and late claims together
  pub late_rule : (x : ℕ) → Listed x (table_in n l) ↔ Rule p low high cs x
  late_rule x = rw dealt_areas (address_rule p low high cs g (dealt g h).0 x)

  -- "Areas ascend, are nonempty whole pages, and never touch."
  pub late_shape : Shape p (table_in n l)
  late_shape = rw dealt_areas (areas_shape p low high cs g)

  -- THEOREM, demand 3 on the slots that a caller holds after late claims
  pub late_slots_lem : SlotsRight p low high cs (number_slot l) n
  late_slots_lem =
      let room = (dealt g h).2.room in
      rw (table_size n l room) at (held_right (table_in n l) (number_slot l) (table_slots n l room) late_shape late_rule)

-- THEOREM, any order: however the registrations and the late claims are dealt, none refused, under limits that round to the same, the used
-- slots are the same
pub late_order : {p : ℕ} {low high low' high' : Option ℕ} {cs ds : List Claim} {m m' : MemoryMap} {n n' : ℕ} {l l' : List ℕ} → Page p
    → Dealt p low high cs m n l → Dealt p low' high' ds m' n' l' → SameLimits p low high low' high' → SameClaims cs ds
    → (n ≡ n') × (take (n + n) l ≡ take (n' + n') l')
late_order {p} {low} {high} {low'} {high'} {cs} {ds} {m} {m'} {n} {n'} {l} {l'} g x y limits e =
    let a = dealt g x in
    let b = dealt g y in
    let same : table_in n l ≡ table_in n' l' = dealt_areas g x ∙ any_order p low high low' high' cs ds g a.0 b.0 limits e ∙ sym (dealt_areas g y) in (
      sym (table_size n l a.2.room) ∙ ap length same ∙ table_size n' l' b.2.room,
      used_numbers n l a.2.room ∙ ap flat same ∙ sym (used_numbers n' l' b.2.room),
    )
