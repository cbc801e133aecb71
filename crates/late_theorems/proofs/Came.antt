-- A table that came from its map and limits, by a build or by late claims: it holds the map's areas, and after one more late claim it is
-- a build afresh with the claim included: request L3 of document 02. For every page size. Assumes nothing.
use Rattle.std.specs.Prelude.{Option, ℕ, Result, Ok}
use mathlib.Core.Path.{◌≡◌, refl, ap, sym, ◌∙◌}
use mathlib.Core.List.{List}
use mathlib.Core.Logic.{◌↔◌, inr}
use Prim.Native.Nat.{ℕ, zero, suc, ◌+◌, ◌/◌, ◌≤◌, ◌<◌}
use native.Mathlib.Omega.{arith}
use lib.ListN.{length, take, drop, length-append, length-drop}
use lib.Seq.{take_at}
use Rattle.page.specs.Round.{Page}
use Rattle.entry.specs.declared.Claim.{Claim}
use Rattle.memory.specs.declared.MemoryMap.{MemoryMap}
use Rattle.memory.specs.Map.{answer_number, registered}
use Rattle.memory.specs.Made.{Made}
use Rattle.memory.proofs.MapLaws.{registered_made}
use Rattle.areas.specs.declared.AreasRefusal.{AreasRefusal}
use Rattle.areas.specs.declared.Interval.{Interval}
use Rattle.areas.specs.Areas.{areas_of}
use Rattle.areas.specs.Table.{built_number, flat, slots_in, Builds}
use Rattle.areas.proofs.Writing.{flat_length}
use Rattle.areas.proofs.MadeLaws.{areas_of_few, areas_of_ascends, areas_of_shape}
use Rattle.demand3.proofs.Refusal.{build_answers}
use Rattle.lent_table.specs.Table.{table_in}
use Rattle.lent_table.proofs.LessLaws.{above_solid}
use Rattle.lent_table.proofs.TableLaws.{table_flat, flat_table}
use Rattle.late_claim.specs.Late.{After, less_claim, areas_left, late_of}
use Rattle.late_theorems.specs.Refusals.{late_gives, LateKind, TableStands}
use Rattle.late_theorems.specs.Came.{Came, built, later, Is}
use Rattle.late_theorems.proofs.Stands.{stands_good, table_size}
use Rattle.late_theorems.proofs.Ways.{map_done, unrefused}
use Rattle.late_theorems.proofs.Refusals.{many_areas, refused_leaves}
use Rattle.late_theorems.proofs.Left.{left_list, left_room, same_slots}
use Rattle.late_theorems.proofs.Afresh.{claim_afresh}

-- the used numbers are those of the areas
pub used_numbers : (n : ℕ) (l : List ℕ) → n ≤ slots_in l → take (n + n) l ≡ flat (table_in n l)
used_numbers n l h =
    let room : n + n ≤ length l = omega arith in
    ap (λ (k : List ℕ). take (n + n) k) (table_flat n l room)
    ∙ take_at (flat (table_in n l)) (drop (n + n) l) (n + n) (omega (arith, flat_length (table_in n l), table_size n l h))

-- a build that is done gives the map's table
pub built_is : {p : ℕ} {low high : Option ℕ} {m : MemoryMap} {n : ℕ} {l l' : List ℕ} → Made p m → Builds p m low high l l' (Ok n) → Is p low high m n l'
built_is {p} {low} {high} {m} {n} {l} {l'} made b =
    let areas = areas_of p low high m in
    let a = build_answers b in
    let enough : length areas ≤ slots_in l = a.done.0 refl in
    let count : n ≡ length areas = cc (a.count refl) in
    let size : length l' ≡ length l =
    ap length (a.writes refl) ∙ omega (arith, length-append (flat areas) (drop (length areas + length areas) l), flat_length areas, length-drop (length areas + length areas) l) in
    let slots : slots_in l' ≡ slots_in l = ap (λ (i : ℕ). i / 2) size in
    record {
      made = made;
      room = omega arith;
      areas = rw (count, a.writes refl) (flat_table areas (drop (length areas + length areas) l) (above_solid areas 0 (areas_of_ascends made low high)));
    }

-- such a table passes 14
pub is_good : {p : ℕ} {low high : Option ℕ} {m : MemoryMap} {n : ℕ} {l : List ℕ} → Page p → Is p low high m n l → TableStands p n l
is_good {p} {low} {high} {m} {n} {l} g is =
    (stands_good p n l).0 (record { room = is.room; shape = rw is.areas (areas_of_shape is.made low high g) })

-- a build of the same map on as many slots, whatever was in them, is done with the same count and the same used numbers
is_afresh : {p : ℕ} {low high : Option ℕ} {m : MemoryMap} {n : ℕ} {l k k' : List ℕ} {b : Result ℕ AreasRefusal} → Is p low high m n l
    → slots_in k ≡ slots_in l → Builds p m low high k k' b → (b ≡ Ok n) × (take (n + n) l ≡ take (n + n) k')
is_afresh {p} {low} {high} {m} {n} {l} {k} {k'} {b} is e w =
    let areas = areas_of p low high m in
    let a = build_answers w in
    let count : n ≡ length areas = sym (table_size n l is.room) ∙ ap length is.areas in
    let done : built_number b ≡ 0 = a.done.1 (omega (arith, is.room)) in (
      a.count done ∙ ap Ok (sym count),
      used_numbers n l is.room ∙ ap flat is.areas
          ∙ sym (ap (λ (x : List ℕ). take (n + n) x) (a.writes done) ∙ take_at (flat areas) (drop (length areas + length areas) k) (n + n) (omega (arith, flat_length areas))),
    )

module _ {p : ℕ} {low high : Option ℕ} {m : MemoryMap} {n : ℕ} {l : List ℕ} (g : Page p) (is : Is p low high m n l) (c : Claim) where
  -- the areas that are left are those of the map that has the claim
  left_afresh : LateKind c → answer_number (registered p m c).answer ≡ 0 → areas_left p c n l ≡ areas_of p low high (registered p m c).map
  left_afresh kind z =
      ap (λ (areas : List Interval). less_claim p c areas) is.areas
      ∙ claim_afresh p m c g is.made (map_done (registered p m c).answer z) (λ e. kind.other (inr e)) low high kind.known

  done_map : late_gives p m c n l ≡ 0 → (late_of p m c n l).map ≡ (registered p m c).map
  done_map done = ap (λ (a : After). a.map) (unrefused p m c n l done).is

  -- a late claim that is done leaves the table of the map that has the claim
  pub done_is : late_gives p m c n l ≡ 0 → Is p low high (late_of p m c n l).map (late_of p m c n l).count (late_of p m c n l).table
  done_is done =
      let e = unrefused p m c n l done in
      record {
        made = rw (done_map done) (registered_made p m c g is.made);
        room = left_room p m c n l done;
        areas = left_list p m c n l done ∙ left_afresh e.kind e.registers ∙ ap (λ (x : MemoryMap). areas_of p low high x) (sym (done_map done));
      }

  -- and one that is refused leaves the table of its map: it changes neither
  later_is : Is p low high (late_of p m c n l).map (late_of p m c n l).count (late_of p m c n l).table
  later_is = go (late_gives p m c n l) refl
    where
      go : (k : ℕ) → late_gives p m c n l ≡ k → Is p low high (late_of p m c n l).map (late_of p m c n l).count (late_of p m c n l).table
      go zero e = done_is e
      go (suc k) e =
          let same = refused_leaves p m c n l (λ z. omega arith) in
          record { made = rw same is.made; room = rw same is.room; areas = rw same is.areas }

  -- THEOREM, a build afresh: after a late claim that is done, "the used slots afterwards equal a build afresh with the claim included",
  -- on as many slots and whatever was in them
  pub late_afresh : late_gives p m c n l ≡ 0 → {k k' : List ℕ} {b : Result ℕ AreasRefusal} → slots_in k ≡ slots_in l
      → Builds p (registered p m c).map low high k k' b
      → (b ≡ Ok (late_of p m c n l).count)
      × (take ((late_of p m c n l).count + (late_of p m c n l).count) (late_of p m c n l).table ≡ take ((late_of p m c n l).count + (late_of p m c n l).count) k')
  late_afresh done e b =
      is_afresh (done_is done) (e ∙ sym (ap (λ (i : ℕ). i / 2) (same_slots p m c n l done))) (rw (sym (done_map done)) at b)

  -- THEOREM, refusal 3: exactly where the map with the claim has more areas than there are slots
  pub many_afresh : (late_gives p m c n l ≡ 3)
      ↔ (LateKind c × (answer_number (registered p m c).answer ≡ 0) × (slots_in l < length (areas_of p low high (registered p m c).map)))
  many_afresh =
      let many = many_areas p m c n l in (
        λ e. let d = many.0 e in (d.0, d.2, rw (left_afresh d.0 d.2) at d.3),
        λ d. many.1 (d.0, is_good g is, d.1, rw (left_afresh d.0 d.1) d.2),
      )

  -- so a claim that is not refused for another reason is refused exactly where a build afresh is
  pub many_built : LateKind c → answer_number (registered p m c).answer ≡ 0 → {k k' : List ℕ} {b : Result ℕ AreasRefusal} → slots_in k ≡ slots_in l
      → Builds p (registered p m c).map low high k k' b → (late_gives p m c n l ≡ 3) ↔ (built_number b ≡ 3)
  many_built kind z e b =
      let three = (build_answers b).refused in (
        λ h. let d = many_afresh.0 h in three.1 (omega (arith, d.2)),
        λ h. let d = three.0 h in many_afresh.1 (kind, z, omega arith),
      )

  -- 512 slots are always enough, since there are never more areas than entries
  pub enough_slots : 512 ≤ slots_in l → late_gives p m c n l ≡ 3 → ⊥
  enough_slots h e =
      let more = (many_afresh.0 e).2 in
      let made = registered_made p m c g is.made in
      omega (arith, more, areas_of_few made low high, made.room)

-- THEOREM, a table that came from its map and limits holds the map's areas
pub came_is : {p : ℕ} {low high : Option ℕ} {m : MemoryMap} {n : ℕ} {l : List ℕ} → Page p → Came p low high m n l → Is p low high m n l
came_is g (built made b) = built_is made b
came_is g (later c h) = later_is g (came_is g h) c

-- so it passes 14
pub came_good : {p : ℕ} {low high : Option ℕ} {m : MemoryMap} {n : ℕ} {l : List ℕ} → Page p → Came p low high m n l → TableStands p n l
came_good g h = is_good g (came_is g h)
