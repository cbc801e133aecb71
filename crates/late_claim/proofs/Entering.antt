-- `enter_in`: what each of its returns comes to, for a claim that was judged. Assumes nothing.
use Rattle.late_claim.specs.declared.LateRefusal.TheVariants.{MapFull, TooManyAreas}
use Rattle.late_claim.specs.declared.LateRefusal.{LateRefusal}
use Rattle.std.specs.Prelude.{Result, Ok, Err}
use mathlib.Core.Path.{◌≡◌, refl, ap, sym, ◌∙◌}
use mathlib.Core.List.{List}
use mathlib.Core.Bool.{Bool, true, false, cond, not}
use Prim.Native.Nat.{ℕ, ◌≤◌, ◌<◌}
use native.Mathlib.Omega.{arith}
use lib.Dec.{leb}
use lib.ListN.{length}
use borrow.Author.Tests.{eq-eqb, ne_eqb, le-leb, lt-leb, not-true, not-false}
use Rattle.entry.specs.declared.MemoryEntry.{MemoryEntry}
use Rattle.entry.specs.declared.Claim.{Claim}
use Rattle.entry.specs.Claim.{rounded}
use Rattle.memory.specs.declared.MemoryMap.{MemoryMap}
use Rattle.memory.specs.declared.Registered.{Registered}
use Rattle.memory.specs.Map.{answered, nothing, inserted, registered, pass, begin}
use Rattle.memory.specs.Run.{is_done}
use Rattle.memory.proofs.MapLaws.{placed_ways, Way, no_kind, no_page, new_page, registered_way}
use Rattle.areas.specs.declared.Interval.{Interval}
use Rattle.areas.specs.Areas.{span}
use Rattle.areas.specs.Table.{slots_in, fits}
use Rattle.lent_table.specs.Table.{table_in, GoodTable, table_with}
use Rattle.lent_table.specs.Less.{less}
use Rattle.lent_table.specs.Edit.{crowds, Lent, lent, edited}
use Rattle.lent_table.proofs.TableLaws.{table_length, good_exactly}
use Rattle.lent_table.proofs.Editing.{table_same, good_crowds, good_edited}
use Rattle.late_claim.specs.Late.{less_claim, areas_left, judged, entering, After, on_done, unchanged, entered, enter_of}
use Rattle.late_claim.proofs.Judging.{Checked, checked}

-- a registration that is not done leaves the map
pub refused_map : (p : ℕ) (m : MemoryMap) (c : Claim) → is_done (registered p m c).answer ≡ false → (registered p m c).map ≡ m
refused_map p m c e = go (registered p m c) (registered_way p m c) e
  where
    new : (e : MemoryEntry) → is_done (inserted m e).answer ≡ false → (inserted m e).map ≡ m
    new e = unfold inserted in
        placed_ways m (pass m.size (begin m e)) (λ r. is_done r.answer ≡ false → r.map ≡ m) (λ h z. refl) (λ h z. absurd (let y : ◌≡◌ {A = ℕ} 0 1 = cc in omega arith))

    go : (r : Registered) → Way p m c r → is_done r.answer ≡ false → r.map ≡ m
    go r (no_kind i) f = refl
    go r (no_page i j) f = refl
    go r (new_page s) f = new (rounded p c) f

-- the answer in hand
pub enter_at_lem : (p : ℕ) (m : MemoryMap) (c : Claim) (n : ℕ) (l : List ℕ) (a : Result Unit LateRefusal) → entering p m c n l ≡ a
    → enter_of p m c n l ≡ on_done a (entered p m c n l) (unchanged m n l a)
unfolding enter_of
enter_at_lem p m c n l a e = rw e

-- what entering leaves, part by part
entered_is : (p : ℕ) (m : MemoryMap) (c : Claim) (n : ℕ) (l : List ℕ) (m' : MemoryMap) (n' : ℕ) (l' : List ℕ)
    → m' ≡ (registered p m c).map → n' ≡ length (areas_left p c n l) → l' ≡ table_with (areas_left p c n l) n l
    → ◌≡◌ {A = After} (record { map = m'; count = n'; table = l'; answer = (Ok tt) }) (entered p m c n l)
entered_is p m c n l m' n' l' e f g = rw (e, f, g)

module _ (p : ℕ) (m : MemoryMap) (c : Claim) (n : ℕ) (l : List ℕ) (done : judged p c.kind n l ≡ Ok tt) where
  check : Checked p c.kind n l
  check = checked p c.kind n l done

  -- the claim registers nothing
  pub enter_nothing : nothing p c ≡ true → unchanged m n l (Ok tt) ≡ enter_of p m c n l
  unfolding entering less_claim
  enter_nothing t =
      let g : GoodTable p n l = (good_exactly p n l).0 check.good in
      let same : areas_left p c n l ≡ table_in n l = rw t in
      let size : length (table_in n l) ≡ n = table_length n l (omega (arith, g.room)) in
      let r : registered p m c ≡ answered m (Ok tt) = unfold registered in rw (← check.known, t) in
      entered_is p m c n l m n l (rw r) (rw (same, size)) (rw same (table_same l n g.room))
      ∙ sym (enter_at_lem p m c n l (Ok tt) (rw (r, same, le-leb (length (table_in n l)) (slots_in l) (omega (arith, g.room)))))

  pub enter_sizeless : c.size ≡ 0 → unchanged m n l (Ok tt) ≡ enter_of p m c n l
  enter_sizeless h = enter_nothing (unfold nothing in rw (ne_eqb c.kind 0 (λ z. omega (arith, check.late)), eq-eqb c.size 0 h))

  module _ (sized : c.size ≡ 0 → ⊥) {pages : Interval} (is : pages ≡ span (rounded p c)) where
    nothing_is : nothing p c ≡ leb pages.hi pages.lo
    unfolding nothing
    nothing_is = rw (ne_eqb c.kind 0 (λ z. omega (arith, check.late)), ne_eqb c.size 0 sized, is)

    pub enter_pageless : pages.hi ≤ pages.lo → unchanged m n l (Ok tt) ≡ enter_of p m c n l
    enter_pageless h = enter_nothing (nothing_is ∙ le-leb pages.hi pages.lo h)

    module _ (some : pages.lo < pages.hi) where
      left_is : areas_left p c n l ≡ less pages (table_in n l)
      unfolding less_claim
      left_is = let t : nothing p c ≡ false = nothing_is ∙ lt-leb pages.hi pages.lo some in rw (t, ← is)

      -- the answer, where the registration and the room are told
      entering_is : (done room : Bool) → is_done (registered p m c).answer ≡ done → fits (less pages (table_in n l)) l ≡ room
          → entering p m c n l ≡ cond done (cond room (Ok tt) (Err TooManyAreas)) (Err MapFull)
      unfolding entering
      entering_is done room e f = rw (e, left_is, f)

      -- the table was judged, so what the calls on it say is of its areas less the claim
      crowds_is : crowds pages n l ≡ not (fits (less pages (table_in n l)) l)
      crowds_is = good_crowds p n l pages check.good some

      pub enter_crowded : crowds pages n l ≡ true → {r : Registered} → r ≡ registered p m c
          → {a : LateRefusal} → a ≡ cond (is_done r.answer) TooManyAreas MapFull → unchanged m n l (Err a) ≡ enter_of p m c n l
      enter_crowded full {r} q {a} z = go (is_done (registered p m c).answer) refl (z ∙ ap (λ (x : Registered). cond (is_done x.answer) TooManyAreas MapFull) q)
        where
          none : fits (less pages (table_in n l)) l ≡ false
          none = not-true _ (sym crowds_is ∙ full)

          go : (t : Bool) → is_done (registered p m c).answer ≡ t → a ≡ cond (is_done (registered p m c).answer) TooManyAreas MapFull
              → unchanged m n l (Err a) ≡ enter_of p m c n l
          go true u v =
              let w : a ≡ TooManyAreas = v ∙ rw u in
              rw w (sym (enter_at_lem p m c n l (Err TooManyAreas) (entering_is true false u none)))
          go false u v =
              let w : a ≡ MapFull = v ∙ rw u in
              rw w (sym (enter_at_lem p m c n l (Err MapFull) (entering_is false false u none)))

      module _ (room : crowds pages n l ≡ false) {r : Registered} (q : r ≡ registered p m c) where
        enough : fits (less pages (table_in n l)) l ≡ true
        enough = not-false _ (sym crowds_is ∙ room)

        pub enter_full : is_done r.answer ≡ false → unchanged r.map n l (Err MapFull) ≡ enter_of p m c n l
        enter_full u =
            let v : is_done (registered p m c).answer ≡ false = rw q at u in
            let k : r.map ≡ m = ap (λ (x : Registered). x.map) q ∙ refused_map p m c v in
            rw k (sym (enter_at_lem p m c n l (Err MapFull) (entering_is false true v enough)))

        pub enter_done : r.answer ≡ Ok tt → {l' : List ℕ} {n' : ℕ} → lent n' l' ≡ edited pages n l
            → ◌≡◌ {A = After} (record { map = r.map; count = n'; table = l'; answer = (Ok tt) }) (enter_of p m c n l)
        enter_done u {l'} {n'} d =
            let v : is_done (registered p m c).answer ≡ true = rw q at (ap is_done u) in
            let e = d ∙ good_edited p n l pages check.good some enough in
            entered_is p m c n l r.map n' l' (ap (λ (x : Registered). x.map) q) (rw left_is (ap (λ (x : Lent). x.count) e)) (rw left_is (ap (λ (x : Lent). x.numbers) e))
            ∙ sym (enter_at_lem p m c n l (Ok tt) (entering_is true true v enough))
