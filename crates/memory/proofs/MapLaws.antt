-- What a registration keeps: every call makes a map again, and a refused one leaves it as it was. For every page size p. Assumes nothing.
use Rattle.memory.specs.declared.MapRefusal.TheVariants.{UnknownKind, MapFull}
use Rattle.std.specs.Prelude.{Option, Some, None, Ok, Err}
use mathlib.Core.Path.{◌≡◌, refl, ap, sym, ◌∙◌}
use mathlib.Core.Bool.{Bool, true, false, cond, ◌||◌}
use Prim.Native.Nat.{ℕ, suc, ◌+◌, ◌-◌, ◌<◌, ◌≤◌}
use native.Mathlib.Omega.{arith}
use lib.Dec.{leb, eqb}
use lib.ListN.{length-replicate}
use borrow.Author.Tests.{le-leb, lt-leb, leb-true, leb-false, eq-eqb, ne_eqb, eqb-true, eqb-false}
use Rattle.page.specs.Round.{Aligned, Page}
use Rattle.page.proofs.Laws.{min_of, max_of}
use Rattle.entry.specs.declared.MemoryEntry.{MemoryEntry}
use Rattle.entry.specs.declared.BootloaderMemoryKind.{BootloaderMemoryKind}
use Rattle.entry.specs.declared.BootloaderMemoryKind.TheVariants.{Null}
use Rattle.entry.specs.Kind.{number_of, IsKind, kind_of}
use Rattle.entry.specs.Entry.{union}
use Rattle.entry.specs.declared.Claim.{Claim}
use Rattle.entry.specs.Claim.{rounded}
use Rattle.entry.proofs.KindLaws.{Reads, known, unknown, reads}
use Rattle.entry.proofs.EntryLaws.{touch_sym, union_apart}
use Rattle.entry.proofs.ClaimLaws.{rounded_kind, rounded_from, rounded_to, rounded_low}
use Rattle.memory.specs.declared.MemoryMap.{MemoryMap}
use Rattle.memory.specs.declared.Registered.{Registered}
use Rattle.memory.specs.Map.{slots_of, vacant, at, put, refilled, blank, answered, Absorbs, Pass, look, pass, begin, ended, placed, inserted, Something, nothing, judged, registered}
use Rattle.memory.specs.Made.{Full, Good, Made}
use Rattle.memory.proofs.SlotLaws.{from, from_below, from_other, from_apart, at_or_not, full_put, at_put_same, at_put_other, at_moved}
use Rattle.memory.proofs.PassLaws.{here, absorbing, passing, look_ways, pass_keeps, pass_done}

absorbs_sym : (a b : MemoryEntry) → Absorbs a b → Absorbs b a
absorbs_sym a b t = record { kinds = sym t.kinds; near = touch_sym a b t.near }

-- what is absorbed by neither of two that absorb one another, is not absorbed by their union
absorbs_apart : (a b c : MemoryEntry) → Absorbs a b → c.start < c.end → (Absorbs a c → ⊥) → (Absorbs b c → ⊥) → Absorbs (union a b) c → ⊥
unfolding union
absorbs_apart a b c t h na nb u =
    union_apart a b c t.near (omega arith)
    (λ x. na (record { kinds = u.kinds; near = x }))
    (λ x. nb (record { kinds = sym t.kinds ∙ u.kinds; near = x }))
    (unfold union in u.near)

union_good : (p : ℕ) (a b : MemoryEntry) → Good p a → Good p b → Good p (union a b)
unfolding union
union_good p a b x y =
    record {
      some = omega (arith, x.some, y.some);
      from = min_of (Aligned p) _ _ x.from y.from;
      to = max_of (Aligned p) _ _ x.to y.to;
      low = omega (arith, x.low, y.low);
      known = x.known;
      proper = x.proper;
    }

-- what a pass has throughout, with k slots left to look at
pub record Going (p k : ℕ) (s : Pass) : Type 0 where
  pub full : Full s.slots
  pub fits : s.index + k ≤ 512
  pub new : Good p s.new
  pub each : (j : ℕ) → j < s.index + k → Good p (at s.slots j)
  pub apart : (a b : ℕ) → a < s.index + k → b < s.index + k → (a ≡ b → ⊥) → Absorbs (at s.slots a) (at s.slots b) → ⊥
  pub done : (j : ℕ) → j < s.index → Absorbs s.new (at s.slots j) → ⊥

going_absorbing : (p k : ℕ) (s : Pass) → Absorbs s.new (here s) → Going p (suc k) s → Going p k (absorbing k s)
going_absorbing p k s t g =
    record {
      full = full_put _ _ _ g.full;
      fits = omega (arith, g.fits);
      new = union_good p _ _ g.new (g.each s.index (omega arith));
      each = λ j h. rw (moved j) (g.each _ (below j h));
      apart = λ a b ha hb n x. g.apart _ _ (below a ha) (below b hb) (from_apart _ _ a b ha hb n) (rw (moved a, moved b) at x);
      done = λ j h x.
          let q : Good p (at s.slots j) = g.each j (omega arith) in
          absorbs_apart s.new (here s) (at s.slots j) t q.some (g.done j h)
          (g.apart s.index j (omega arith) (omega arith) (omega arith))
          (rw (moved j, from_other s.index (s.index + k) j (omega arith)) at x);
    }
  where
    moved : (j : ℕ) → at (put s.slots s.index (at s.slots (s.index + k))) j ≡ at s.slots (from s.index (s.index + k) j)
    moved j = at_moved s.slots s.index (s.index + k) j g.full (omega (arith, g.fits))

    below : (j : ℕ) → j < s.index + k → from s.index (s.index + k) j < s.index + suc k
    below j h = omega (arith, from_below s.index (s.index + k) j h)

going_passing : (p k : ℕ) (s : Pass) → (Absorbs s.new (here s) → ⊥) → Going p (suc k) s → Going p k (passing k s)
going_passing p k s n g =
    record {
      full = g.full;
      fits = omega (arith, g.fits);
      new = g.new;
      each = λ j h. g.each j (omega arith);
      apart = λ a b ha hb. g.apart a b (omega arith) (omega arith);
      done = λ j h. at_or_not s.index j (Absorbs s.new (at s.slots j) → ⊥)
          (λ e. rw e n)
          (λ d. g.done j (omega arith));
    }

pub going_look : (p k : ℕ) (s : Pass) → Going p (suc k) s → Going p k (look k s)
going_look p k s h = look_ways k s (λ r. Going p k r) (λ t. going_absorbing p k s t h) (λ n. going_passing p k s n h)

pub going_begin : (p : ℕ) (m : MemoryMap) (e : MemoryEntry) → Made p m → Good p e → Going p m.size (begin m e)
unfolding begin
going_begin p m e g new =
    record {
      full = g.slots;
      fits = omega (arith, g.room);
      new = new;
      each = λ j h. g.each j (omega arith);
      apart = λ a b ha hb. g.apart a b (omega arith) (omega arith);
      done = λ j h x. omega arith;
    }

pub going_end : (p : ℕ) (m : MemoryMap) (e : MemoryEntry) → Made p m → Good p e → Going p 0 (pass m.size (begin m e))
going_end p m e g new = pass_keeps (Going p) (going_look p) m.size (begin m e) (going_begin p m e g new)

made_ended : (p : ℕ) (m : MemoryMap) (s : Pass) → s.index < 512 → Going p 0 s → Made p (ended m s)
unfolding ended
made_ended p m s room g =
    record {
      slots = full_put _ _ _ g.full;
      room = omega arith;
      each = λ j h. at_or_not s.index j (Good p (at (put s.slots s.index s.new) j))
          (λ e. rw (e, new) g.new)
          (λ n. rw (old j n) (g.each j (omega arith)));
      apart = λ a b ha hb n. at_or_not s.index a (Absorbs (at (put s.slots s.index s.new) a) (at (put s.slots s.index s.new) b) → ⊥)
          (λ e. rw (e, new, old b (omega arith)) (g.done b (omega arith)))
          (λ na. at_or_not s.index b (Absorbs (at (put s.slots s.index s.new) a) (at (put s.slots s.index s.new) b) → ⊥)
          (λ e. rw (e, new, old a na) (λ t. g.done a (omega arith) (absorbs_sym _ _ t)))
          (λ nb. rw (old a na, old b nb) (g.apart a b (omega arith) (omega arith) n)));
    }
  where
    new : at (put s.slots s.index s.new) s.index ≡ s.new
    new = at_put_same s.slots s.index s.new g.full (omega arith)

    old : (j : ℕ) → (j ≡ s.index → ⊥) → at (put s.slots s.index s.new) j ≡ at s.slots j
    old j n = at_put_other s.slots s.index j s.new n

-- a fact of what placing gives, from the two ways
pub placed_ways : (m : MemoryMap) (s : Pass) (P : Registered → Type 0)
    → (512 ≤ s.index → P (answered m (Err MapFull))) → (s.index < 512 → P (answered (ended m s) (Ok tt))) → P (placed m s)
unfolding placed
placed_ways m s P f g = go (leb 512 s.index) refl
  where
    go : (t : Bool) → leb 512 s.index ≡ t → P (cond t (answered m (Err MapFull)) (answered (ended m s) (Ok tt)))
    go true e = f (leb-true _ _ e)
    go false e = g (leb-false _ _ e)

-- the three ways that a registration goes
pub data Way (p : ℕ) (m : MemoryMap) (c : Claim) : Registered → Type 0 where
  no_kind : (IsKind c.kind → ⊥) → Way p m c (answered m (Err UnknownKind))
  no_page : IsKind c.kind → (Something p c → ⊥) → Way p m c (answered m (Ok tt))
  new_page : Something p c → Way p m c (inserted m (rounded p c))

way : (p : ℕ) (m : MemoryMap) (c : Claim) (r : Option BootloaderMemoryKind) → Reads c.kind r
    → Way p m c (judged r m (cond (nothing p c) (answered m (Ok tt)) (inserted m (rounded p c))))
unfolding nothing
way p m c r (unknown n) = no_kind n
way p m c r (known k q) =
    go (eqb c.kind (number_of Null)) (eqb c.size 0) (leb (rounded p c).end (rounded p c).start) refl refl refl
  where
    is : IsKind c.kind
    is = record { kind = k; number = q }

    go : (t u v : Bool) → eqb c.kind (number_of Null) ≡ t → eqb c.size 0 ≡ u → leb (rounded p c).end (rounded p c).start ≡ v
        → Way p m c (cond (t || (u || v)) (answered m (Ok tt)) (inserted m (rounded p c)))
    go true u v e f g = no_page is (λ s. s.proper (eqb-true _ _ e))
    go false true v e f g = no_page is (λ s. s.sized (eqb-true _ _ f))
    go false false true e f g = no_page is (λ s. omega (arith, leb-true (rounded p c).end (rounded p c).start g, s.some))
    go false false false e f g =
        new_page (record { known = is; proper = eqb-false _ _ e; sized = eqb-false _ _ f; some = leb-false _ _ g })

pub registered_way : (p : ℕ) (m : MemoryMap) (c : Claim) → Way p m c (registered p m c)
unfolding registered
registered_way p m c = way p m c (kind_of c.kind) (reads c.kind)

-- ── The same, as the code tests them ──
pub unknown_registered : (p : ℕ) (m : MemoryMap) (c : Claim) → None ≡ kind_of c.kind → answered m (Err UnknownKind) ≡ registered p m c
unfolding registered
unknown_registered p m c e = rw (← e)

module _ (p : ℕ) (m : MemoryMap) (c : Claim) (k : BootloaderMemoryKind) (e : Some k ≡ kind_of c.kind) where
  nothing_registered : nothing p c ≡ true → answered m (Ok tt) ≡ registered p m c
  unfolding registered
  nothing_registered t = rw (← e, t)

  pub null_registered : c.kind ≡ number_of Null → answered m (Ok tt) ≡ registered p m c
  null_registered h = nothing_registered (unfold nothing in rw (eq-eqb _ _ h))

  module _ (proper : c.kind ≡ number_of Null → ⊥) where
    pub none_registered : c.size ≡ 0 → answered m (Ok tt) ≡ registered p m c
    none_registered h = nothing_registered (unfold nothing in rw (ne_eqb _ _ proper, eq-eqb _ _ h))

    module _ (sized : c.size ≡ 0 → ⊥) (r : MemoryEntry) (is : r ≡ rounded p c) where
      pub empty_registered : r.end ≤ r.start → answered m (Ok tt) ≡ registered p m c
      empty_registered h = nothing_registered (unfold nothing in rw (ne_eqb _ _ proper, ne_eqb _ _ sized, ← is, le-leb _ _ h))

      pub some_registered : r.start < r.end → inserted m r ≡ registered p m c
      unfolding registered
      some_registered h =
          let t : nothing p c ≡ false = unfold nothing in rw (ne_eqb _ _ proper, ne_eqb _ _ sized, ← is, lt-leb _ _ h) in
          rw (← e, t, is)

-- what is registered is good
pub rounded_good : (p : ℕ) (c : Claim) → Page p → Something p c → Good p (rounded p c)
rounded_good p c g s =
    record {
      some = s.some;
      from = rounded_from p c g;
      to = rounded_to p c g;
      low = rounded_low p c g;
      known = rw (rounded_kind p c) s.known;
      proper = rw (rounded_kind p c) s.proper;
    }

pub inserted_made : (p : ℕ) (m : MemoryMap) (e : MemoryEntry) → Made p m → Good p e → Made p (inserted m e).map
unfolding inserted
inserted_made p m e g new =
    placed_ways m (pass m.size (begin m e)) (λ r. Made p r.map)
    (λ h. g)
    (λ h. made_ended p m _ h (going_end p m e g new))

-- every registration makes a map again
pub registered_made : (p : ℕ) (m : MemoryMap) (c : Claim) → Page p → Made p m → Made p (registered p m c).map
registered_made p m c g h = go (registered p m c) (registered_way p m c)
  where
    go : (r : Registered) → Way p m c r → Made p r.map
    go r (no_kind n) = h
    go r (no_page i n) = h
    go r (new_page s) = inserted_made p m _ h (rounded_good p c g s)

-- the same, for whoever has a result in hand
pub one_made : (p : ℕ) (m : MemoryMap) (c : Claim) (r : Registered) → Page p → r ≡ registered p m c → Made p m → Made p r.map
one_made p m c r g e h = rw e (registered_made p m c g h)

-- and so does making one empty
pub blank_made : (p : ℕ) → Made p blank
unfolding blank
blank_made p =
    record {
      slots = length-replicate {A = MemoryEntry} 512 vacant;
      room = omega arith;
      each = λ j h. absurd (omega arith);
      apart = λ a b h. absurd (omega arith);
    }

-- a pass that has absorbed nothing yet is as it began; one that has, has lost a slot
pub record Whole (m : MemoryMap) (e : MemoryEntry) (n : ℕ) (s : Pass) : Type 0 where
  pub most : s.index + n ≤ m.size
  pub new : s.index + n ≡ m.size → s.new ≡ e
  pub slots : s.index + n ≡ m.size → s.slots ≡ slots_of m
  pub done : s.index + n ≡ m.size → (j : ℕ) → j < s.index → Absorbs e (at (slots_of m) j) → ⊥

whole_look : (m : MemoryMap) (e : MemoryEntry) (n : ℕ) (s : Pass) → Whole m e (suc n) s → Whole m e n (look n s)
whole_look m e n s w =
    look_ways n s (λ r. Whole m e n r)
    (λ t. record {
      most = omega (arith, w.most);
      new = λ q. absurd (omega (arith, w.most));
      slots = λ q. absurd (omega (arith, w.most));
      done = λ q. absurd (omega (arith, w.most));
    })
    (λ d. record {
      most = omega (arith, w.most);
      new = λ q. w.new (omega arith);
      slots = λ q. w.slots (omega arith);
      done = λ q j h t.
          let z : s.index + suc n ≡ m.size = omega arith in
          at_or_not s.index j ⊥
          (λ f. d (rw (w.new z, w.slots z, ← f) t))
          (λ f. w.done z j (omega arith) t);
    })

pub whole_end : (m : MemoryMap) (e : MemoryEntry) → Whole m e 0 (pass m.size (begin m e))
whole_end m e =
    pass_keeps (Whole m e) (whole_look m e) m.size (begin m e)
    (unfold begin in record { most = omega arith; new = λ q. refl; slots = λ q. refl; done = λ q j h t. omega arith })

-- a pass that ends with no slot left has changed nothing
refused_whole : (m : MemoryMap) (e : MemoryEntry) (s : Pass) → pass m.size (begin m e) ≡ s → m.size ≤ 512 → 512 ≤ s.index
    → refilled m s.slots s.index ≡ m
refused_whole m e s q room h =
    let w : Whole m e 0 s = rw q at (whole_end m e) in
    let n : s.index ≡ m.size = omega (arith, w.most) in
    rw (n, w.slots (omega arith))

-- a pass at its end, with n entries held: what inserting comes to
module _ (m : MemoryMap) (e : MemoryEntry) (s : Pass) (n : ℕ) (done : s.index ≡ n) (goes : pass (n - s.index) s ≡ pass m.size (begin m e)) where
  at_end : pass m.size (begin m e) ≡ s
  at_end = sym goes ∙ pass_done n s (omega arith)

  pub inserted_full : m.size ≤ 512 → 512 ≤ n → answered (refilled m s.slots n) (Err MapFull) ≡ inserted m e
  unfolding inserted placed
  inserted_full room h =
      rw (at_end, le-leb 512 s.index (omega arith), ← done)
      (ap (λ (x : MemoryMap). answered x (Err MapFull)) (refused_whole m e s at_end room (omega arith)))

  pub inserted_room : n < 512 → answered (refilled m (put s.slots n s.new) (n + 1)) (Ok tt) ≡ inserted m e
  unfolding inserted placed ended
  inserted_room h = rw (at_end, lt-leb 512 s.index (omega arith), done)
