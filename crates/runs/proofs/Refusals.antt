-- Refusals 1 and 2, exactly when, and that a refused call changes nothing. The theorems are those on the number; the laws on the answer's
-- case stand below them. Assumes nothing.
use Rattle.memory.specs.declared.MapRefusal.TheVariants.{UnknownKind, MapFull}
use Rattle.memory.specs.declared.MapRefusal.{MapRefusal}
use Rattle.entry.specs.declared.BootloaderMemoryKind.{BootloaderMemoryKind}
use Rattle.std.specs.Prelude.{Option, Result, Ok, Err}
use mathlib.Core.Path.{◌≡◌, refl, ap, sym, ◌∙◌}
use mathlib.Core.Bool.{true, false, cond, ◌&&◌}
use mathlib.Core.List.{List, [], ◌∷◌, ◌++◌, Memᴰ}
use mathlib.Core.Logic.{◌↔◌, ◌⊎◌, inl, inr, ⊎_elim}
use Prim.Native.Nat.{ℕ, ◌+◌, ◌<◌, ◌≤◌}
use native.Mathlib.Omega.{arith}
use lib.Dec.{eqb}
use Rattle.numbers.specs.Number.{Names}
use Rattle.numbers.proofs.Given.{given}
use Rattle.page.specs.Round.{Page}
use Rattle.entry.specs.declared.MemoryEntry.{MemoryEntry}
use Rattle.entry.specs.Kind.{IsKind, kind_of}
use Rattle.entry.specs.declared.Claim.{Claim}
use Rattle.entry.specs.Claim.{rounded}
use Rattle.entry.proofs.KindLaws.{Reads, known, unknown, reads}
use Rattle.memory.specs.declared.MemoryMap.{MemoryMap}
use Rattle.memory.specs.declared.Registered.{Registered}
use Rattle.memory.specs.Map.{answer_number, slots_of, at, Absorbs, Pass, pass, begin, inserted, Something, registered}
use Rattle.memory.specs.Made.{Made}
use Rattle.memory.specs.Run.{is_done, registered_all, settled}
use Rattle.memory.proofs.PassLaws.{look_ways, pass_keeps}
use Rattle.memory.proofs.MapLaws.{placed_ways, Way, no_kind, no_page, new_page, registered_way, registered_made, whole_end}
use Rattle.memory.proofs.RunLaws.{settled_done, settled_refused}
use Rattle.bootloader.specs.List.{is_known, all_of, all_known, claims, listed}
use Rattle.bootloader.proofs.ListLaws.{listed_unknown, listed_known}
use Rattle.runs.specs.Sets.{Some}
use Rattle.runs.specs.Refusals.{Kinds, Kindless, Refused, Overflows}
use Rattle.runs.proofs.Runs.{done_or, run_nil, run_on, run_stops, run_accepted}

-- two cases of an answer are not one
done_full : ◌≡◌ {A = Result Unit MapRefusal} (Ok tt) (Err MapFull) → ⊥
done_full e = let z : ◌≡◌ {A = ℕ} 0 1 = cc in omega arith

done_unknown : ◌≡◌ {A = Result Unit MapRefusal} (Ok tt) (Err UnknownKind) → ⊥
done_unknown e = let z : ◌≡◌ {A = ℕ} 0 1 = cc in omega arith

unknown_full : ◌≡◌ {A = Result Unit MapRefusal} (Err UnknownKind) (Err MapFull) → ⊥
unknown_full e = let z : ◌≡◌ {A = ℕ} 0 1 = cc in omega arith

-- 1 and 2 name their cases
answer_names : Names answer_number
answer_names = record { back = λ n. cond (eqb n 1) (Err UnknownKind) (Err MapFull); named = each }
  where
    each : (a : Result Unit MapRefusal) → (answer_number a ≡ 0) ⊎ (cond (eqb (answer_number a) 1) (Err UnknownKind) (Err MapFull) ≡ a)
    each (Ok tt) = inl refl
    each (Err UnknownKind) = inr refl
    each (Err MapFull) = inr refl

-- ── A pass that absorbs nothing ──
record Still (m : MemoryMap) (e : MemoryEntry) (n : ℕ) (s : Pass) : Type 0 where
  all : s.index + n ≡ m.size
  new : s.new ≡ e
  slots : s.slots ≡ slots_of m

still_end : (m : MemoryMap) (e : MemoryEntry) → ((j : ℕ) → j < m.size → Absorbs e (at (slots_of m) j) → ⊥) → Still m e 0 (pass m.size (begin m e))
still_end m e f =
    pass_keeps (Still m e)
    (λ n s w. look_ways n s (λ r. Still m e n r)
    (λ t. absurd (f s.index (omega (arith, w.all)) (rw (w.new, w.slots) at t)))
    (λ d. record { all = omega (arith, w.all); new = w.new; slots = w.slots }))
    m.size (begin m e)
    (unfold begin in record { all = omega arith; new = refl; slots = refl })

-- ── One registration ──
module _ (p : ℕ) (m : MemoryMap) (c : Claim) where
  -- what inserting answers
  full_or_done : (P : Result Unit MapRefusal → Type 0) → P (Err MapFull) → P (Ok tt) → P (inserted m (rounded p c)).answer
  unfolding inserted
  full_or_done P f g = placed_ways m (pass m.size (begin m (rounded p c))) (λ r. P r.answer) (λ h. f) (λ h. g)

  pub unknown_exactly : ((registered p m c).answer ≡ Err UnknownKind) ↔ (IsKind c.kind → ⊥)
  unknown_exactly = (λ e. there (registered p m c) (registered_way p m c) e, back (registered p m c) (registered_way p m c))
    where
      there : (r : Registered) → Way p m c r → r.answer ≡ Err UnknownKind → IsKind c.kind → ⊥
      there r (no_kind n) e = n
      there r (no_page i n) e = absurd (done_unknown e)
      there r (new_page s) e = absurd (full_or_done (λ a. a ≡ Err UnknownKind → ⊥) (λ q. unknown_full (sym q)) done_unknown e)

      back : (r : Registered) → Way p m c r → (IsKind c.kind → ⊥) → r.answer ≡ Err UnknownKind
      back r (no_kind n) f = refl
      back r (no_page i n) f = absurd (f i)
      back r (new_page s) f = absurd (f s.known)

  insert_full : m.size ≤ 512 → (s : Something p c) → ((inserted m (rounded p c)).answer ≡ Err MapFull) ↔ Refused p m c
  unfolding inserted
  insert_full room s = (
    placed_ways m (pass m.size (begin m (rounded p c))) (λ r. r.answer ≡ Err MapFull → Refused p m c)
        (λ h z.
        let w = whole_end m (rounded p c) in
        record {
          nonempty = s;
          full = omega (arith, w.most);
          alone = λ j l. w.done (omega (arith, w.most)) j (omega (arith, w.most));
        })
        (λ h z. absurd (done_full z)),
    λ f. placed_ways m (pass m.size (begin m (rounded p c))) (λ r. r.answer ≡ Err MapFull)
        (λ h. refl)
        (λ h. absurd (omega (arith, (still_end m (rounded p c) f.alone).all, f.full))),
  )

  pub full_exactly : m.size ≤ 512 → ((registered p m c).answer ≡ Err MapFull) ↔ Refused p m c
  full_exactly room = (there (registered p m c) (registered_way p m c), back (registered p m c) (registered_way p m c))
    where
      there : (r : Registered) → Way p m c r → r.answer ≡ Err MapFull → Refused p m c
      there r (no_kind n) e = absurd (unknown_full e)
      there r (no_page i n) e = absurd (done_full e)
      there r (new_page s) e = (insert_full room s).0 e

      back : (r : Registered) → Way p m c r → Refused p m c → r.answer ≡ Err MapFull
      back r (no_kind n) f = absurd (n f.nonempty.known)
      back r (no_page i n) f = absurd (n f.nonempty)
      back r (new_page s) f = (insert_full room s).1 f

  -- 1: "a kind is none of the seven, size 0 included"
  pub number_1 : (answer_number (registered p m c).answer ≡ 1) ↔ Kindless c
  number_1 = given answer_names (Err UnknownKind) (λ z. omega arith) unknown_exactly

  -- 2: "It is refused exactly when it is nonempty, 512 entries are held and none of its kind overlaps or touches it."
  pub number_2 : m.size ≤ 512 → (answer_number (registered p m c).answer ≡ 2) ↔ Refused p m c
  number_2 room = given answer_names (Err MapFull) (λ z. omega arith) (full_exactly room)

  -- "0 is done": neither of them
  pub number_0 : m.size ≤ 512 → (answer_number (registered p m c).answer ≡ 0) ↔ (IsKind c.kind × (Refused p m c → ⊥))
  number_0 room = (
    λ z. (known_of (registered p m c) (registered_way p m c) z, λ f. let e = (number_2 room).1 f in omega arith),
    λ w. back (registered p m c).answer refl w,
  )
    where
      known_of : (r : Registered) → Way p m c r → answer_number r.answer ≡ 0 → IsKind c.kind
      known_of r (no_kind n) z = absurd (omega arith)
      known_of r (no_page i n) z = i
      known_of r (new_page s) z = s.known

      back : (a : Result Unit MapRefusal) → (registered p m c).answer ≡ a → IsKind c.kind × (Refused p m c → ⊥) → answer_number (registered p m c).answer ≡ 0
      back (Ok tt) e w = ap answer_number e
      back (Err UnknownKind) e w = absurd (unknown_exactly.0 e w.0)
      back (Err MapFull) e w = absurd (w.1 ((full_exactly room).0 e))

  -- a refused registration leaves the map as it was
  pub refused_keeps : (answer_number (registered p m c).answer ≡ 0 → ⊥) → (registered p m c).map ≡ m
  refused_keeps f = go (registered p m c) (registered_way p m c) (λ e. f (ap answer_number e))
    where
      go : (r : Registered) → Way p m c r → (r.answer ≡ Ok tt → ⊥) → r.map ≡ m
      go r (no_kind n) = λ f. refl
      go r (no_page i n) = λ f. refl
      go r (new_page s) =
          unfold inserted in
          placed_ways m (pass m.size (begin m (rounded p c))) (λ q. (q.answer ≡ Ok tt → ⊥) → q.map ≡ m) (λ h n. refl) (λ h n. absurd (n refl))

-- ── A run of claims that all have a kind ──
-- judging tells the two apart
pub judged : (cs : List Claim) → ((all_of cs ≡ true) × Kinds cs) ⊎ ((all_of cs ≡ false) × Some Kindless cs)
unfolding all_of
judged [] = inl (refl, λ c m. elim m [ ])
judged (c ∷ cs) = go (kind_of c.kind) (reads c.kind) (judged cs)
  where
    with_first : IsKind c.kind → Kinds cs → Kinds (c ∷ cs)
    with_first i f _ (Memᴰ.head e) = rw e i
    with_first i f d (Memᴰ.tail m) = f d m

    go : (r : Option BootloaderMemoryKind) → Reads c.kind r → ((all_of cs ≡ true) × Kinds cs) ⊎ ((all_of cs ≡ false) × Some Kindless cs)
        → (((is_known r && all_of cs) ≡ true) × Kinds (c ∷ cs)) ⊎ (((is_known r && all_of cs) ≡ false) × Some Kindless (c ∷ cs))
    go r (unknown n) w = inr (refl, record { claim = c; among = Memᴰ.head refl; is = n })
    go r (known k q) w =
        ⊎_elim
        (λ y. inl (y.0, with_first (record { kind = k; number = q }) y.1))
        (λ y. inr (y.0, record { claim = y.1.claim; among = Memᴰ.tail y.1.among; is = y.1.is }))
        w

-- such a run is never refused for a kind
pub run_known : (p : ℕ) (m : MemoryMap) (cs : List Claim) → Kinds cs → (registered_all p m cs).answer ≡ Err UnknownKind → ⊥
run_known p m [] f e = done_unknown (ap (λ (r : Registered). r.answer) (sym (run_nil p m)) ∙ e)
run_known p m (c ∷ cs) f e =
    done_or (registered p m c).answer ⊥
    (λ d. run_known p (registered p m c).map cs (λ x i. f x (Memᴰ.tail i)) (rw (run_on p m c cs d) at e))
    (λ n s. (unknown_exactly p m c).0 (rw (run_stops p m c cs s) at e) (f c (Memᴰ.head refl)))

-- and is refused for want of a slot exactly when it overflows
pub run_full : (p : ℕ) (m : MemoryMap) (cs : List Claim) → Page p → Made p m → ((registered_all p m cs).answer ≡ Err MapFull) ↔ Overflows p m cs
run_full p m cs g made = (there m cs made, λ o. back m o.before o.next o.after cs made o.run o.accepted o.refused)
  where
    there : (n : MemoryMap) (ds : List Claim) → Made p n → (registered_all p n ds).answer ≡ Err MapFull → Overflows p n ds
    there n [] h e = absurd (done_full (ap (λ (r : Registered). r.answer) (sym (run_nil p n)) ∙ e))
    there n (d ∷ ds) h e =
        done_or (registered p n d).answer (Overflows p n (d ∷ ds))
        (λ q.
        let o = there (registered p n d).map ds (registered_made p n d g h) (rw (run_on p n d ds q) at e) in
        record {
          before = d ∷ o.before;
          next = o.next;
          after = o.after;
          run = ap (λ (l : List Claim). d ∷ l) o.run;
          accepted = rw (run_on p n d o.before q) o.accepted;
          refused = rw (run_on p n d o.before q) o.refused;
        })
        (λ q s. record {
          before = [];
          next = d;
          after = ds;
          run = refl;
          accepted = ap (λ (r : Registered). r.answer) (run_nil p n);
          refused = rw (run_nil p n) ((full_exactly p n d h.room).0 (rw (run_stops p n d ds s) at e));
        })

    back : (n : MemoryMap) (bs : List Claim) (d : Claim) (ds es : List Claim) → Made p n → es ≡ bs ++ (d ∷ ds)
        → (registered_all p n bs).answer ≡ Ok tt → Refused p (registered_all p n bs).map d → (registered_all p n es).answer ≡ Err MapFull
    back n [] d ds es h e a r =
        let f : (registered p n d).answer ≡ (Err MapFull) = (full_exactly p n d h.room).1 (rw (run_nil p n) at r) in
        rw (e, run_stops p n d ds (ap is_done f)) f
    back n (b ∷ bs) d ds es h e a r =
        run_accepted p n b bs _ a
        (λ q w. rw (e, run_on p n b (bs ++ (d ∷ ds)) q)
        (back (registered p n b).map bs d ds _ (registered_made p n b g h) refl w (rw (run_on p n b bs q) at r)))

-- ── The bootloader's list ──
settled_answer : (m : MemoryMap) (r : Registered) → (settled m r).answer ≡ r.answer
settled_answer m r =
    done_or r.answer ((settled m r).answer ≡ r.answer)
    (λ d. ap (λ (q : Registered). q.answer) (settled_done m r (ap is_done d)))
    (λ n s. ap (λ (q : Registered). q.answer) (settled_refused m r s))

module _ (p : ℕ) (m : MemoryMap) (l : List ℕ) where
  all_known_answer : all_known l ≡ true → (listed p m l).answer ≡ (registered_all p m (claims l)).answer
  all_known_answer e = ap (λ (q : Registered). q.answer) (listed_known p m l e) ∙ settled_answer m (registered_all p m (claims l))

  not_known_answer : all_known l ≡ false → (listed p m l).answer ≡ Err UnknownKind
  not_known_answer e = ap (λ (q : Registered). q.answer) (listed_unknown p m l e)

  pub list_unknown_exactly : ((listed p m l).answer ≡ Err UnknownKind) ↔ Some Kindless (claims l)
  list_unknown_exactly = (
    λ e. ⊎_elim (λ y. absurd (run_known p m (claims l) y.1 (sym (all_known_answer y.0) ∙ e))) (λ y. y.1) (judged (claims l)),
    λ s. ⊎_elim (λ y. absurd (s.is (y.1 s.claim s.among))) (λ y. not_known_answer y.0) (judged (claims l)),
  )

  pub list_full_exactly : Page p → Made p m → ((listed p m l).answer ≡ Err MapFull) ↔ (Kinds (claims l) × Overflows p m (claims l))
  list_full_exactly g made = (
    λ e. ⊎_elim
        (λ y. (y.1, (run_full p m (claims l) g made).0 (sym (all_known_answer y.0) ∙ e)))
        (λ y. absurd (unknown_full (sym (not_known_answer y.0) ∙ e)))
        (judged (claims l)),
    λ w. ⊎_elim
        (λ y. all_known_answer y.0 ∙ (run_full p m (claims l) g made).1 w.1)
        (λ y. absurd (y.1.is (w.0 y.1.claim y.1.among)))
        (judged (claims l)),
  )

  -- 1 of a list: some entry's kind is none of the seven
  pub list_number_1 : (answer_number (listed p m l).answer ≡ 1) ↔ Some Kindless (claims l)
  list_number_1 = given answer_names (Err UnknownKind) (λ z. omega arith) list_unknown_exactly

  -- 2 of a list: all kinds are known, and the run of its claims overflows
  pub list_number_2 : Page p → Made p m → (answer_number (listed p m l).answer ≡ 2) ↔ (Kinds (claims l) × Overflows p m (claims l))
  list_number_2 g made = given answer_names (Err MapFull) (λ z. omega arith) (list_full_exactly g made)

  -- 0 of a list: neither of them
  pub list_number_0 : Page p → Made p m → (answer_number (listed p m l).answer ≡ 0) ↔ (Kinds (claims l) × (Overflows p m (claims l) → ⊥))
  list_number_0 g made = (
    λ z. ⊎_elim
        (λ y. (y.1, λ o. let e = (list_number_2 g made).1 (y.1, o) in omega arith))
        (λ y. let e = list_number_1.1 y.1 in absurd (omega arith))
        (judged (claims l)),
    λ w. back (listed p m l).answer refl w,
  )
    where
      back : (a : Result Unit MapRefusal) → (listed p m l).answer ≡ a → Kinds (claims l) × (Overflows p m (claims l) → ⊥) → answer_number (listed p m l).answer ≡ 0
      back (Ok tt) e w = ap answer_number e
      back (Err UnknownKind) e w = let s = list_unknown_exactly.0 e in absurd (s.is (w.0 s.claim s.among))
      back (Err MapFull) e w = absurd (w.1 ((list_full_exactly g made).0 e).1)

  -- a list that is done is the run of its claims
  pub list_done : (listed p m l).answer ≡ Ok tt → listed p m l ≡ registered_all p m (claims l)
  list_done e =
      ⊎_elim
      (λ y. listed_known p m l y.0 ∙ settled_done m _ (ap is_done (sym (all_known_answer y.0) ∙ e)))
      (λ y. absurd (done_unknown (sym e ∙ not_known_answer y.0)))
      (judged (claims l))

  -- a refused one gives back the map as at its call
  pub list_refused : (answer_number (listed p m l).answer ≡ 0 → ⊥) → (listed p m l).map ≡ m
  list_refused f =
      ⊎_elim
      (λ y. done_or (registered_all p m (claims l)).answer _
      (λ d. absurd (f (ap answer_number (all_known_answer y.0 ∙ d))))
      (λ n s. ap (λ (q : Registered). q.map) (listed_known p m l y.0 ∙ settled_refused m _ s)))
      (λ y. ap (λ (q : Registered). q.map) (listed_unknown p m l y.0))
      (judged (claims l))
