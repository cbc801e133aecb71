-- What holds where a call is done, and what a call that is done asks of the buffer. Assumes nothing.
use mathlib.Core.Path.{◌≡◌, refl, sym, ◌∙◌}
use Prim.Native.Nat.{ℕ, ◌+◌, ◌*◌, ◌≤◌, ◌<◌}
use native.Mathlib.Omega.{arith}
use mathlib.Core.Bool.{Bool, true, false, cond, not, ◌&&◌}
use mathlib.Core.List.{List}
use lib.ListN.{length}
use lib.Dec.{leb, ltb, eqb}
use mathlib.Core.Logic.{◌⊎◌, inl, inr}
use borrow.Author.Tests.{leb-true, leb-false, ltb-false, eqb-true, eqb-false, eq-eqb, ne_eqb, not-true}
use Rattle.std.specs.Prelude.{Result, Ok, Err}
use Rattle.words.specs.Bytes.{string_end}
use Rattle.words.proofs.BytesLaws.{never}
use Rattle.flattened.specs.Parts.{Part, begins, property, ends, part_size, name_size}
use Rattle.writer.specs.declared.Writer.{Writer}
use Rattle.writer.specs.declared.WriteRefusal.{WriteRefusal}
use Rattle.writer.specs.declared.WriteRefusal.TheVariants.{OutOfTurn, OverLimit, NoRoom}
use Rattle.writer.specs.Writer.{Call, reserve, write, finish, write_number, final_size, room_answer, judged, in_turn, in_limits, after, answer_of}
use Rattle.writer.specs.Calls.{part_at}

-- no refusal has the number 0
pub done_is : (a : Result Unit WriteRefusal) → write_number a ≡ 0 → a ≡ Ok tt
done_is (Ok _) h = refl
done_is (Err OutOfTurn) h = absurd (omega arith)
done_is (Err OverLimit) h = absurd (omega arith)
done_is (Err NoRoom) h = absurd (omega arith)

pub record Passed (turn within : Bool) (size room : ℕ) : Type 0 where
  pub turned : turn ≡ true
  pub limits : within ≡ true
  pub small : size ≤ 1048576
  pub fits : size ≤ room

room_passed : (size room : ℕ) → room_answer size room ≡ Ok tt → (size ≤ 1048576) × (size ≤ room)
unfolding room_answer
room_passed size room h = go (leb size 1048576) refl (leb size room) refl h
  where
    go : (a : Bool) → leb size 1048576 ≡ a → (b : Bool) → leb size room ≡ b → ◌≡◌ {A = Result Unit WriteRefusal} (cond a (cond b (Ok tt) (Err NoRoom)) (Err OverLimit)) (Ok tt) → (size ≤ 1048576) × (size ≤ room)
    go true p true q h = (leb-true _ _ p, leb-true _ _ q)
    go true p false q h = never (cc)
    go false p b q h = never (cc)

passed : (turn within : Bool) (size room : ℕ) → judged turn within size room ≡ Ok tt → Passed turn within size room
passed true true size room h = let r = room_passed size room h in record { turned = refl; limits = refl; small = r.0; fits = r.1 }
passed true false size room h = never (cc)
passed false within size room h = never (cc)

-- a call that is done was in turn, within the limits, and its blob fits
pub call_passed : (w : Writer) (c : Call) (room : ℕ) → answer_of w c room ≡ Ok tt → Passed (in_turn w c) (in_limits w c) (final_size (after w c)) room
unfolding answer_of
call_passed w c room h = passed (in_turn w c) (in_limits w c) (final_size (after w c)) room h

pub part_space : (w : Writer) (x : Part) → part_at w + part_size x + 4 + (w.strings + name_size x) ≤ final_size (after w (write x))
unfolding final_size after part_size name_size
part_space w (begins name) = omega arith
part_space w (property name value) = omega arith
part_space w ends = omega arith

both : (x y : Bool) → (x && y) ≡ true → (x ≡ true) × (y ≡ true)
both true y h = (refl, h)
both false y h = never (cc)

pub begin_limits : (w : Writer) (name : List ℕ) → in_limits w (write (begins name)) ≡ true → (w.depth < 32) × (w.nodes < 4096)
unfolding in_limits
begin_limits w name h =
    let b = both (not (leb 32 w.depth)) _ h in
    (leb-false _ _ (not-true _ b.0), leb-false _ _ (not-true _ b.1))

-- ── What a call that is done asks of the buffer ──

pub record Room (w : Writer) (x : Part) (room : ℕ) : Type 0 where
  pub fits : part_at w + part_size x + 4 + (w.strings + name_size x) ≤ room
  pub small : part_at w + part_size x + 4 + (w.strings + name_size x) ≤ 1048576

pub record Entered (w : Writer) (room : ℕ) : Type 0 where
  pub fits : 40 + 16 * w.reserved + 16 ≤ room
  pub small : 40 + 16 * w.reserved + 16 ≤ 1048576

pub record Ended (w : Writer) (room : ℕ) : Type 0 where
  pub fits : part_at w + 4 + w.strings ≤ room
  pub small : part_at w + 4 + w.strings ≤ 1048576

entry_space : (w : Writer) (address size : ℕ) → 40 + 16 * w.reserved + 16 ≤ final_size (after w (reserve address size))
unfolding final_size after
entry_space w address size = omega arith

end_space : (w : Writer) → part_at w + 4 + w.strings ≤ final_size (after w finish)
unfolding final_size after
end_space w = omega arith

module _ (w : Writer) (room : ℕ) {a : Result Unit WriteRefusal} (done : a ≡ Ok tt) where
  pub part_room : (x : Part) → a ≡ answer_of w (write x) room → Room w x room
  part_room x is =
      let p = call_passed w (write x) room (sym is ∙ done) in
      let s = part_space w x in
      record { fits = omega arith; small = omega arith }

  pub begin_few : (name : List ℕ) → a ≡ answer_of w (write (begins name)) room → (w.depth < 32) × (w.nodes < 4096)
  begin_few name is = begin_limits w name (call_passed w (write (begins name)) room (sym is ∙ done)).limits

  pub entry_room : (address size : ℕ) → a ≡ answer_of w (reserve address size) room → Entered w room
  entry_room address size is =
      let p = call_passed w (reserve address size) room (sym is ∙ done) in
      let s = entry_space w address size in
      record { fits = omega arith; small = omega arith }

  pub finish_room : a ≡ answer_of w finish room → Ended w room
  finish_room is =
      let p = call_passed w finish room (sym is ∙ done) in
      let s = end_space w in
      record { fits = omega arith; small = omega arith }

-- ── Whose turn it was ──
pub record BeginTurn (w : Writer) (name : List ℕ) : Type 0 where
  pub going : w.done ≡ false
  pub clean : length name ≤ string_end name 0
  pub which : ((w.nodes ≡ 0) × (w.depth ≡ 0) × (length name ≡ 0)) ⊎ ((w.nodes ≡ 0 → ⊥) × (w.depth ≡ 0 → ⊥))

pub begin_turn : (w : Writer) (name : List ℕ) → in_turn w (write (begins name)) ≡ true → BeginTurn w name
unfolding in_turn
begin_turn w name h =
    let a = both (not w.done) _ h in
    let b = both (not (ltb (string_end name 0) (length name))) _ a.1 in
    record { going = not-true _ a.0; clean = ltb-false _ _ (not-true _ b.0); which = go (eqb w.nodes 0) refl b.1 }
  where
    go : (t : Bool) → eqb w.nodes 0 ≡ t → cond t (eqb w.depth 0 && eqb (length name) 0) (not (eqb w.depth 0)) ≡ true
        → ((w.nodes ≡ 0) × (w.depth ≡ 0) × (length name ≡ 0)) ⊎ ((w.nodes ≡ 0 → ⊥) × (w.depth ≡ 0 → ⊥))
    go true e k = let c = both (eqb w.depth 0) _ k in inl (eqb-true _ _ e, eqb-true _ _ c.0, eqb-true _ _ c.1)
    go false e k = inr (eqb-false _ _ e, eqb-false _ _ (not-true _ k))

pub record PropertyTurn (w : Writer) (name : List ℕ) : Type 0 where
  pub going : w.done ≡ false
  pub turn : w.props ≡ true
  pub clean : length name ≤ string_end name 0

pub property_turn : (w : Writer) (name value : List ℕ) → in_turn w (write (property name value)) ≡ true → PropertyTurn w name
unfolding in_turn
property_turn w name value h =
    let a = both (not w.done) _ h in
    let b = both w.props _ a.1 in
    record { going = not-true _ a.0; turn = b.0; clean = ltb-false _ _ (not-true _ b.1) }

pub record EndTurn (w : Writer) : Type 0 where
  pub going : w.done ≡ false
  pub rooted : w.nodes ≡ 0 → ⊥
  pub inside : w.depth ≡ 0 → ⊥

pub end_turn : (w : Writer) → in_turn w (write ends) ≡ true → EndTurn w
unfolding in_turn
end_turn w h =
    let a = both (not w.done) _ h in
    let b = both (not (eqb w.nodes 0)) _ a.1 in
    record { going = not-true _ a.0; rooted = eqb-false _ _ (not-true _ b.0); inside = eqb-false _ _ (not-true _ b.1) }

pub record ReserveTurn (w : Writer) (address size : ℕ) : Type 0 where
  pub going : w.done ≡ false
  pub bare : w.nodes ≡ 0
  pub some : address ≡ 0 → size ≡ 0 → ⊥

pub reserve_turn : (w : Writer) (address size : ℕ) → in_turn w (reserve address size) ≡ true → ReserveTurn w address size
unfolding in_turn
reserve_turn w address size h =
    let a = both (not w.done) _ h in
    let b = both (eqb w.nodes 0) _ a.1 in
    record { going = not-true _ a.0; bare = eqb-true _ _ b.0; some = some_of b.1 }
  where
    some_of : not (eqb address 0 && eqb size 0) ≡ true → address ≡ 0 → size ≡ 0 → ⊥
    some_of k p q = let n : (eqb address 0 && eqb size 0) ≡ false = not-true (eqb address 0 && eqb size 0) k in let m : (eqb address 0 && eqb size 0) ≡ true = rw (eq-eqb _ _ p, eq-eqb _ _ q) in never (cc)

pub record FinishTurn (w : Writer) : Type 0 where
  pub going : w.done ≡ false
  pub rooted : w.nodes ≡ 0 → ⊥
  pub outside : w.depth ≡ 0

pub finish_turn : (w : Writer) → in_turn w finish ≡ true → FinishTurn w
unfolding in_turn
finish_turn w h =
    let a = both (not w.done) _ h in
    let b = both (not (eqb w.nodes 0)) _ a.1 in
    record { going = not-true _ a.0; rooted = eqb-false _ _ (not-true _ b.0); outside = eqb-true _ _ b.1 }

-- ── The same from what the code has at hand ──
module _ (w : Writer) (room : ℕ) {a : Result Unit WriteRefusal} (done : a ≡ Ok tt) where
  pub end_inside : a ≡ answer_of w (write ends) room → w.depth ≡ 0 → ⊥
  end_inside is = (end_turn w (call_passed w (write ends) room (sym is ∙ done)).turned).inside

  -- at the end no node is open, and one has begun: the blob is as long as what stands
  pub finish_size : a ≡ answer_of w finish room → part_at w + 4 + w.strings ≡ final_size w
  unfolding final_size
  finish_size is =
      let t = finish_turn w (call_passed w finish room (sym is ∙ done)).turned in
      let d = t.outside in
      rw (ne_eqb _ _ t.rooted) (omega arith)
