-- `insert_area`, `clear` and `slide`: what a copy and zeros come to in the lent slots, where it is known what stands before and behind them.
-- Assumes nothing.
use mathlib.Core.Path.{◌≡◌, refl, ap, ap₂, sym, ◌∙◌}
use mathlib.Core.List.{List, [], ◌∷◌, ◌++◌, append_assoc}
use Prim.Native.Nat.{ℕ, ◌+◌, ◌-◌, ◌≤◌, ◌<◌}
use native.Mathlib.Omega.{arith}
use lib.ListN.{length, set, take, drop, replicate, length-append, length-replicate, length-take, length-drop}
use lib.Seq.{take_at, drop_at, drop-drop}
use borrow.Rule.Slice.PartMut.{mid_of, put_mid}
use Rattle.std.specs.List.{copy_within}
use Rattle.lent_table.specs.Steps.{Inserted, Cleared, Slid}
use Rattle.lent_table.proofs.SlotLaws.{set_slot}

-- as many as the part of the list
part_length : (l : List ℕ) (from to : ℕ) → from ≤ to → to ≤ length l → length (mid_of from (to - from) l) ≡ to - from
part_length l from to h room = omega (arith, length-take (to - from) (drop from l), length-drop from l)

-- what comes of a part that is put into a list, from where a ends on
put_part : (l a r d z : List ℕ) (i k : ℕ) → length a ≡ i → l ≡ a ++ r → drop k r ≡ d → put_mid i k l z ≡ a ++ (z ++ d)
put_part l a r d z i k la e last =
    ap (λ (x : List ℕ). put_mid i k x z) e
    ∙ ap₂ (λ (x y : List ℕ). x ++ (z ++ drop k y)) (take_at a r i la) (drop_at a r i la)
    ∙ ap (λ (x : List ℕ). a ++ (z ++ x)) last

-- ── clear ──
pub cleared : (l : List ℕ) (from to : ℕ) (z : List ℕ) → from < to → to ≤ length l → z ≡ replicate (length (mid_of from (to - from) l)) 0
    → Cleared l from to (put_mid from (to - from) l z)
unfolding Cleared
cleared l from to z h room zeros a b c la lb e =
    let n : length b ≡ to - from = omega arith in
    let m : length (mid_of from (to - from) l) ≡ length b = part_length l from to (omega arith) room ∙ sym n in
    put_part l a (b ++ c) c z from (to - from) la e (drop_at b c (to - from) n) ∙ ap (λ (x : List ℕ). a ++ (x ++ c)) (zeros ∙ ap (λ (k : ℕ). replicate k 0) m)

pub cleared_none : (l : List ℕ) (from to : ℕ) → to ≤ from → Cleared l from to l
unfolding Cleared
cleared_none l from to h a [] c la lb e = e
cleared_none l from to h a (x ∷ b) c la lb e = absurd (omega arith)

-- ── insert_area ──
module _ (l m : List ℕ) (at n : ℕ) (copied : m ≡ copy_within l (at + at) (n + n) (at + at + 2)) where
  -- p and q are the two numbers in slot `at`, which stay there till they are written over
  moved : (a c d : List ℕ) (y z p q : ℕ) (w : List ℕ) → length a ≡ at + at → at + at + length c ≡ n + n → l ≡ a ++ (c ++ (y ∷ z ∷ d))
      → c ++ (y ∷ z ∷ d) ≡ p ∷ q ∷ w → m ≡ a ++ (p ∷ q ∷ (c ++ d))
  moved a c d y z p q w la lc e f =
      let i = at + at in
      let k = n + n - i in
      let two : List ℕ = p ∷ q ∷ [] in
      let ends : List ℕ = y ∷ z ∷ [] in
      let front : l ≡ (a ++ two) ++ w = e ∙ ap (λ (x : List ℕ). a ++ x) f ∙ sym (append_assoc a two w) in
      let whole : l ≡ (a ++ (c ++ ends)) ++ d =
      e ∙ ap (λ (x : List ℕ). a ++ x) (sym (append_assoc c ends d)) ∙ sym (append_assoc a (c ++ ends) d) in
      let first : take (i + 2) l ≡ a ++ two = ap (λ (x : List ℕ). take (i + 2) x) front ∙ take_at (a ++ two) w (i + 2) (omega (arith, length-append a two)) in
      let middle : take k (drop i l) ≡ c =
      ap (λ (x : List ℕ). take k x) (ap (λ (x : List ℕ). drop i x) e ∙ drop_at a (c ++ (y ∷ z ∷ d)) i la) ∙ take_at c (y ∷ z ∷ d) k (omega arith) in
      let last : drop (i + 2 + k) l ≡ d =
      ap (λ (x : List ℕ). drop (i + 2 + k) x) whole
      ∙ drop_at (a ++ (c ++ ends)) d (i + 2 + k) (omega (arith, length-append a (c ++ ends), length-append c ends)) in
      copied
      ∙ ap₂ (λ (x y : List ℕ). x ++ y) (ap₂ (λ (x y : List ℕ). x ++ y) first middle) last
      ∙ append_assoc (a ++ two) c d ∙ append_assoc a two (c ++ d)

  pub inserted : (base size : ℕ) → Inserted l at n base size (set (set m (at + at) base) (at + at + 1) size)
  unfolding Inserted
  inserted base size a [] d y z la lc e = set_slot m at a y z d la (moved a [] d y z y z d la lc e refl) base size
  inserted base size a (u ∷ []) d y z la lc e = absurd (omega arith)
  inserted base size a (u ∷ v ∷ c) d y z la lc e =
      set_slot m at a u v ((u ∷ v ∷ c) ++ d) la (moved a (u ∷ v ∷ c) d y z u v (c ++ (y ∷ z ∷ d)) la lc e refl) base size

-- ── slide ──
pub slid : (l m : List ℕ) (to from end : ℕ) (z : List ℕ) → to ≤ from → from < end → end ≤ length l → length m ≡ length l
    → m ≡ copy_within l from end to → z ≡ replicate (length (mid_of (end - (from - to)) (end - (end - (from - to))) m)) 0
    → Slid l to from end (put_mid (end - (from - to)) (end - (end - (from - to))) m z)
unfolding Slid
slid l m to from end z down some room same copied zeros a c d g la lg lc e =
    let s = end - (from - to) in
    let k = end - s in
    let gap : k ≡ g = omega arith in
    let front : length (a ++ replicate g 0) ≡ from = omega (arith, length-append a (replicate g 0), length-replicate {A = ℕ} g 0) in
    let whole : l ≡ (a ++ replicate g 0) ++ (c ++ d) = e ∙ sym (append_assoc a (replicate g 0) (c ++ d)) in
    let first : take to l ≡ a = ap (λ (x : List ℕ). take to x) e ∙ take_at a (replicate g 0 ++ (c ++ d)) to la in
    let behind : drop from l ≡ c ++ d = ap (λ (x : List ℕ). drop from x) whole ∙ drop_at (a ++ replicate g 0) (c ++ d) from front in
    let middle : take (end - from) (drop from l) ≡ c = ap (λ (x : List ℕ). take (end - from) x) behind ∙ take_at c d (end - from) (omega arith) in
    let rest = drop (to + (end - from)) l in
    let put : m ≡ (a ++ c) ++ rest = copied ∙ ap₂ (λ (x y : List ℕ). (x ++ y) ++ rest) first middle in
    let at : length (a ++ c) ≡ s = omega (arith, length-append a c) in
    let last : drop k rest ≡ d =
    drop-drop k (to + (end - from)) l ∙ ap (λ (j : ℕ). drop j l) (omega arith) ∙ sym (drop-drop (length c) from l)
    ∙ ap (λ (x : List ℕ). drop (length c) x) behind ∙ drop_at c d (length c) refl in
    let size : length (mid_of s k m) ≡ g = part_length m s end (omega arith) (omega arith) ∙ gap in
    let zero : z ≡ replicate g 0 = zeros ∙ ap (λ (j : ℕ). replicate j 0) size in
    let placed : put_mid s k m z ≡ (a ++ c) ++ (z ++ d) = put_part m (a ++ c) rest d z s k at put last in
    placed ∙ ap (λ (x : List ℕ). (a ++ c) ++ (x ++ d)) zero ∙ append_assoc a c (replicate g 0 ++ d)

pub slid_none : (l : List ℕ) (to from end : ℕ) → end ≤ from → Slid l to from end l
unfolding Slid
slid_none l to from end h a [] d g la lg lc e = e
slid_none l to from end h a (x ∷ c) d g la lg lc e = absurd (omega arith)
