-- The test of an order file says whether it keeps the layout, and it is refused exactly when it does not; and in one that does, the list
-- and the tree are parts of its bytes. Assumes nothing.
use Rattle.order.specs.declared.OrderFault.TheVariants.{BadOrder}
use Rattle.order.specs.declared.OrderFault.{OrderFault}
use Rattle.order.specs.declared.Order.{Order}
use Rattle.std.specs.Prelude.{Result, Ok, Err}
use mathlib.Core.Path.{◌≡◌, refl, sym, ap}
use mathlib.Core.Logic.{◌↔◌, ◌⊎◌, inl, inr}
use Prim.Native.Nat.{ℕ, ◌+◌, ◌*◌, ◌≤◌, ◌<◌}
use native.Mathlib.Omega.{arith}
use mathlib.Core.List.{List}
use mathlib.Core.Bool.{Bool, true, false, ◌&&◌, ◌||◌}
use lib.ListN.{length, get_or}
use lib.Dec.{leb, eqb, ltb}
use borrow.Author.Tests.{eq-eqb, le-leb, lt-ltb, leb-true, eqb-true, ltb-true}
use Rattle.numbers.specs.Number.{Names}
use Rattle.numbers.proofs.Given.{given}
use Rattle.words.specs.Bytes.{part_of}
use Rattle.words.specs.Little.{half, quarter, eight}
use Rattle.words.proofs.BytesLaws.{never, part_length}
use Rattle.order.specs.Layout.{flags, low_flag, high_flag, list_count, tree_length, GoodOrder, good_order, order_in, order_number, order_of}

-- 9 names its case
order_names : Names order_number
order_names = record { back = λ n. (Err BadOrder); named = each }
  where
    each : (o : Result Order OrderFault) → (order_number o ≡ 0) ⊎ ((Err BadOrder) ≡ o)
    each (Ok o) = inl refl
    each (Err BadOrder) = inr refl

both : (x y : Bool) → (x && y) ≡ true → (x ≡ true) × (y ≡ true)
both true y h = (refl, h)
both false y h = never (cc)

-- a limit that is flagged, or else 0
to_limit : (f : Bool) (x : ℕ) → (f || eqb x 0) ≡ true → f ≡ false → x ≡ 0
to_limit true x h e = never (cc)
to_limit false x h e = eqb-true _ _ h

from_limit : (f : Bool) (x : ℕ) → (f ≡ false → x ≡ 0) → (f || eqb x 0) ≡ true
from_limit true x h = refl
from_limit false x h = eq-eqb _ _ (h refl)

module _ (s : List ℕ) where
  to_good : good_order s ≡ true → GoodOrder s
  unfolding good_order
  to_good h =
      let a = both (leb (length s) 65536) _ h in
      let b = both (leb 112 (length s)) _ a.1 in
      let c = both (eqb (get_or s 0 0) 71) _ b.1 in
      let d = both (eqb (get_or s 1 0) 66) _ c.1 in
      let e = both (eqb (get_or s 2 0) 79) _ d.1 in
      let f = both (eqb (half s 3) 1) _ e.1 in
      let g = both (ltb (flags s) 8) _ f.1 in
      let i = both (low_flag s || eqb (eight s 8) 0) _ g.1 in
      let j = both (high_flag s || eqb (eight s 16) 0) _ i.1 in
      let k = both (eqb (quarter s 108) 0) _ j.1 in
      record {
        most = leb-true _ _ a.0;
        least = leb-true _ _ b.0;
        g = eqb-true _ _ c.0;
        b = eqb-true _ _ d.0;
        o = eqb-true _ _ e.0;
        version = eqb-true _ _ f.0;
        flagged = ltb-true _ _ g.0;
        low = to_limit _ _ i.0;
        high = to_limit _ _ j.0;
        zeros = eqb-true _ _ k.0;
        whole = eqb-true _ _ k.1;
      }

  -- where all else is good, the length decides
  length_decides : length s ≤ 65536 → 112 ≤ length s → get_or s 0 0 ≡ 71 → get_or s 1 0 ≡ 66 → get_or s 2 0 ≡ 79 → half s 3 ≡ 1 → flags s < 8
      → (low_flag s || eqb (eight s 8) 0) ≡ true → (high_flag s || eqb (eight s 16) 0) ≡ true → quarter s 108 ≡ 0
      → eqb (length s) (112 + list_count s * 24 + tree_length s) ≡ good_order s
  unfolding good_order
  length_decides a b c d e f g h i j =
      rw (le-leb _ _ a, le-leb _ _ b, eq-eqb _ _ c, eq-eqb _ _ d, eq-eqb _ _ e, eq-eqb _ _ f, lt-ltb _ _ g, h, i, eq-eqb _ _ j)

  from_good : GoodOrder s → good_order s ≡ true
  from_good g =
      rw (← length_decides g.most g.least g.g g.b g.o g.version g.flagged (from_limit _ _ g.low) (from_limit _ _ g.high) g.zeros)
      (eq-eqb _ _ g.whole)

  -- THE TEST
  pub good_order_lem : (good_order s ≡ true) ↔ GoodOrder s
  good_order_lem = (to_good, from_good)

  bad_order : (GoodOrder s → ⊥) → false ≡ good_order s
  bad_order n = go (good_order s) refl
    where
      go : (t : Bool) → good_order s ≡ t → false ≡ good_order s
      go true h = absurd (n (to_good h))
      go false h = sym h

  -- ── The answer ──
  pub order_bad : good_order s ≡ false → order_of s ≡ Err BadOrder
  unfolding order_of
  order_bad e = rw e

  pub order_good : good_order s ≡ true → order_of s ≡ Ok (order_in s)
  unfolding order_of
  order_good e = rw e

  bad_case : (order_of s ≡ Err BadOrder) ↔ (GoodOrder s → ⊥)
  bad_case = (to_bad, λ n. order_bad (sym (bad_order n)))
    where
      to_bad : order_of s ≡ Err BadOrder → GoodOrder s → ⊥
      to_bad h g =
          let e = order_good (from_good g) in
          let z : ◌≡◌ {A = ℕ} 0 1 = cc in
          omega arith

  -- 9: "order file breaks its layout, or is longer than 65,536"
  pub number_9 : (order_number (order_of s) ≡ 9) ↔ (GoodOrder s → ⊥)
  number_9 = given order_names (Err BadOrder) (λ z. omega arith) bad_case

  -- "0 is done"
  pub number_0 : (order_number (order_of s) ≡ 0) ↔ GoodOrder s
  number_0 = (λ z. to (good_order s) refl z, λ g. ap order_number (order_good (from_good g)))
    where
      to : (t : Bool) → good_order s ≡ t → order_number (order_of s) ≡ 0 → GoodOrder s
      to true e z = good_order_lem.0 e
      to false e z = let w = ap order_number (order_bad e) in absurd (omega arith)

  -- THE LIST AND THE TREE LIE INSIDE
  pub order_parts : GoodOrder s → (length (part_of s 112 (list_count s * 24)) ≡ list_count s * 24) × (length (part_of s (112 + list_count s * 24) (tree_length s)) ≡ tree_length s)
  order_parts g = (part_length s _ _ (omega arith), part_length s _ _ (omega arith))
