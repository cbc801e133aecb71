-- The first area that ends past the range's start, where something is to be taken away: what stands before it, and that all of that stays.
-- Assumes nothing.
use mathlib.Core.Path.{◌≡◌, refl, ap, sym, ◌∙◌}
use mathlib.Core.List.{List, [], ◌∷◌, ◌++◌}
use mathlib.Core.Bool.{Bool, true, false, ◌&&◌}
use Prim.Native.Nat.{ℕ, ◌+◌, ◌-◌, ◌≤◌, ◌<◌}
use native.Mathlib.Omega.{arith}
use native.Mathlib.Nat.{zero-add}
use lib.Dec.{leb, ltb}
use lib.ListN.{length, get_or, take, drop, length-drop, take-append-drop}
use lib.Seq.{length-take-le}
use borrow.Author.Tests.{lt-ltb, le-ltb, le-leb, lt-leb}
use Rattle.areas.specs.declared.Interval.{Interval}
use Rattle.areas.specs.Table.{flat, slots_in}
use Rattle.lent_table.specs.Table.{table_in}
use Rattle.lent_table.specs.Edit.{lead, cut_here, cut_from, takes}
use Rattle.lent_table.specs.Steps.{Past, Upward}
use Rattle.lent_table.proofs.TableLaws.{table_length, table_flat, table_upward, upward_drop, flat_append, from_slot}
use Rattle.lent_table.proofs.SlotLaws.{base_is, size_is}
use Rattle.lent_table.proofs.CutLaws.{cut_at}

-- there is something to take away, and there are slots to take it from
pub record Takes (c : Interval) (n : ℕ) (l : List ℕ) : Type 0 where
  pub some : c.lo < c.hi
  pub room : n ≤ slots_in l

module _ (c : Interval) (n : ℕ) (l : List ℕ) where
  pub takes_is : Takes c n l → takes c n l ≡ true
  unfolding takes
  takes_is t = rw (lt-ltb c.lo c.hi t.some, le-leb n (slots_in l) t.room)

  -- the range is empty
  pub takes_nothing : c.hi ≤ c.lo → takes c n l ≡ false
  unfolding takes
  takes_nothing h = rw (le-ltb c.lo c.hi h)

  -- the slots are not there
  pub takes_none : slots_in l < n → takes c n l ≡ false
  unfolding takes
  takes_none h = go (ltb c.lo c.hi)
    where
      go : (t : Bool) → (t && leb n (slots_in l)) ≡ false
      go true = lt-leb n (slots_in l) h
      go false = refl

-- what is found where the areas before slot i end at lo or below
pub record Found (c : Interval) (l : List ℕ) (n i : ℕ) : Type 0 where
  pub pre : List Interval
  pub rest : List Interval
  pub whole : table_in n l ≡ pre ++ rest
  pub count : length pre ≡ i
  pub fill : i + length rest ≡ n
  pub numbers : l ≡ flat pre ++ (flat rest ++ drop (n + n) l)
  pub upward : Upward rest
  pub left : cut_from c (table_in n l) ≡ pre ++ cut_here c rest

pub found : {c : Interval} {l : List ℕ} {n i : ℕ} → Takes c n l → Past l 0 n c.lo i → Found c l n i
found {c} {l} {n} {i} takes past =
    let xs = table_in n l in
    let room : n + n ≤ length l = omega (arith, takes.room) in
    let size : length xs ≡ n = table_length n l room in
    let parts : xs ≡ take i xs ++ drop i xs = sym (take-append-drop i xs) in
    record {
      pre = take i xs;
      rest = drop i xs;
      whole = parts;
      count = length-take-le i xs (omega (arith, past.high));
      fill = omega (arith, length-drop i xs, past.high);
      numbers = table_flat n l room ∙ ap (λ (m : List Interval). flat m ++ drop (n + n) l) parts ∙ flat_append (take i xs) (drop i xs) (drop (n + n) l);
      upward = upward_drop i xs (table_upward n l);
      left = cut_at c xs i (past.count ∙ zero_lead);
    }
  where
    zero_lead : 0 + lead c.lo (from_slot l n 0) ≡ lead c.lo (table_in n l)
    zero_lead = let z : n - 0 ≡ n = omega arith in zero-add (lead c.lo (from_slot l n 0)) ∙ ap (λ (k : ℕ). lead c.lo (table_in k l)) z

-- the same with a slot at i
pub record First (c : Interval) (l : List ℕ) (n i : ℕ) : Type 0 where
  pub pre : List Interval
  pub r : Interval
  pub more : List Interval
  pub whole : table_in n l ≡ pre ++ (r ∷ more)
  pub count : length pre ≡ i
  pub fill : i + 1 + length more ≡ n
  pub numbers : l ≡ flat pre ++ (flat (r ∷ more) ++ drop (n + n) l)
  pub order : r.lo ≤ r.hi
  pub upward : Upward more
  pub left : cut_from c (table_in n l) ≡ pre ++ cut_here c (r ∷ more)
  pub base : get_or l (i + i) 0 ≡ r.lo
  pub size : get_or l (i + i + 1) 0 ≡ r.hi - r.lo

pub first : {c : Interval} {l : List ℕ} {n i : ℕ} → Takes c n l → Past l 0 n c.lo i → i < n → First c l n i
first {c} {l} {n} {i} takes past lt = let f = found takes past in go f.rest f.pre f.whole f.count f.fill f.numbers f.upward f.left
  where
    go : (rest pre : List Interval) → table_in n l ≡ pre ++ rest → length pre ≡ i → i + length rest ≡ n → l ≡ flat pre ++ (flat rest ++ drop (n + n) l) → Upward rest
        → cut_from c (table_in n l) ≡ pre ++ cut_here c rest → First c l n i
    go [] pre whole count fill numbers upward left = absurd (omega arith)
    go (r ∷ more) pre whole count fill numbers upward left =
        record {
          pre = pre;
          r = r;
          more = more;
          whole = whole;
          count = count;
          fill = omega arith;
          numbers = numbers;
          order = upward.0;
          upward = upward.1;
          left = left;
          base = base_is l i pre r more (drop (n + n) l) count numbers;
          size = size_is l i pre r more (drop (n + n) l) count numbers;
        }
