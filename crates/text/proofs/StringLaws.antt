-- Laws on strings: the string that a lookup points to is the string in the value that stands there; and one string is in another exactly
-- if it stands at some place of it, which is asked a place at a time. Assumes nothing.
use mathlib.Core.Path.{◌≡◌, refl, sym, ◌∙◌, ap}
use Prim.Native.Nat.{ℕ, ◌+◌, ◌-◌, ◌≤◌, ◌<◌}
use native.Mathlib.Omega.{arith}
use mathlib.Core.Bool.{Bool, true, false, cond, ◌||◌}
use mathlib.Core.List.{List, [], ◌∷◌, ◌++◌}
use mathlib.Core.Logic.{◌↔◌}
use lib.ListN.{length, take, drop, length-drop}
use lib.Seq.{take-take, drop-drop}
use lib.Dec.{eqb, leb}
use borrow.Author.Tests.{leb-true, leb-false, eqb-true, eq-eqb}
use Rattle.std.specs.Prelude.{Option, Some, None}
use Rattle.words.specs.Bytes.{part_of}
use Rattle.words.proofs.BytesLaws.{cond_elim, never, part_is, part_none, part_length}
use Rattle.cells.specs.Text.{text_of}
use Rattle.cells.proofs.TextLaws.{text_ends}
use Rattle.fdt.specs.declared.Block.{Block}
use Rattle.nodes.specs.Nav.{same_bytes, prop_at}
use Rattle.reading.specs.Values.{held}
use Rattle.text.specs.Strings.{up_to, string_in, ends_by, string_by, string_at, starts_with, contains}

-- ── The string of a property ──
-- a part cut short is the shorter part
part_front : (s : List ℕ) (at n e : ℕ) → e < length (part_of s at n) → part_of s at e ≡ take e (part_of s at n)
part_front s at n e h = go (leb (at + n) (length s)) refl
  where
    go : (t : Bool) → leb (at + n) (length s) ≡ t → part_of s at e ≡ take e (part_of s at n)
    go true q =
        let f : at + n ≤ length s = leb-true _ _ q in
        let l = part_length s at n f in
        let m : e ≤ n = omega arith in
        part_is s at e (omega arith) ∙ sym (ap (take e) (part_is s at n f) ∙ take-take e n (drop at s) m)
    go false q =
        let l = ap length (part_none s at n (leb-false _ _ q)) in
        let z : ⊥ = omega arith in
        absurd z

-- THE THEOREM: the bytes up to the end that is found are the string in the value
pub string_held : (b n : List ℕ) (q : ℕ) (name : List ℕ) → held b (string_at b n q name) ≡ string_in (held b (prop_at b n q name))
unfolding string_at string_in
string_held b n q name = go (prop_at b n q name)
  where
    ends : (at len : ℕ) (t : Option ℕ) → text_of (part_of b at len) ≡ t → held b (ends_by at t) ≡ up_to (part_of b at len) t
    ends at len (Some e) q = ap Some (part_front b at len e ((text_ends (part_of b at len) e).0 q).0)
    ends at len None q = refl

    go : (v : Option Block) → held b (string_by b v) ≡ string_in (held b v)
    go (Some v) = ends v.at v.len (text_of (part_of b v.at v.len)) refl
    go None = refl

-- ── One string in another ──
starts_take : (v w : List ℕ) → starts_with v w ≡ same_bytes (take (length w) v) w
unfolding starts_with same_bytes
starts_take v [] = refl
starts_take [] (y ∷ w) = refl
starts_take (x ∷ v) (y ∷ w) = rw (starts_take v w)

starts_short : (v w : List ℕ) → length v < length w → starts_with v w ≡ false
unfolding starts_with
starts_short v [] h = let z : ⊥ = omega arith in absurd z
starts_short [] (y ∷ w) h = refl
starts_short (x ∷ v) (y ∷ w) h =
    let i = starts_short v w (omega arith) in
    cond_elim (λ (b : Bool). b ≡ false) (eqb x y) _ _ (λ e. i) (λ e. refl)

-- nothing stands everywhere
starts_other : (v w : List ℕ) → starts_with v w ≡ false → 0 < length w
unfolding starts_with
starts_other v [] h = never (cc)
starts_other v (y ∷ w) h = omega arith

-- the part past the end is no w, unless w is nothing
starts_past : (v w : List ℕ) → (0 < length w → length v < length w) → starts_with v w ≡ same_bytes [] w
unfolding starts_with same_bytes
starts_past v [] h = refl
starts_past v (y ∷ w) h = starts_short v (y ∷ w) (h (omega arith))

-- w stands at place i of v exactly if the part of v there is w
pub starts_part : (v w : List ℕ) (i : ℕ) → starts_with (drop i v) w ≡ same_bytes (part_of v i (length w)) w
starts_part v w i = go (leb (i + length w) (length v)) refl
  where
    go : (t : Bool) → leb (i + length w) (length v) ≡ t → starts_with (drop i v) w ≡ same_bytes (part_of v i (length w)) w
    go true q = rw (part_is v i (length w) (leb-true _ _ q)) (starts_take (drop i v) w)
    go false q =
        let f : length v < i + length w = leb-false _ _ q in
        rw (part_none v i (length w) f) (starts_past (drop i v) w (λ g. omega (arith, length-drop i v)))

pub contains_short : (v w : List ℕ) → length v < length w → contains v w ≡ false
unfolding contains
contains_short [] w h = starts_short [] w h
contains_short (x ∷ v) w h = rw (starts_short (x ∷ v) w h) (contains_short v w (omega arith))

contains_here : (v w : List ℕ) → starts_with v w ≡ true → contains v w ≡ true
unfolding contains
contains_here [] w h = h
contains_here (x ∷ v) w h = rw h

contains_on : (v w : List ℕ) → starts_with v w ≡ false → contains v w ≡ contains (drop 1 v) w
unfolding contains
contains_on [] w h = refl
contains_on (x ∷ v) w h = rw h

-- w is in v exactly if it is from place i on; and past the first place there is something to look for
pub record Sought (v w : List ℕ) (i : ℕ) : Type 0 where
  pub something : 0 < i → 0 < length w
  pub same : contains v w ≡ contains (drop i v) w

pub sought_all : (v w : List ℕ) → Sought v w 0
sought_all v w = record { something = λ h. (let z : ⊥ = omega arith in absurd z); same = refl }

module _ (v w : List ℕ) (i : ℕ) (l : Sought v w i) where
  -- t says whether w stands at place i
  module _ (p : List ℕ) (t : Bool) (ep : p ≡ part_of v i (length w)) (et : t ≡ same_bytes p w) where
    stands : starts_with (drop i v) w ≡ t
    stands = starts_part v w i ∙ sym (et ∙ ap (λ (x : List ℕ). same_bytes x w) ep)

    pub sought_here : t ≡ true → true ≡ contains v w
    sought_here h = sym (l.same ∙ contains_here (drop i v) w (stands ∙ h))

    pub sought_on : t ≡ false → Sought v w (i + 1)
    sought_on h =
        record {
          something = λ g. starts_other (drop i v) w (stands ∙ h);
          same = l.same ∙ contains_on (drop i v) w (stands ∙ h) ∙ ap (λ (x : List ℕ). contains x w) (drop-drop 1 i v);
        }

  -- past the last place there is no room for w
  pub sought_nowhere : length w ≤ length v → length v - length w < i → false ≡ contains v w
  sought_nowhere h g =
      let s = l.something (omega arith) in
      sym (l.same ∙ contains_short (drop i v) w (omega (arith, length-drop i v)))

-- ── What it is to be in a string ──
starts_rest : (v w : List ℕ) → starts_with v w ≡ true → (z : List ℕ) × (v ≡ w ++ z)
unfolding starts_with
starts_rest v [] h = (v, refl)
starts_rest [] (y ∷ w) h = never (cc)
starts_rest (x ∷ v) (y ∷ w) h = go (eqb x y) refl h (starts_rest v w)
  where
    go : (t : Bool) → eqb x y ≡ t → cond t (starts_with v w) false ≡ true
        → (starts_with v w ≡ true → (z : List ℕ) × (v ≡ w ++ z)) → (z : List ℕ) × (x ∷ v ≡ y ∷ (w ++ z))
    go true q h r =
        let e : x ≡ y = eqb-true _ _ q in
        let d = r h in
        (d.0, rw (e, d.1))
    go false q h r = never (cc)

rest_starts : (w z : List ℕ) → starts_with (w ++ z) w ≡ true
unfolding starts_with
rest_starts [] z = refl
rest_starts (y ∷ w) z = rw (eq-eqb y y refl) (rest_starts w z)

contains_split : (v w : List ℕ) → contains v w ≡ true → (a : List ℕ) × (z : List ℕ) × (v ≡ a ++ (w ++ z))
unfolding contains
contains_split [] w h = let r = starts_rest [] w h in ([], r.0, r.1)
contains_split (x ∷ v) w h = go (starts_with (x ∷ v) w) refl h (contains_split v w)
  where
    go : (t : Bool) → starts_with (x ∷ v) w ≡ t → t || contains v w ≡ true
        → (contains v w ≡ true → (a : List ℕ) × (z : List ℕ) × (v ≡ a ++ (w ++ z)))
        → (a : List ℕ) × (z : List ℕ) × (x ∷ v ≡ a ++ (w ++ z))
    go true q h r = let d = starts_rest (x ∷ v) w q in ([], d.0, d.1)
    go false q h r = let d = r h in (x ∷ d.0, d.1, ap (λ (y : List ℕ). x ∷ y) d.2)

split_contains : (a w z : List ℕ) → contains (a ++ (w ++ z)) w ≡ true
unfolding contains
split_contains [] w z = contains_here (w ++ z) w (rest_starts w z)
split_contains (x ∷ a) w z = rw (split_contains a w z) (go (starts_with (x ∷ (a ++ (w ++ z))) w))
  where
    go : (t : Bool) → t || true ≡ true
    go true = refl
    go false = refl

-- THE THEOREM: w is in v exactly if v is something, then w, then something
pub contains_exactly : (v w : List ℕ) → contains v w ≡ true ↔ ((a : List ℕ) × (z : List ℕ) × (v ≡ a ++ (w ++ z)))
contains_exactly v w = (contains_split v w, λ r. rw r.2 (split_contains r.0 w r.1))
