-- Comparing two lists of bytes; a part by its two ends; and whether a name is a step of a path. Assumes nothing.
use mathlib.Core.Path.{◌≡◌, refl, ◌∙◌}
use Prim.Native.Nat.{ℕ, ◌-◌, ◌≤◌}
use native.Mathlib.Omega.{arith}
use mathlib.Core.List.{List, [], ◌∷◌}
use mathlib.Core.Bool.{Bool, true, false, cond, ◌&&◌}
use lib.ListN.{length}
use lib.Dec.{eqb}
use lib.Pointwise.{pointwise}
use Rattle.words.specs.Bytes.{bytes, first_byte, part_of}
use Rattle.words.proofs.BytesLaws.{part_is, first_le}
use Rattle.nodes.specs.Nav.{same_bytes, matches}

-- the test of std, a byte at a time, is that of the contract
pub bytewise : (xs ys : List ℕ) → pointwise eqb xs ys ≡ same_bytes xs ys
unfolding same_bytes
bytewise [] [] = refl
bytewise [] (y ∷ ys) = refl
bytewise (x ∷ xs) [] = refl
bytewise (x ∷ xs) (y ∷ ys) = and_is (eqb x y) (bytewise xs ys)
  where
    and_is : (t : Bool) {u v : Bool} → u ≡ v → (t && u) ≡ cond t v false
    and_is true e = e
    and_is false e = refl

-- a part from a up to z
pub part_upto : (s : List ℕ) (a z : ℕ) (x : List ℕ) → x ≡ part_of s a (z - a) → a ≤ z → z ≤ length s → x ≡ bytes s a z
part_upto s a z x e h l = e ∙ part_is s a (z - a) (omega arith)

-- a name and a step
module _ (name step : List ℕ) where
  pub match_whole : same_bytes name step ≡ true → true ≡ matches name step
  unfolding matches
  match_whole h = rw h

  -- u is where the unit address begins, and p the part before it
  pub match_part : (u : ℕ) (p : List ℕ) → same_bytes name step ≡ false → u ≡ first_byte 64 name 0 → p ≡ part_of name 0 u → same_bytes p step ≡ matches name step
  unfolding matches
  match_part u p h eu ep =
      let m : u ≤ length name = rw eu (first_le 64 name 0 (omega arith)) in
      let z : u ≡ u - 0 = omega arith in
      let w = part_upto name 0 u p (rw (← z) ep) (omega arith) m in
      rw (h, ← eu, ← w)
