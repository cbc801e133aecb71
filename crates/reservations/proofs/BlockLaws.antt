-- The bounds of the reservation block, as the code tests them. Assumes nothing.
use mathlib.Core.Path.{◌≡◌, refl}
use mathlib.Core.Bool.{Bool, true, false, cond}
use mathlib.Core.List.{List, []}
use Prim.Native.Nat.{ℕ, ◌-◌, ◌+◌, ◌%◌, ◌≤◌, ◌<◌}
use lib.ListN.{length, take, drop}
use lib.Dec.{leb}
use borrow.Author.Tests.{le-leb, lt-leb, eq-eqb, ne_eqb}
use Rattle.words.specs.Bytes.{part_of}
use Rattle.fdt.specs.declared.Blocks.{Blocks}
use Rattle.reservations.specs.Reservations.{block_in}

-- no bytes
part_none : (s : List ℕ) → part_of s 0 0 ≡ []
unfolding part_of
part_none s = go (leb (0 + 0) (length s))
  where
    go : (t : Bool) → cond t (take 0 (drop 0 s)) [] ≡ []
    go true = refl
    go false = refl

module _ (s : List ℕ) (b : Blocks) where
  pub skipped_low : b.reservations < 40 → part_of s 0 0 ≡ block_in s b
  unfolding block_in
  skipped_low h = rw (part_none s, lt-leb 40 b.reservations h)

  module _ (low : 40 ≤ b.reservations) where
    pub skipped_off : (b.reservations % 8 ≡ 0 → ⊥) → part_of s 0 0 ≡ block_in s b
    unfolding block_in
    skipped_off h = rw (part_none s, le-leb 40 b.reservations low, ne_eqb (b.reservations % 8) 0 h)

    module _ (even : b.reservations % 8 ≡ 0) where
      pub skipped_high : b.structure.at < b.reservations → part_of s 0 0 ≡ block_in s b
      unfolding block_in
      skipped_high h =
          rw (part_none s, le-leb 40 b.reservations low, eq-eqb (b.reservations % 8) 0 even, lt-leb b.reservations b.structure.at h)

      pub whole : b.reservations ≤ b.structure.at → part_of s b.reservations (b.structure.at - b.reservations) ≡ block_in s b
      unfolding block_in
      whole h = rw (le-leb 40 b.reservations low, eq-eqb (b.reservations % 8) 0 even, le-leb b.reservations b.structure.at h)
