-- An entry of the reservation block, as the code tests it; and the entries up to the end, one after the other. Assumes nothing.
use mathlib.Core.Path.{◌≡◌}
use mathlib.Core.List.{List}
use Prim.Native.Nat.{ℕ, ◌+◌, ◌*◌, ◌/◌, ◌≤◌, ◌<◌}
use lib.ListN.{length}
use borrow.Author.Tests.{le-leb, lt-leb, eq-eqb, ne_eqb}
use Rattle.words.specs.Bytes.{double}
use Rattle.reservations.specs.declared.Reservation.TheVariants.{Entry, End, Past}
use Rattle.reservations.specs.Reservations.{entry_of}

pub entry_past : (v : List ℕ) (i : ℕ) → length v / 16 ≤ i → Past ≡ entry_of v i
unfolding entry_of
entry_past v i h = rw (le-leb _ _ h)

-- a and z are the numbers read
module _ (v : List ℕ) (i a z : ℕ) (inside : i < length v / 16) (ea : a ≡ double v (i * 16)) (ez : z ≡ double v (i * 16 + 8)) where
  pub entry_address : (a ≡ 0 → ⊥) → Entry (record { address = a; size = z }) ≡ entry_of v i
  unfolding entry_of
  entry_address h = rw (lt-leb _ _ inside, ← ea, ← ez, ne_eqb _ _ h)

  pub entry_size : a ≡ 0 → (z ≡ 0 → ⊥) → Entry (record { address = a; size = z }) ≡ entry_of v i
  unfolding entry_of
  entry_size h n = rw (lt-leb _ _ inside, ← ea, ← ez, eq-eqb _ _ h, ne_eqb _ _ n)

  pub entry_end : a ≡ 0 → z ≡ 0 → End ≡ entry_of v i
  unfolding entry_of
  entry_end h n = rw (lt-leb _ _ inside, ← ea, ← ez, eq-eqb _ _ h, eq-eqb _ _ n)
