-- How long the blob would be: by how much a call makes it longer, and what is over the limit. Assumes nothing.
use mathlib.Core.Path.{◌≡◌}
use Prim.Native.Nat.{ℕ, ◌+◌, ◌*◌, ◌/◌, ◌≤◌, ◌<◌}
use native.Mathlib.Omega.{arith}
use mathlib.Core.List.{List}
use lib.ListN.{length}
use borrow.Author.Tests.{eq-eqb, ne_eqb, lt-leb}
use Rattle.std.specs.Prelude.{Err}
use Rattle.flattened.specs.Parts.{begins, property, ends, part_size, name_size}
use Rattle.writer.specs.declared.Writer.{Writer}
use Rattle.writer.specs.declared.WriteRefusal.TheVariants.{OverLimit}
use Rattle.writer.specs.Writer.{reserve, write, finish, final_size, room_answer, after}

-- ── The size ──
pub room_over : (size room : ℕ) → 1048576 < size → Err OverLimit ≡ room_answer size room
unfolding room_answer
room_over size room h = rw (lt-leb _ _ h)

module _ (w : Writer) where
  pub record Bounds : Type 0 where
    pub reserved : w.reserved ≤ final_size w
    pub structure : w.structure ≤ final_size w
    pub strings : w.strings ≤ final_size w
    pub depth : w.depth ≤ final_size w

  pub bounds : Bounds
  unfolding final_size
  bounds = record { reserved = omega arith; structure = omega arith; strings = omega arith; depth = omega arith }

  pub final_bare : (more : ℕ) → w.nodes ≡ 0
      → 40 + 16 * (w.reserved + 1) + w.structure + 4 * w.depth + 4 + w.strings + more + 12 ≡ final_size w + more
  unfolding final_size
  final_bare more e = rw (eq-eqb _ _ e) (omega arith)

  pub final_rooted : (more : ℕ) → (w.nodes ≡ 0 → ⊥)
      → 40 + 16 * (w.reserved + 1) + w.structure + 4 * w.depth + 4 + w.strings + more ≡ final_size w + more
  unfolding final_size
  final_rooted more e = rw (ne_eqb _ _ e) (omega arith)

  -- by how much a call makes it longer
  pub grow_root : (name : List ℕ) → w.nodes ≡ 0 → w.depth ≡ 0 → length name ≡ 0 → final_size w + 0 ≡ final_size (after w (write (begins name)))
  unfolding final_size after part_size
  grow_root name e d n =
      let q : w.nodes + 1 ≡ 0 → ⊥ = λ z. omega arith in
      rw (eq-eqb _ _ e, ne_eqb _ _ q) (omega arith)

  pub grow_begin : (name : List ℕ) → (w.nodes ≡ 0 → ⊥) → final_size w + (8 + (length name + 4) / 4 * 4) ≡ final_size (after w (write (begins name)))
  unfolding final_size after part_size
  grow_begin name e =
      let q : w.nodes + 1 ≡ 0 → ⊥ = λ z. omega arith in
      rw (ne_eqb _ _ e, ne_eqb _ _ q) (omega arith)

  pub grow_property : (name value : List ℕ)
      → final_size w + (12 + (length value + 3) / 4 * 4 + (length name + 1)) ≡ final_size (after w (write (property name value)))
  unfolding final_size after part_size name_size
  grow_property name value = omega arith

  pub grow_end : (w.depth ≡ 0 → ⊥) → final_size w + 0 ≡ final_size (after w (write ends))
  unfolding final_size after part_size
  grow_end d = omega arith

  pub grow_reservation : (address size : ℕ) → final_size w + 16 ≡ final_size (after w (reserve address size))
  unfolding final_size after
  grow_reservation address size = omega arith

  pub grow_finish : final_size w + 0 ≡ final_size (after w finish)
  unfolding final_size after
  grow_finish = omega arith

-- what the judges of the calls need: a node's begin apart from the others
pub ruleset begins_longer = (room_over, grow_root, grow_begin)

pub ruleset longer = (room_over, grow_property, grow_end, grow_reservation, grow_finish)
