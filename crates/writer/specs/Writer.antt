-- The writer's place, what each call is answered, and where the writer stands afterwards: document 02, request L1.
use Rattle.std.specs.Prelude.{ℕ, ◌+◌, ◌*◌, ◌-◌, Bool, true, false, cond, ◌&&◌, not, List, length, leb, ltb, eqb, Result, Ok, Err}
use Rattle.numbers.specs.Number.{number_by}
use Rattle.words.specs.Bytes.{string_end}
use Rattle.flattened.specs.Parts.{Part, begins, property, ends, part_size, name_size}
use Rattle.writer.specs.declared.Writer.{Writer}
use Rattle.writer.specs.declared.WriteRefusal.{WriteRefusal}
use Rattle.writer.specs.declared.WriteRefusal.TheVariants.{OutOfTurn, OverLimit, NoRoom}

-- THE FIVE CALLS: "begin node, property, end node, reservation entry, finish"
pub data Call : Type 0 where
  reserve : (address size : ℕ) → Call
  -- a node begins, a property, or a node ends
  write : Part → Call
  finish : Call

-- "Refusals, in order: 10 ..; 6; 11 .."
abbrev pub refusal_number : WriteRefusal → ℕ
refusal_number OutOfTurn = 10
refusal_number OverLimit = 6
refusal_number NoRoom = 11

-- "0 is done." (document 01)
abbrev pub write_number : Result Unit WriteRefusal → ℕ
write_number = number_by refusal_number

abbrev pub on_done : {A : Type 0} → Result Unit WriteRefusal → A → A → A
on_done (Ok _) x y = x
on_done (Err _) x y = y

-- ── Where a writer stands ──
abbrev pub writer : ℕ → ℕ → ℕ → ℕ → ℕ → Bool → Bool → Writer
writer r b n d k p f = record { reserved = r; structure = b; strings = n; depth = d; nodes = k; props = p; done = f }

-- nothing is written yet
abbrev pub fresh : Writer
fresh = writer 0 0 0 0 0 false false

-- after a call that is done
unfoldable pub after : Writer → Call → Writer
after w (reserve address size) = writer (w.reserved + 1) w.structure w.strings w.depth w.nodes w.props w.done
after w (write (begins name)) =
    writer w.reserved (w.structure + part_size (begins name)) w.strings (w.depth + 1) (w.nodes + 1) true w.done
after w (write (property name value)) =
    writer w.reserved (w.structure + part_size (property name value)) (w.strings + name_size (property name value)) w.depth w.nodes w.props w.done
after w (write ends) = writer w.reserved (w.structure + part_size ends) w.strings (w.depth - 1) w.nodes false w.done
after w finish = writer w.reserved w.structure w.strings w.depth w.nodes w.props true

-- how long the blob is that only closing calls would finish: FDT_END_NODE for each open node, and FDT_END; "after an empty root, if none
-- stands", which is 12 bytes
unfoldable pub final_size : Writer → ℕ
final_size w = 40 + 16 * (w.reserved + 1) + w.structure + 4 * w.depth + 4 + w.strings + cond (eqb w.nodes 0) 12 0

-- ── What a call is answered ──
-- no zero byte in a name
abbrev pub no_zero : List ℕ → Bool
no_zero name = not (ltb (string_end name 0) (length name))

-- not "10 out of turn, a zero byte in a name, a root with a name, or the reservation (0, 0)"
unfoldable pub in_turn : Writer → Call → Bool
in_turn w (reserve address size) = not w.done && (eqb w.nodes 0 && not (eqb address 0 && eqb size 0))
in_turn w (write (begins name)) =
    not w.done && (no_zero name && cond (eqb w.nodes 0) (eqb w.depth 0 && eqb (length name) 0) (not (eqb w.depth 0)))
in_turn w (write (property name value)) = not w.done && (w.props && no_zero name)
in_turn w (write ends) = not w.done && (not (eqb w.nodes 0) && not (eqb w.depth 0))
in_turn w finish = not w.done && (not (eqb w.nodes 0) && eqb w.depth 0)

-- "32 levels (root is 1), 4,096 nodes" (document 01)
unfoldable pub in_limits : Writer → Call → Bool
in_limits w (reserve address size) = true
in_limits w (write (begins name)) = not (leb 32 w.depth) && not (leb 4096 w.nodes)
in_limits w (write (property name value)) = true
in_limits w (write ends) = true
in_limits w finish = true

-- a blob of this size, for a buffer of so many bytes: 6, then 11. "6 counts its bytes too"
unfoldable pub room_answer : ℕ → ℕ → Result Unit WriteRefusal
room_answer size room = cond (leb size 1048576) (cond (leb size room) (Ok tt) (Err NoRoom)) (Err OverLimit)

-- "Refusals, in order": 10, 6, 11
abbrev pub judged : Bool → Bool → ℕ → ℕ → Result Unit WriteRefusal
judged turn within size room = cond turn (cond within (room_answer size room) (Err OverLimit)) (Err OutOfTurn)

-- "11 exactly when the blob that this call and then only closing calls .. would finish is longer than the buffer"
unfoldable pub answer_of : Writer → Call → ℕ → Result Unit WriteRefusal
answer_of w c room = judged (in_turn w c) (in_limits w c) (final_size (after w c)) room
