-- Calls in bytes, one after the other: each is a letter and what belongs to it, little-endian. `R`, address and size, 64 bits each; `B`, the
-- name's length, 32 bits, and its bytes; `P`, the name's and the value's lengths, 32 bits each, then the bytes of both; `E`; `F`.
use Rattle.std.specs.Prelude.{ℕ, zero, suc, ◌+◌, cond, List, leb, ltb, eqb, length, get_or, Option, Some, None}
use Rattle.words.specs.Bytes.{part_of}
use Rattle.words.specs.Little.{quarter, eight}
use Rattle.flattened.specs.Parts.{begins, property, ends}
use Rattle.writer.specs.Writer.{Call, reserve, write, finish}
use Rattle.write_run.specs.declared.Read.{Read}
use Rattle.write_run.specs.declared.CallRead.{CallRead}
use Rattle.write_run.specs.declared.CallRead.TheVariants.{Reservation, Begin, Property, End, Finish}

-- ── One call ──
-- a call that ends before q, where the input has all of it
unfoldable pub whole : List ℕ → ℕ → CallRead → Option Read
whole s q c = cond (leb q (length s)) (Some (record { next = q; call = c })) None

-- by the letter k at p. A length that the input does not have whole counts missing bytes as 0, and the call then ends past the input
unfoldable pub by_letter : List ℕ → ℕ → ℕ → Option Read
by_letter s p k =
    -- R
    cond (eqb k 82) (whole s (p + 17) (Reservation (eight s (p + 1)) (eight s (p + 9))))
    -- B
    (cond (eqb k 66) (whole s (p + 5 + quarter s (p + 1)) (Begin (p + 5) (quarter s (p + 1))))
    -- P
    (cond (eqb k 80)
    (whole s (p + 9 + quarter s (p + 1) + quarter s (p + 5)) (Property (p + 9) (quarter s (p + 1)) (p + 9 + quarter s (p + 1)) (quarter s (p + 5))))
    -- E, F
    (cond (eqb k 69) (whole s (p + 1) End) (cond (eqb k 70) (whole s (p + 1) Finish) None))))

-- THE CALL AT p
unfoldable pub read_at : List ℕ → ℕ → Option Read
read_at s p = cond (leb (length s) p) None (by_letter s p (get_or s p 0))

-- ── All calls ──
infixr 20 ◌then◌
-- calls one after the other, up to where the input ends or to what is no call
pub data Calls : Type 0 where
  over : Calls
  torn : Calls
  ◌then◌ : Call → Calls → Calls

-- a call that was read in s
abbrev pub call_of : List ℕ → CallRead → Call
call_of s (Reservation address size) = reserve address size
call_of s (Begin at n) = write (begins (part_of s at n))
call_of s (Property at n value v) = write (property (part_of s at n) (part_of s value v))
call_of s End = write ends
call_of s Finish = finish

-- what was read in s, and then others from the place behind it on
abbrev pub behind : List ℕ → Option Read → (ℕ → Calls) → Calls
behind s None rest = torn
behind s (Some r) rest = call_of s r.call then rest r.next

-- the calls from p on, in at most f of them: each takes a byte at least
unfoldable pub calls_from : ℕ → List ℕ → ℕ → Calls
calls_from zero s p = over
calls_from (suc f) s p = cond (ltb p (length s)) (behind s (read_at s p) (calls_from f s)) over

-- THE CALLS of an input
abbrev pub calls_in : List ℕ → Calls
calls_in s = calls_from (length s) s 0
