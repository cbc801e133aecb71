-- What each call leaves, whole: the writer, how long the blob is, the answer and every byte of the buffer. Document 02, request L1.
use Rattle.std.specs.Prelude.{ℕ, ◌+◌, ◌*◌, ◌-◌, List, ◌++◌, reverse, length, take, drop, replicate, Result, Ok, Err}
use Rattle.std.proofs.Math.Seq.{paste}
use Rattle.pen.specs.Numbers.{bytes4, bytes8}
use Rattle.flattened.specs.Parts.{Part, part_bytes, name_bytes, name_size}
use Rattle.flattened.specs.Blob.{header}
use Rattle.writer.specs.declared.Writer.{Writer}
use Rattle.writer.specs.declared.WriteRefusal.{WriteRefusal}
use Rattle.writer.specs.Writer.{Call, reserve, write, finish, on_done, after, final_size, answer_of}

-- the bytes t put at a place
abbrev pub laid : List ℕ → ℕ → List ℕ → List ℕ
laid buf at t = paste buf at t (length t)

-- where the structure block begins, where its next part goes, and where it ends once FDT_END stands
abbrev pub structure_at : Writer → ℕ
structure_at w = 40 + 16 * (w.reserved + 1)

abbrev pub part_at : Writer → ℕ
part_at w = structure_at w + w.structure

abbrev pub end_at : Writer → ℕ
end_at w = part_at w + 4

-- an entry, behind those before it
unfoldable pub reservation_laid : Writer → ℕ → ℕ → List ℕ → List ℕ
reservation_laid w address size buf = laid buf (40 + 16 * w.reserved) (bytes8 address ++ bytes8 size)

-- a part in the structure block, and its name, last byte first, before the names that stand at the buffer's end: so a name's offset is
-- known when its property is written
unfoldable pub part_laid : Writer → Part → List ℕ → List ℕ
part_laid w x buf =
    laid (laid buf (part_at w) (part_bytes w.strings x)) (length buf - w.strings - name_size x) (reverse (name_bytes x))

-- the bytes from a place on turned round
abbrev pub turned : List ℕ → ℕ → List ℕ
turned buf from = take from buf ++ reverse (drop from buf)

-- (0, 0) behind the reservations, FDT_END behind the parts, and then the names
unfoldable pub blocks_laid : Writer → List ℕ → List ℕ
blocks_laid w buf = turned (laid (laid buf (40 + 16 * w.reserved) (replicate 16 0)) (part_at w) (bytes4 9)) (end_at w)

-- "zeros past its end", and the header
unfoldable pub blob_laid : Writer → List ℕ → List ℕ
blob_laid w buf =
    laid (laid (blocks_laid w buf) (end_at w + w.strings) (replicate (length buf - (end_at w + w.strings)) 0))
    0 (header (16 * (w.reserved + 1)) (w.structure + 4) w.strings)

abbrev pub laid_by : Writer → Call → List ℕ → List ℕ
laid_by w (reserve address size) buf = reservation_laid w address size buf
laid_by w (write x) buf = part_laid w x buf
laid_by w finish buf = blob_laid w buf

-- how long the blob is, which finishing tells
abbrev pub told : Writer → Call → ℕ
told w (reserve address size) = 0
told w (write x) = 0
told w finish = final_size w

pub record Outcome : Type 0 where
  pub writer : Writer
  pub size : ℕ
  pub answer : Result Unit WriteRefusal
  pub buffer : List ℕ

abbrev pub taken : Writer → Call → List ℕ → Outcome
taken w c buf = record { writer = after w c; size = told w c; answer = Ok tt; buffer = laid_by w c buf }

-- "A refused call leaves the buffer and the writer's place unchanged."
abbrev pub unchanged : Writer → List ℕ → Result Unit WriteRefusal → Outcome
unchanged w buf a = record { writer = w; size = 0; answer = a; buffer = buf }

-- A CALL c of the writer w on the buffer buf
unfoldable pub outcome : Writer → Call → List ℕ → Outcome
outcome w c buf = on_done (answer_of w c (length buf)) (taken w c buf) (unchanged w buf (answer_of w c (length buf)))

-- ── What the calls answer, with the writer that they leave, as that ──
abbrev pub wrote : Writer → Result Unit WriteRefusal → List ℕ → Outcome
wrote w a buf = record { writer = w; size = 0; answer = a; buffer = buf }

-- a finish that is done tells how long the blob is
abbrev pub finished : Writer → Result ℕ WriteRefusal → List ℕ → Outcome
finished w (Ok size) buf = record { writer = w; size = size; answer = Ok tt; buffer = buf }
finished w (Err r) buf = unchanged w buf (Err r)
