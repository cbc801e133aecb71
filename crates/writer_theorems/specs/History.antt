-- Every sequence of calls of one writer on one buffer, and what was written by it: document 02, request L1.
use Rattle.std.specs.Prelude.{◌≡◌, ℕ, ◌<◌, Bool, true, false, List, [], ◌∷◌, ◌++◌}
use Rattle.cells.specs.declared.Region.{Region}
use Rattle.flattened.specs.Parts.{Part}
use Rattle.writer.specs.declared.Writer.{Writer}
use Rattle.writer.specs.Writer.{Call, reserve, write, finish, on_done, fresh, write_number}
use Rattle.writer.specs.Calls.{outcome}

-- what was written: the reservations and the parts, in their order, and whether it is finished
pub record Account : Type 0 where
  pub entries : List Region
  pub parts : List Part
  pub finished : Bool

abbrev pub account : List Region → List Part → Bool → Account
account rs xs f = record { entries = rs; parts = xs; finished = f }

abbrev pub region : ℕ → ℕ → Region
region p z = record { address = p; size = z }

-- with one call more
abbrev pub with_call : Account → Call → Account
with_call a (reserve p z) = account (a.entries ++ (region p z ∷ [])) a.parts a.finished
with_call a (write x) = account a.entries (a.parts ++ (x ∷ [])) a.finished
with_call a finish = account a.entries a.parts true

-- an address and a size have 64 bits
abbrev pub Sized : Call → Type 0
Sized (reserve p z) = (p < 18446744073709551616) × (z < 18446744073709551616)
Sized (write x) = Unit {0}
Sized finish = Unit {0}

-- EVERY SEQUENCE OF CALLS, whatever each is answered. A call that is done is written down, a refused one is not
pub data History : Writer → List ℕ → Account → Type 0 where
  starts : {buf : List ℕ} → History fresh buf (account [] [] false)
  goes : {w : Writer} {buf : List ℕ} {a : Account} (c : Call) → Sized c → History w buf a
      → History (outcome w c buf).writer (outcome w c buf).buffer (on_done (outcome w c buf).answer (with_call a c) a)

-- these calls one after the other, each of them done
pub data AllDone : Writer → List ℕ → List Call → Writer → List ℕ → Type 0 where
  none : {w : Writer} {buf : List ℕ} → AllDone w buf [] w buf
  next : {w w' : Writer} {buf buf' : List ℕ} (c : Call) (cs : List Call) → write_number (outcome w c buf).answer ≡ 0
      → AllDone (outcome w c buf).writer (outcome w c buf).buffer cs w' buf' → AllDone w buf (c ∷ cs) w' buf'
