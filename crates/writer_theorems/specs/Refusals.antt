-- When a call is refused, in the words of document 02, request L1: "Refusals, in order: 10 out of turn, a zero byte in a name, a root with a
-- name, or the reservation (0, 0); 6; 11 exactly when the blob that this call and then only closing calls (after an empty root, if none
-- stands) would finish is longer than the buffer." By the trees that the parts can still become, and with nothing of the writer's place.
use Rattle.std.specs.Prelude.{◌≡◌, ◌⊎◌, ℕ, suc, ◌-◌, ◌≤◌, ◌<◌, true, List, [], ◌∷◌, ◌++◌, length, get_or, replicate}
use Rattle.flattened.specs.Parts.{Part, begins, property, ends}
use Rattle.flattened.specs.Forest.{NamedValue, Forest, tree_parts, levels_of, nodes_of}
use Rattle.flattened.specs.Blob.{blob_size}
use Rattle.writer.specs.Writer.{Call, reserve, write, finish}
use Rattle.writer_theorems.specs.History.{Account, with_call}

-- the parts are those of a tree, of which these are the root's properties and children
pub record TreeOf (xs : List Part) : Type 0 where
  pub props : List NamedValue
  pub kids : Forest
  pub parts : xs ≡ tree_parts props kids

-- ── 10 ──
-- "out of turn"
abbrev pub OutOfTurn : Account → Call → Type 0
-- "Reservations come before the root."
OutOfTurn a (reserve p z) = a.parts ≡ [] → ⊥
-- no tree has these parts first, whatever follows
OutOfTurn a (write x) = (ys : List Part) → TreeOf (a.parts ++ (x ∷ ys)) → ⊥
-- the parts are no tree's
OutOfTurn a finish = TreeOf a.parts → ⊥

-- "a zero byte in a name"
abbrev pub HasZero : List ℕ → Type 0
HasZero name = (i : ℕ) × (i < length name) × (get_or name i 0 ≡ 0)

pub data Wrong (a : Account) : Call → Type 0 where
  -- nothing follows a finish
  finished : {c : Call} → a.finished ≡ true → Wrong a c
  out_of_turn : {c : Call} → OutOfTurn a c → Wrong a c
  zero_in_name : {name : List ℕ} → HasZero name → Wrong a (write (begins name))
  zero_in_property : {name value : List ℕ} → HasZero name → Wrong a (write (property name value))
  -- "a root with a name"
  named_root : {name : List ℕ} → a.parts ≡ [] → (name ≡ [] → ⊥) → Wrong a (write (begins name))
  -- "the reservation (0, 0)"
  nothing_reserved : Wrong a (reserve 0 0)

-- ── "the blob that this call and then only closing calls (after an empty root, if none stands) would finish" ──
-- how many nodes begin among these parts, and how many end
abbrev pub begun : List Part → ℕ
begun [] = 0
begun (begins name ∷ xs) = suc (begun xs)
begun (property name value ∷ xs) = begun xs
begun (ends ∷ xs) = begun xs

abbrev pub ended : List Part → ℕ
ended [] = 0
ended (begins name ∷ xs) = ended xs
ended (property name value ∷ xs) = ended xs
ended (ends ∷ xs) = suc (ended xs)

-- each node that is open ends
abbrev pub closing : List Part → List Part
closing [] = begins [] ∷ ends ∷ []
closing (x ∷ xs) = replicate (begun (x ∷ xs) - ended (x ∷ xs)) ends

-- the parts of that blob, and its length
abbrev pub closed : Account → List Part
closed a = a.parts ++ closing a.parts

abbrev pub closed_size : Account → ℕ
closed_size a = blob_size a.entries (closed a)

-- ── 6: "The reader's limits apply"; "6 counts its bytes too" ──
pub record WithinLimits (a : Account) : Type 0 where
  pub tree : TreeOf (closed a)
  pub levels : suc (levels_of tree.kids) ≤ 32
  pub nodes : suc (nodes_of tree.kids) ≤ 4096
  pub bytes : closed_size a ≤ 1048576

pub record OverLimits (a : Account) : Type 0 where
  pub tree : TreeOf (closed a)
  pub over : (32 < suc (levels_of tree.kids)) ⊎ ((4096 < suc (nodes_of tree.kids)) ⊎ (1048576 < closed_size a))

-- ── The answers, each with what it is due to ──
-- 10
abbrev pub Refused10 : Account → Call → Type 0
Refused10 a c = Wrong a c

-- then 6
abbrev pub Refused6 : Account → Call → Type 0
Refused6 a c = (Wrong a c → ⊥) × OverLimits (with_call a c)

-- then 11, for a buffer of so many bytes
abbrev pub Refused11 : Account → Call → ℕ → Type 0
Refused11 a c room = (Wrong a c → ⊥) × WithinLimits (with_call a c) × (room < closed_size (with_call a c))

-- 0
abbrev pub Taken : Account → Call → ℕ → Type 0
Taken a c room = (Wrong a c → ⊥) × WithinLimits (with_call a c) × (closed_size (with_call a c) ≤ room)
