-- What finishing leaves: document 02, request L1, "Whatever it finishes must be read back with the same nodes, properties and reservations in
-- the same order, and the reader must accept it."
use Rattle.std.specs.Prelude.{◌≡◌, ℕ, ◌-◌, List, [], ◌∷◌, ◌++◌, length, replicate}
use Rattle.cells.specs.declared.Region.{Region}
use Rattle.flattened.specs.Parts.{Part}
use Rattle.flattened.specs.Forest.{NamedValue, Forest, tree_parts}
use Rattle.flattened.specs.Blob.{blob_of}
use Rattle.flattened.specs.ReadBack.{ReadBack}
use Rattle.writer.specs.Writer.{Call, reserve, write, finish}
use Rattle.writer.specs.Calls.{Outcome}
use Rattle.writer_theorems.specs.History.{Account}
use Rattle.writer_theorems.specs.Refusals.{TreeOf}

-- the parts on the account are those of one tree; the buffer holds its blob with the reservations, and "zeros past its end"; the size told is
-- the blob's length; and the blob is read back, alone and in the buffer
pub record Finishes (buf : List ℕ) (a : Account) (o : Outcome) : Type 0 where
  pub tree : TreeOf a.parts
  pub bytes : o.buffer ≡ blob_of a.entries tree.props tree.kids ++ replicate (length buf - o.size) 0
  pub size : o.size ≡ length (blob_of a.entries tree.props tree.kids)
  pub long : length o.buffer ≡ length buf
  pub alone : ReadBack (blob_of a.entries tree.props tree.kids) a.entries tree.props tree.kids
  pub inside : ReadBack o.buffer a.entries tree.props tree.kids

-- ── The calls that write a tree with its reservations ──
abbrev pub reserving : List Region → List Call → List Call
reserving [] cs = cs
reserving (r ∷ rs) cs = reserve r.address r.size ∷ reserving rs cs

abbrev pub writing : List Part → List Call → List Call
writing [] cs = cs
writing (x ∷ xs) cs = write x ∷ writing xs cs

-- "Reservations come before the root"
abbrev pub calls_for : List Region → List NamedValue → Forest → List Call
calls_for rs ps kids = reserving rs (writing (tree_parts ps kids) (finish ∷ []))
