-- What the code answers is what specs/Steps.antt says, by what its calls answer and its tests find: the parent of a rule's children, an entry
-- of the reservation block, a row of a value, where a region lies, the console. In each, a call's answer stands with its contract, and then
-- with what a match found it to be. Assumes nothing.
use mathlib.Core.Path.{◌≡◌, refl, sym, ap}
use Prim.Native.Nat.{ℕ, ◌+◌, ◌-◌, ◌^◌, ◌≤◌, ◌<◌}
use native.Mathlib.Nat.{div-le_self}
use native.Mathlib.Omega.{arith}
use mathlib.Core.Bool.{Bool, true, false, cond, or-true}
use mathlib.Core.List.{List}
use lib.ListN.{length}
use lib.Dec.{leb}
use borrow.Author.Tests.{eq-eqb, ne_eqb, le-leb, lt-leb, leb-true, leb-false}
use Rattle.std.specs.Prelude.{Option, Some, None}
use Rattle.words.specs.Bytes.{part_of}
use Rattle.words.proofs.BytesLaws.{part_none, part_length}
use Rattle.entry.specs.declared.BootloaderMemoryKind.TheVariants.{Reserved}
use Rattle.entry.specs.Kind.{number_of}
use Rattle.entry.specs.declared.Claim.{Claim}
use Rattle.entry.specs.Claim.{claim}
use Rattle.cells.specs.declared.CellCount.{CellCount}
use Rattle.cells.specs.declared.Region.{Region}
use Rattle.cells.specs.declared.RegRow.{RegRow}
use Rattle.cells.specs.declared.RegRow.TheVariants.{RegAt}
use Rattle.cells.specs.Count.{address_width, size_width}
use Rattle.cells.specs.Rows.{reg_of, ranges_of, reg_row}
use Rattle.cells.proofs.RowsLaws.{reg_there}
use Rattle.windows.specs.declared.Window.{Window}
use Rattle.reservations.specs.declared.Reservation.{Reservation}
use Rattle.reservations.specs.declared.Reservation.TheVariants.{Entry, End, Past}
use Rattle.reservations.specs.Reservations.{entry_of}
use Rattle.nodes.specs.Nav.{inside, prop_at, child_at}
use Rattle.nodes.specs.Path.{path_at}
use Rattle.subtree.specs.Names.{ranges_name, soc_name, reserved_memory_name}
use Rattle.subtree.specs.Subtree.{node_at, root_at, props_of}
use Rattle.reserved.specs.Reserved.{children_count}
use Rattle.stdout.specs.Stdout.{uart_of}
use Rattle.claims.specs.declared.Way.{Way}
use Rattle.claims.specs.declared.Way.TheVariants.{Reserve, Soc, Controllers}
use Rattle.claims.specs.Claims.{block_claim, lands_by, landed, claim_by, uart_claim}
use Rattle.visit.specs.declared.Stage.{Stage}
use Rattle.visit.specs.declared.Cursor.{Cursor}
use Rattle.visit.specs.declared.Step.TheVariants.{On}
use Rattle.visit.specs.Steps.{next_row, slash, where_here, parent_at, enter_at, yields, entry_step, row_step, child_step, stage_step, step_of}

-- ── The parent of a rule's children ──
module _ (b n : List ℕ) (f : Option ℕ) (is : f ≡ path_at b n slash) where
  pub rootless : f ≡ None → (way : Way) → None ≡ parent_at b n way
  unfolding parent_at
  rootless e Reserve = rw (← is, e)
  rootless e Soc = rw (← is, e)
  rootless e Controllers = rw (← is, e)

  -- g is the root's child of the name
  module _ (r : ℕ) (root : f ≡ Some r) (g h : Option ℕ) (found : g ≡ h) where
    pub reserved_is :
        g ≡ child_at b n r reserved_memory_name
        → inside None (λ q. cond (children_count (props_of (node_at b n r)) (props_of (node_at b n q))) (Some q) None) h ≡ parent_at b n Reserve
    unfolding parent_at
    reserved_is e = rw (← is, root, ← e, found)

    pub soc_is : g ≡ child_at b n r soc_name → inside None (λ q. where_here (prop_at b n q ranges_name) q) h ≡ parent_at b n Soc
    unfolding parent_at
    soc_is e = rw (← is, root, ← e, found)

-- ── The reservation block ──
-- an entry that is none
pub entry_none :
    (b n v : List ℕ) (i : ℕ) (c : Cursor) (x : Reservation)
    → x ≡ entry_of v i
    → ((r : Region) → x ≡ Entry r → ⊥)
    → On (enter_at b n Reserve) ≡ entry_step b n (entry_of v i) c
entry_none b n v i c x is k = rw (← is) (go x k)
  where
    go : (y : Reservation) → ((r : Region) → y ≡ Entry r → ⊥) → On (enter_at b n Reserve) ≡ entry_step b n y c
    go (Entry r) l = absurd (l r refl)
    go End l = refl
    go Past l = refl

-- an entry gives what it claims
pub entry_gives :
    (b n v : List ℕ) (i : ℕ) (c d : Cursor) (x : Reservation)
    → x ≡ entry_of v i
    → (r : Region)
    → x ≡ Entry r
    → (o : Option Claim)
    → block_claim r ≡ o
    → d ≡ next_row c
    → yields o d ≡ entry_step b n (entry_of v i) c
entry_gives b n v i c d x is r e o q s = rw (← is, e, q, s)

module _ (r : Region) where
  pub block_empty : r.size ≡ 0 → block_claim r ≡ None
  unfolding block_claim
  block_empty h = rw (eq-eqb r.size 0 h)

  pub block_far : 0xffffffffffffffff - r.address < r.size → block_claim r ≡ None
  unfolding block_claim
  block_far h = let m : 2 ^ 64 ≤ r.address + r.size = omega arith in rw (le-leb (2 ^ 64) (r.address + r.size) m, or-true)

  pub block_near :
      (r.size ≡ 0 → ⊥) → r.size ≤ 0xffffffffffffffff - r.address → block_claim r ≡ Some (claim r.address r.size (number_of Reserved))
  unfolding block_claim
  block_near n h =
      let m : r.address + r.size < 2 ^ 64 = omega arith in
      rw (ne_eqb r.size 0 n, lt-leb (2 ^ 64) (r.address + r.size) m)

-- ── Rows of a value ──
part_short : (s : List ℕ) (at n : ℕ) → length (part_of s at n) ≤ length s
part_short s at n = go (leb (at + n) (length s)) refl
  where
    go : (t : Bool) → leb (at + n) (length s) ≡ t → length (part_of s at n) ≤ length s
    go true e = let m : at + n ≤ length s = leb-true _ _ e in omega (arith, part_length s at n m)
    go false e = rw (part_none s at n (leb-false _ _ e)) (omega arith)

-- a row of a value lies inside the block that has the value, and so the next row can be counted
pub row_inside :
    (s : List ℕ) (at n : ℕ) (v : List ℕ) (a c : CellCount) (i : ℕ) (r : Region)
    → v ≡ part_of s at n
    → reg_row (reg_of a c v) i ≡ RegAt r
    → i < length s
row_inside s at n v a c i r p e =
    let h = (reg_there a c v i (address_width a) (size_width c) refl refl r).0 e in
    omega (arith, h.1, div-le_self (length v) (address_width a + size_width c), ap length p, part_short s at n)

module _ (b n : List ℕ) (arm : Bool) (way : Way) (c : Cursor) (v : List ℕ) (x y : RegRow) where
  pub row_is : v ≡ part_of b c.value.at c.value.len → x ≡ reg_row (reg_of c.own.address c.own.size v) c.row → x ≡ y
      → row_step b n arm way c y ≡ child_step b n arm way c
  unfolding child_step
  row_is p is e = rw (← p, ← is, e)

-- ── Where a region lies ──
module _ (b : List ℕ) (at n : ℕ) (v : List ℕ) (part : v ≡ part_of b at n) (way : Way) (a p c : CellCount) (r : Region) (d : Cursor) (w x : Window) where
  pub lies :
      w ≡ lands_by way (ranges_of a p c v) r.address r.size → w ≡ x
      → yields (landed way x r.size) d ≡ yields (claim_by way (ranges_of a p c (part_of b at n)) r) d
  unfolding claim_by
  lies is e = rw (← part, ← is, e)

-- ── The console ──
pub console_is : (b n : List ℕ) (d : Cursor) → d ≡ enter_at b n Controllers → (u w : Option Region) → u ≡ uart_of (root_at b n) → u ≡ w
    → yields (uart_claim w) d ≡ yields (uart_claim (uart_of (root_at b n))) (enter_at b n Controllers)
console_is b n d s u w is e = rw (← is, e, s)

-- ── A step ──
pub at_stage : (b n block : List ℕ) (arm : Bool) (c : Cursor) (s : Stage) → c.stage ≡ s → stage_step b n block arm s c ≡ step_of b n block arm c
unfolding step_of
at_stage b n block arm c s e = ap (λ (x : Stage). stage_step b n block arm x c) (sym e)
