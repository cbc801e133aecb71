-- From the first cursor on the claims are the tree's; and a step from a cursor takes away the first of what is left to claim from it.
-- From the laws of EnterLaws and LeftLaws, and ClaimLaws.child_regions_lem of crates/claims: the rows of a child's value are its regions.
-- Assumes nothing.
use mathlib.Core.Path.{◌≡◌, refl, sym, ◌∙◌, ap}
use Prim.Native.Nat.{ℕ, zero, suc, ◌-◌, ◌/◌}
use native.Mathlib.Omega.{arith}
use mathlib.Core.Bool.{Bool, true, false, cond}
use mathlib.Core.List.{List, [], ◌∷◌, ◌++◌, append_assoc, append-nil}
use lib.ListN.{length}
use lib.Dec.{eqb}
use borrow.Author.Tests.{ne_eqb}
use Rattle.std.specs.Prelude.{Option, Some, None}
use Rattle.words.specs.Bytes.{part_of}
use Rattle.words.proofs.BytesLaws.{never}
use Rattle.entry.specs.declared.Claim.{Claim}
use Rattle.cells.specs.declared.CellCount.{CellCount}
use Rattle.cells.specs.declared.Range.{Range}
use Rattle.cells.specs.declared.RegRow.{RegRow}
use Rattle.cells.specs.declared.RegRow.TheVariants.{NoReg, PastReg, RegAt}
use Rattle.cells.specs.Rows.{Table, rows, reg_of, ranges_of, reg_row}
use Rattle.fdt.specs.declared.Block.{Block}
use Rattle.fdt.specs.Tree.{Nodes, none, node}
use Rattle.reservations.specs.declared.Reservation.{Reservation}
use Rattle.reservations.specs.declared.Reservation.TheVariants.{Entry, End as BlockEnd, Past}
use Rattle.reservations.specs.Reservations.{entry_of, entries_of}
use Rattle.nodes.specs.OnTree.{head_of, kids_of}
use Rattle.reading.specs.Values.{value_of}
use Rattle.subtree.specs.Names.{ranges_name, soc_name, reserved_memory_name}
use Rattle.subtree.specs.Subtree.{node_at, at, root_at, props_of, rest_of, under_root, Stands}
use Rattle.subtree.proofs.SubtreeLaws.{rest_at, next_stands}
use Rattle.translation.specs.Translation.{address_of, size_of}
use Rattle.reserved.specs.Reserved.{children_count}
use Rattle.stdout.specs.Stdout.{uart_of}
use Rattle.claims.specs.declared.Way.{Way}
use Rattle.claims.specs.declared.Way.TheVariants.{Reserve, Soc, Controllers}
use Rattle.claims.specs.Claims.{and_then, block_claim, block_claims, entries, child_regions, claim_by, kid_claims, reserved_claims, soc_by, soc_claims, uart_claim, stdout_claims, controller_claims, is_virt, virt_claims, device_claims, claims_of}
use Rattle.claims.specs.Values.{child_value}
use Rattle.claims.proofs.ClaimLaws.{child_regions_lem}
use Rattle.visit.specs.declared.Stage.{Stage}
use Rattle.visit.specs.declared.Stage.TheVariants.{Entries, Children, Virt, Console, Over}
use Rattle.visit.specs.declared.Cursor.{Cursor}
use Rattle.visit.specs.Steps.{next_row, cursor_at, start_at, enter_at, yields, entry_step, after_at, child_next, row_step, child_step, virt_step, step_of}
use Rattle.visit.specs.Script.{claims_in, rows_script, kids_script, block_script, soc_script, way_script, controllers_on, console_on, soc_on, virt_on, devices_on, reserved_on, after_on, script, Follows}
use Rattle.visit.proofs.LeftLaws.{RowsLeft, rows_left, EntriesLeft, entries_left, and_then_lem, claims_append, claims_block, claims_kids}
use Rattle.visit.proofs.EnterLaws.{value_part, enter_is, enter_stands}

-- ── The first cursor ──
module _ (t : Nodes) where
  claims_reserved : claims_in (way_script t Reserve) ≡ reserved_claims t
  unfolding way_script reserved_claims claims_in
  claims_reserved = go (under_root reserved_memory_name t) (children_count (props_of t) (props_of (under_root reserved_memory_name t)))
    where
      go : (s : Nodes) (x : Bool)
          → claims_in (cond x (kids_script Reserve (rows []) (address_of (props_of s)) (size_of (props_of s)) (kids_of s)) [])
          ≡ cond x (kid_claims Reserve (rows []) (address_of (props_of s)) (size_of (props_of s)) (kids_of s)) []
      go s true = claims_kids _ _ _ _ _
      go s false = refl

  claims_soc : claims_in (way_script t Soc) ≡ soc_claims t
  unfolding way_script soc_claims claims_in
  claims_soc = go (under_root soc_name t) (value_of ranges_name (props_of (under_root soc_name t)))
    where
      go : (s : Nodes) (v : Option (List ℕ)) → claims_in (soc_script t s v) ≡ soc_by t s v
      go s None = refl
      go s (Some v) = claims_kids _ _ _ _ _

  claims_console : claims_in (console_on t) ≡ stdout_claims t ++ controller_claims t
  unfolding console_on controllers_on way_script stdout_claims controller_claims claims_in
  claims_console =
      ap (and_then (uart_claim (uart_of t)))
      (claims_append (way_script t Controllers) (None ∷ []) ∙ append-nil _ ∙ claims_kids _ _ _ _ _)
      ∙ sym (and_then_lem (uart_claim (uart_of t)) [] (controller_claims t))

  claims_devices : (arm : Bool) → claims_in (devices_on arm t) ≡ device_claims arm t
  unfolding devices_on soc_on virt_on device_claims claims_in
  claims_devices arm = go (is_virt arm t)
    where
      go : (x : Bool) → claims_in (cond x (virt_on 0) (soc_on t)) ≡ cond x virt_claims (soc_claims t ++ (stdout_claims t ++ controller_claims t))
      go true = refl
      go false = claims_append (way_script t Soc) (None ∷ console_on t) ∙ rw (claims_soc, claims_console)

-- THE THEOREM: from the first cursor on the claims are the tree's
pub script_start :
    (b n block : List ℕ) (arm : Bool) → claims_in (script b n block arm (start_at Entries)) ≡ claims_of arm (entries_of block) (root_at b n)
unfolding script reserved_on claims_in claims_of
script_start b n block arm =
    let z : length block / 16 - 0 ≡ length block / 16 = omega arith in
    rw z
    (claims_append (block_script (entries_of block)) (None ∷ reserved_on arm (root_at b n))
    ∙ rw (claims_block (entries_of block))
    (ap (λ (l : List Claim). block_claims (entries_of block) ++ l)
    (claims_append (way_script (root_at b n) Reserve) (None ∷ devices_on arm (root_at b n))
    ∙ rw (claims_reserved (root_at b n), claims_devices (root_at b n) arm))))

-- ── A step ──
-- the children in a row from one that is there
kids_head :
    (way : Way) (tb : Table Range) (a c : CellCount) (q : ℕ) (t : Nodes)
    → head_of t ≡ Some q
    → kids_script way tb a c t ≡ None ∷ (rows_script way tb (child_regions way a c (props_of t)) ++ kids_script way tb a c (rest_of t))
unfolding kids_script
kids_head way tb a c q none h = never (cc)
kids_head way tb a c q (node p nm ps kids rest) h = refl

module _ (b n block : List ℕ) (arm : Bool) where
  -- a step that gives a claim or none
  follows_yield : (o : Option Claim) (c d : Cursor) → script b n block arm c ≡ o ∷ script b n block arm d → Stands b n d.next
      → Follows b n block arm c (yields o d)
  follows_yield None c d e s = (e, s)
  follows_yield (Some x) c d e s = (e, s)

  -- past the children of a rule
  after_is : (way : Way) → script b n block arm (after_at b n arm way) ≡ after_on arm (root_at b n) way
  unfolding after_at after_on devices_on soc_on script
  after_is Reserve = go (is_virt arm (root_at b n))
    where
      go : (x : Bool) → script b n block arm (cond x (start_at Virt) (enter_at b n Soc)) ≡ cond x (virt_on 0) (soc_on (root_at b n))
      go true = refl
      go false = enter_is b n block arm Soc
  after_is Soc = refl
  after_is Controllers = refl

  after_stands : (way : Way) → Stands b n (after_at b n arm way).next
  unfolding after_at
  after_stands Reserve = go (is_virt arm (root_at b n))
    where
      go : (x : Bool) → Stands b n (cond x (start_at Virt) (enter_at b n Soc)).next
      go true = refl
      go false = enter_stands b n Soc
  after_stands Soc = refl
  after_stands Controllers = refl

  module _ (row : ℕ) (value : Block) (next : Option ℕ) (own parent length : CellCount) (ranges : Block) (stands : Stands b n next) where
    abbrev here : Stage → Cursor
    here stage = cursor_at stage row value next own parent length ranges

    entries_follow : (x : Reservation) → EntriesLeft block row x → Follows b n block arm (here Entries) (entry_step b n x (here Entries))
    unfolding script block_script reserved_on after_on
    entries_follow (Entry r) e = follows_yield (block_claim r) (here Entries) (next_row (here Entries)) (rw e) stands
    entries_follow BlockEnd e = (rw (e, enter_is b n block arm Reserve), enter_stands b n Reserve)
    entries_follow Past e = (rw (e, enter_is b n block arm Reserve), enter_stands b n Reserve)

    virt_follows : Follows b n block arm (here Virt) (virt_step (here Virt))
    unfolding virt_step script virt_on
    virt_follows = go row
      where
        go : (i : ℕ)
            → Follows b n block arm (cursor_at Virt i value next own parent length ranges) (virt_step (cursor_at Virt i value next own parent length ranges))
        go zero = (refl, stands)
        go (suc i) =
            let z : eqb (suc i) 0 ≡ false = ne_eqb (suc i) 0 (λ e. omega arith) in
            rw z (rw z, refl)

    abbrev table : Table Range
    table = ranges_of own parent length (part_of b ranges.at ranges.len)

    -- to the next child, or past the last one
    next_is :
        (way : Way) (f : Option ℕ) → Stands b n f
        → kids_script way table own length (at b n f) ++ (None ∷ after_on arm (root_at b n) way)
        ≡ None ∷ script b n block arm (child_next b n arm way (here (Children way)) f)
    unfolding script kids_script
    next_is way (Some q) h =
        rw
        (kids_head way table own length q (node_at b n q) h, value_part b own parent length (child_value b n way own length q), child_regions_lem b n way own length q)
        (rw (← rest_at b n q, append_assoc))
    next_is way None h = rw (after_is way)

    child_stands : (way : Way) (f : Option ℕ) → Stands b n (child_next b n arm way (here (Children way)) f).next
    child_stands way (Some q) = next_stands b n q
    child_stands way None = after_stands way

    rows_follow : (way : Way) (x : RegRow) → RowsLeft (entries (reg_of own length (part_of b value.at value.len))) row x
        → Follows b n block arm (here (Children way)) (row_step b n arm way (here (Children way)) x)
    unfolding script rows_script
    rows_follow way (RegAt r) e = follows_yield (claim_by way table r) (here (Children way)) (next_row (here (Children way))) (rw e) stands
    rows_follow way PastReg e = (rw (e, next_is way next stands), child_stands way next)
    rows_follow way NoReg e = (rw (e, next_is way next stands), child_stands way next)

    console_follows : Follows b n block arm (here Console) (yields (uart_claim (uart_of (root_at b n))) (enter_at b n Controllers))
    unfolding script console_on controllers_on after_on
    console_follows =
        follows_yield (uart_claim (uart_of (root_at b n))) (here Console) (enter_at b n Controllers) (rw (enter_is b n block arm Controllers))
        (enter_stands b n Controllers)

    stage_follows : (stage : Stage) → Follows b n block arm (here stage) (step_of b n block arm (here stage))
    unfolding step_of child_step script
    stage_follows Entries = entries_follow (entry_of block row) (entries_left block row)
    stage_follows (Children way) =
        let t = reg_of own length (part_of b value.at value.len) in
        rows_follow way (reg_row t row) (rows_left t row)
    stage_follows Virt = virt_follows
    stage_follows Console = console_follows
    stage_follows Over = refl

-- THE THEOREM: a step takes away the first of what is left, and the next child is a node where there is one
pub follows : (b n block : List ℕ) (arm : Bool) (c : Cursor) → Stands b n c.next → Follows b n block arm c (step_of b n block arm c)
follows b n block arm c s = stage_follows b n block arm c.row c.value c.next c.own.address c.parent c.own.size c.ranges s c.stage
