-- Document 01: "Where the strings block does not overlap the structure block, two trees that differ only in value bytes of properties other
-- than [the named ones] and those in /aliases give equal claims or the same refusal." And "Padding values don't matter." From the laws on the veiled tree (VeilClaims), and
-- from VeilLaws: both are opened alike, and their veiled trees are equal. Assumes nothing.
use Rattle.std.specs.Prelude.{Option, Some, None, Result, Ok, Err}
use mathlib.Core.Path.{◌≡◌, refl, sym, ◌∙◌, ap}
use Prim.Native.Nat.{ℕ, ◌+◌, ◌-◌, ◌≤◌, ◌<◌}
use native.Mathlib.Omega.{arith}
use mathlib.Core.Bool.{Bool, true, false}
use mathlib.Core.List.{List, [], ◌∷◌}
use lib.ListN.{length}
use lib.Seq.{ext_get_or}
use lib.Dec.{leb}
use borrow.Author.Tests.{leb-true, leb-false}
use Rattle.words.specs.Bytes.{part_of}
use Rattle.words.proofs.BytesLaws.{part_none, part_length, part_byte}
use Rattle.memory.specs.declared.MemoryMap.{MemoryMap}
use Rattle.fdt.specs.declared.Blocks.{Blocks}
use Rattle.fdt.specs.declared.TreeFault.{TreeFault}
use Rattle.fdt.specs.Header.{off_dt_struct, structure_of, strings_of}
use Rattle.fdt.specs.Tree.{Property, Nodes, tree_of}
use Rattle.fdt.specs.Opening.{blocks_of, opened_of}
use Rattle.grammar.specs.Veil.{Free, veil_k, Differs, PaddingDiffers, Apart}
use Rattle.grammar.proofs.OpeningLaws.{opened_blocks}
use Rattle.grammar.proofs.VeilLaws.{unfree, only_padding, same_opened, same_opened_tree}
use Rattle.reservations.specs.Reservations.{block_in, entries_of}
use Rattle.claims.specs.Claims.{claims_of}
use Rattle.claims.specs.Judging.{judged_of}
use Rattle.dtb.specs.declared.TreeRegistered.{TreeRegistered}
use Rattle.dtb.specs.Call.{opened_call, tree_registered}
use Rattle.value_bytes.specs.Unread.{AllKept, no_property, kept, Unread}
use Rattle.value_bytes.proofs.VeilShape.{unread_alike}
use Rattle.value_bytes.proofs.VeilClaims.{same_judged, same_claims}

-- ── Before the structure block there is no value ──
module _ (free : Free) (s u : List ℕ) (d : Differs free s u) where
  -- a part of which each byte stands there is the same; one of no bytes may stand anywhere, so that nobody need ask the reservation block's
  -- tests
  part_same : (at n : ℕ) → ((i : ℕ) → i < n → at + i < off_dt_struct s) → part_of s at n ≡ part_of u at n
  part_same at n before = go (leb (at + n) (length s)) refl
    where
      go : (b : Bool) → leb (at + n) (length s) ≡ b → part_of s at n ≡ part_of u at n
      go false e =
          let out : length s < at + n = leb-false _ _ e in
          let l = d.long in
          part_none s at n out ∙ sym (part_none u at n (omega arith))
      go true e =
          let fits : at + n ≤ length s = leb-true _ _ e in
          let l = d.long in
          let also : at + n ≤ length u = omega arith in
          let long = part_length s at n fits in
          ext_get_or 0 _ _ (long ∙ sym (part_length u at n also)) (λ i q.
          let in_part : i < n = omega arith in
          let front = before i in_part in
          part_byte s at n fits i in_part ∙ d.bytes (at + i) (omega arith) (λ v. let f = v.from in omega arith) (λ v. let f = v.from in omega arith)
          ∙ sym (part_byte u at n also i in_part))

  -- the reservation block ends where the structure block begins
  block_same : (k : Blocks) → opened_of s ≡ Ok (Some k) → block_in s k ≡ block_in u k
  unfolding block_in blocks_of
  block_same k e =
      rw (opened_blocks s k e, part_same (blocks_of s).reservations (off_dt_struct s - (blocks_of s).reservations) (λ i l. omega arith))

-- ── THE THEOREMS, on bytes ──
module _ (free : Free) (s u : List ℕ) (d : Differs free s u) (apart : Apart s)
    (k : Unread free (tree_of (structure_of s) (strings_of s))) where
  -- what does not look behind the veil of either tree is the same of both
  alike : {A : Type 0} (f : Nodes → A) → ((t : Nodes) → Unread free t → f (veil_k free t) ≡ f t)
      → f (tree_of (structure_of s) (strings_of s)) ≡ f (tree_of (structure_of u) (strings_of u))
  alike f law =
      let e = same_opened_tree free s u d apart in
      sym (law _ k) ∙ ap f e ∙ law _ (unread_alike free _ _ e k)

  -- both are refused for the same, or neither is
  pub same_judged_of_bytes : (arm : Bool)
      → judged_of arm (tree_of (structure_of s) (strings_of s)) ≡ judged_of arm (tree_of (structure_of u) (strings_of u))
  same_judged_of_bytes arm = alike (judged_of arm) (λ t h. same_judged h arm)

  -- where both are opened, they claim the same, in the same order
  pub same_claims_of_bytes : (arm : Bool) (j i : Blocks) → opened_of s ≡ Ok (Some j) → opened_of u ≡ Ok (Some i)
      → claims_of arm (entries_of (block_in s j)) (tree_of (structure_of s) (strings_of s))
      ≡ claims_of arm (entries_of (block_in u i)) (tree_of (structure_of u) (strings_of u))
  same_claims_of_bytes arm j i x y =
      let z = same_opened free s u d apart in
      let e : j ≡ i = cc in
      rw (← e, ← block_same free s u d j x)
      (alike (claims_of arm (entries_of (block_in s j))) (λ t h. same_claims h arm (entries_of (block_in s j))))

  -- the whole call: the same map, and the same answer
  pub same_call : (p : ℕ) (m : MemoryMap) (arm : Bool) → tree_registered p m s arm ≡ tree_registered p m u arm
  unfolding tree_registered
  same_call p m arm = rw (← same_opened free s u d apart) (go (opened_of s) refl)
    where
      go : (o : Result (Option Blocks) TreeFault) → opened_of s ≡ o → opened_call p m s arm o ≡ opened_call p m u arm o
      go (Ok None) e = refl
      go (Err _) e = refl
      go (Ok (Some j)) e =
          let there = sym (same_opened free s u d apart) ∙ e in
          rw (same_judged_of_bytes arm, same_claims_of_bytes arm j j e there)

  -- so the number that a caller gets is the same
  pub same_answer : (p : ℕ) (m : MemoryMap) (arm : Bool) → (tree_registered p m s arm).answer ≡ (tree_registered p m u arm).answer
  same_answer p m arm = ap (λ (r : TreeRegistered). r.answer) (same_call p m arm)

-- ── PADDING: no value is free, so that none is read ──
all_kept : (ps : List Property) → AllKept unfree ps
all_kept [] = no_property
all_kept (p ∷ ps) = kept refl (all_kept ps)

unread_none : (t : Nodes) → Unread unfree t
unread_none t =
    record {
      address_cell_count = λ q. refl;
      size_cell_count = λ q. refl;
      ranges = λ q. refl;
      reg = λ q. refl;
      status = λ q. refl;
      size = λ q. refl;
      alloc_ranges = λ q. refl;
      model = λ q. refl;
      stdout_path = λ q. refl;
      aliases = all_kept _;
    }

-- the whole call: the same map, and the same answer
pub padding_call : (s u : List ℕ) → PaddingDiffers s u → Apart s → (p : ℕ) (m : MemoryMap) (arm : Bool) → tree_registered p m s arm ≡ tree_registered p m u arm
padding_call s u d apart = same_call unfree s u (only_padding s u d) apart (unread_none _)
