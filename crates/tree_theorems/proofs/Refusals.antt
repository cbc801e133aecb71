-- Each number of the tree's call is given exactly when document 01 says so, and no refusal changes the map. Assumes nothing.
use Rattle.std.specs.Prelude.{Option, Some, None, Result, Ok, Err}
use mathlib.Core.Path.{◌≡◌, refl, sym, ◌∙◌, ap, subst}
use mathlib.Core.Logic.{◌↔◌, ◌⊎◌, inl, inr}
use mathlib.Core.Bool.{Bool, cond}
use mathlib.Core.List.{List}
use Prim.Native.Nat.{ℕ}
use native.Mathlib.Omega.{arith}
use lib.ListN.{length}
use lib.Dec.{eqb}
use Rattle.numbers.specs.Number.{Names}
use Rattle.numbers.proofs.Given.{given}
use Rattle.words.proofs.BytesLaws.{never}
use Rattle.page.specs.Round.{Page}
use Rattle.entry.specs.declared.Claim.{Claim}
use Rattle.memory.specs.declared.MemoryMap.{MemoryMap}
use Rattle.memory.specs.declared.MapRefusal.{MapRefusal}
use Rattle.memory.specs.declared.MapRefusal.TheVariants.{UnknownKind, MapFull as RunFull}
use Rattle.memory.specs.declared.Registered.{Registered}
use Rattle.memory.specs.Map.{answer_number}
use Rattle.memory.specs.Made.{Made}
use Rattle.memory.specs.Run.{is_done, registered_all}
use Rattle.runs.specs.Refusals.{Overflows}
use Rattle.runs.proofs.Runs.{done_or}
use Rattle.runs.proofs.Refusals.{run_known, run_full}
use Rattle.fdt.specs.declared.Blocks.{Blocks}
use Rattle.fdt.specs.declared.TreeFault.{TreeFault}
use Rattle.fdt.specs.declared.TreeFault.TheVariants as form
use Rattle.fdt.specs.Header.{structure_of, strings_of}
use Rattle.fdt.specs.Tree.{Nodes, tree_of}
use Rattle.fdt.specs.Opening.{blocks_of, opened_of}
use Rattle.grammar.specs.Numbers.{HeaderBroken, OverLimits, StructureBroken, Opens}
use Rattle.grammar.proofs.OpeningLaws.{no_tree_exactly, bad_header_exactly, over_exactly, bad_structure_exactly, opened_exactly, opened_blocks}
use Rattle.reservations.specs.Reservations.{block_in, entries_of}
use Rattle.claims.specs.declared.ValueFault.{ValueFault}
use Rattle.claims.specs.declared.ValueFault.TheVariants as value
use Rattle.claims.specs.Claims.{claims_of}
use Rattle.claims.specs.Judging.{judged_of}
use Rattle.dtb.specs.declared.TreeRefusal.{TreeRefusal}
use Rattle.dtb.specs.declared.TreeRefusal.TheVariants.{BadHeader, OverLimit, BadStructure, UnreadableReg, UnreadableRanges, MapFull}
use Rattle.dtb.specs.declared.TreeRegistered.{TreeRegistered}
use Rattle.dtb.specs.Call.{tree_number, settled_tree, judged_call, opened_call, tree_registered}
use Rattle.dtb.proofs.CallLaws.{settled_done, settled_refused, call_opened, call_judged}
use Rattle.tree_theorems.specs.Unreadable.{BadReserved, BadSoc}
use Rattle.tree_theorems.proofs.ClaimKinds.{claims_known}
use Rattle.tree_theorems.proofs.Judging.{judged_7, judged_8, judged_0}

-- what is left of an answer that is neither done nor 1
full_left : (a : Result Unit MapRefusal) → (a ≡ Ok tt → ⊥) → (a ≡ Err UnknownKind → ⊥) → a ≡ Err RunFull
full_left (Ok tt) f g = absurd (f refl)
full_left (Err UnknownKind) f g = absurd (g refl)
full_left (Err RunFull) f g = refl

-- the numbers name their cases
tree_names : Names tree_number
tree_names = record { back = refusal_of; named = each }
  where
    refusal_of : ℕ → Result Unit TreeRefusal
    refusal_of n =
        cond (eqb n 4) (Err BadHeader)
        (cond (eqb n 6) (Err OverLimit)
        (cond (eqb n 5) (Err BadStructure)
        (cond (eqb n 7) (Err UnreadableReg)
        (cond (eqb n 8) (Err UnreadableRanges) (Err MapFull)))))

    each : (a : Result Unit TreeRefusal) → (tree_number a ≡ 0) ⊎ (refusal_of (tree_number a) ≡ a)
    each (Ok tt) = inl refl
    each (Err BadHeader) = inr refl
    each (Err OverLimit) = inr refl
    each (Err BadStructure) = inr refl
    each (Err UnreadableReg) = inr refl
    each (Err UnreadableRanges) = inr refl
    each (Err MapFull) = inr refl

module _ (p : ℕ) (m : MemoryMap) (s : List ℕ) (arm : Bool) where
  abbrev tree : Nodes
  tree = tree_of (structure_of s) (strings_of s)

  abbrev claims : List Claim
  claims = claims_of arm (entries_of (block_in s (blocks_of s))) tree

  abbrev run : Registered
  run = registered_all p m claims

  abbrev call : TreeRegistered
  call = tree_registered p m s arm

  abbrev IsTree : Type 0
  IsTree = opened_of s ≡ Ok (Some (blocks_of s))

  -- why a tree is refused
  abbrev Why : TreeRefusal → Type 0
  Why BadHeader = opened_of s ≡ Err form.BadHeader
  Why OverLimit = opened_of s ≡ Err form.OverLimit
  Why BadStructure = opened_of s ≡ Err form.BadStructure
  Why UnreadableReg = IsTree × (judged_of arm tree ≡ Err value.UnreadableReg)
  Why UnreadableRanges = IsTree × (judged_of arm tree ≡ Err value.UnreadableRanges)
  Why MapFull = IsTree × (judged_of arm tree ≡ Ok tt) × (run.answer ≡ Ok tt → ⊥)

  -- what holds where this is the map and this the answer
  abbrev Says : MemoryMap → Result Unit TreeRefusal → Type 0
  Says n (Ok tt) = IsTree → (run.answer ≡ Ok tt) × (n ≡ run.map)
  Says n (Err r) = (n ≡ m) × Why r

  abbrev SaysOf : TreeRegistered → Type 0
  SaysOf r = Says r.map r.answer

  by_judging : IsTree → (j : Result Unit ValueFault) → judged_of arm tree ≡ j → SaysOf (judged_call m j run)
  by_judging o (Ok tt) e =
      done_or run.answer (SaysOf (settled_tree m run))
      (λ d. subst SaysOf (sym (settled_done m run (ap is_done d))) (λ t. (d, refl)))
      (λ f d. subst SaysOf (sym (settled_refused m run d)) (refl, (o, e, f)))
  by_judging o (Err value.UnreadableReg) e = (refl, (o, e))
  by_judging o (Err value.UnreadableRanges) e = (refl, (o, e))

  by_opening : (o : Result (Option Blocks) TreeFault) → opened_of s ≡ o → SaysOf (opened_call p m s arm o)
  by_opening (Ok None) e = λ t. never (cc)
  by_opening (Err form.BadHeader) e = (refl, e)
  by_opening (Err form.OverLimit) e = (refl, e)
  by_opening (Err form.BadStructure) e = (refl, e)
  by_opening (Ok (Some k)) e =
      let b = opened_blocks s k e in
      subst (λ (x : Blocks). SaysOf (opened_call p m s arm (Ok (Some x)))) (sym b) (by_judging (e ∙ ap Ok (ap Some b)) (judged_of arm tree) refl)

  says : SaysOf call
  says = subst SaysOf (sym (call_opened p m s arm (opened_of s) refl)) (by_opening (opened_of s) refl)

  says_of : (a : Result Unit TreeRefusal) → call.answer ≡ a → Says call.map a
  says_of a e = subst (Says call.map) e says

  -- and the call, by what opening and judging say
  opened : (o : Result (Option Blocks) TreeFault) → opened_of s ≡ o → call ≡ opened_call p m s arm o
  opened o e = call_opened p m s arm o (sym e)

  judged : IsTree → (j : Result Unit ValueFault) → j ≡ judged_of arm tree → call ≡ judged_call m j run
  judged o j e = call_judged p m s arm (blocks_of s) j (sym o) e

  abbrev answer : TreeRegistered → Result Unit TreeRefusal
  answer r = r.answer

  -- by the answer's case, as opening and judging say
  header_case : (call.answer ≡ Err BadHeader) ↔ HeaderBroken s
  header_case =
      let x = bad_header_exactly s in
      (λ e. x.0 (says_of (Err BadHeader) e).1, λ h. ap answer (opened (Err form.BadHeader) (x.1 h)))

  over_case : (call.answer ≡ Err OverLimit) ↔ OverLimits s
  over_case =
      let x = over_exactly s in
      (λ e. x.0 (says_of (Err OverLimit) e).1, λ h. ap answer (opened (Err form.OverLimit) (x.1 h)))

  structure_case : (call.answer ≡ Err BadStructure) ↔ StructureBroken s
  structure_case =
      let x = bad_structure_exactly s in
      (λ e. x.0 (says_of (Err BadStructure) e).1, λ h. ap answer (opened (Err form.BadStructure) (x.1 h)))

  -- a case that judging gives
  by_case : (a : Result Unit TreeRefusal) (j : Result Unit ValueFault) {When : Type 0} → (Says call.map a → IsTree × (judged_of arm tree ≡ j)) → (judged_call m j run).answer ≡ a
      → (judged_of arm tree ≡ j) ↔ When → (call.answer ≡ a) ↔ (Opens s × When)
  by_case a j f g w = (
    λ e. let x = f (says_of a e) in ((opened_exactly s).0 x.0, w.0 x.1),
    λ y. ap answer (judged ((opened_exactly s).1 y.0) j (sym (w.1 y.1))) ∙ g,
  )

  full_case : Page p → Made p m
      → (call.answer ≡ Err MapFull) ↔ (Opens s × ((BadReserved tree → ⊥) × (BadSoc arm tree → ⊥)) × Overflows p m claims)
  full_case g h = (
    λ e.
        let w = (says_of (Err MapFull) e).1 in
        let f = full_left run.answer w.2 (run_known p m claims (claims_known arm _ tree)) in
        ((opened_exactly s).0 w.0, (judged_0 arm tree).0 w.1, (run_full p m claims g h).0 f),
    λ w.
        let f = (run_full p m claims g h).1 w.2 in
        ap answer (judged ((opened_exactly s).1 w.0) (Ok tt) (sym ((judged_0 arm tree).1 w.1)) ∙ settled_refused m run (ap is_done f)),
  )

  -- THE NUMBERS: "Given exactly when"
  pub number_4 : (tree_number (tree_registered p m s arm).answer ≡ 4) ↔ HeaderBroken s
  number_4 = given tree_names (Err BadHeader) (λ z. omega arith) header_case

  pub number_6 : (tree_number (tree_registered p m s arm).answer ≡ 6) ↔ OverLimits s
  number_6 = given tree_names (Err OverLimit) (λ z. omega arith) over_case

  pub number_5 : (tree_number (tree_registered p m s arm).answer ≡ 5) ↔ StructureBroken s
  number_5 = given tree_names (Err BadStructure) (λ z. omega arith) structure_case

  pub number_7 : (tree_number (tree_registered p m s arm).answer ≡ 7) ↔ (Opens s × BadReserved tree)
  number_7 = given tree_names (Err UnreadableReg) (λ z. omega arith) (by_case (Err UnreadableReg) (Err value.UnreadableReg) (λ w. w.1) refl (judged_7 arm tree))

  pub number_8 : (tree_number (tree_registered p m s arm).answer ≡ 8) ↔ (Opens s × ((BadReserved tree → ⊥) × BadSoc arm tree))
  number_8 = given tree_names (Err UnreadableRanges) (λ z. omega arith) (by_case (Err UnreadableRanges) (Err value.UnreadableRanges) (λ w. w.1) refl (judged_8 arm tree))

  -- the claims of a tree that is judged sound overflow the map
  pub number_2 : Page p → Made p m
      → (tree_number (tree_registered p m s arm).answer ≡ 2)
      ↔ (Opens s × ((BadReserved tree → ⊥) × (BadSoc arm tree → ⊥)) × Overflows p m claims)
  number_2 g h = given tree_names (Err MapFull) (λ z. omega arith) (full_case g h)

  -- "0 is done": no tree, or one that none of them holds of
  pub number_0 : Page p → Made p m
      → (tree_number (tree_registered p m s arm).answer ≡ 0)
      ↔ ((length s ≡ 0) ⊎ (Opens s × ((BadReserved tree → ⊥) × (BadSoc arm tree → ⊥)) × (Overflows p m claims → ⊥)))
  number_0 g h = (there (opened_of s) refl, λ w. back call.answer refl w)
    where
      -- none of the refusals holds where 0 is given
      not_n : (k : ℕ) {When : Type 0} → (k ≡ 0 → ⊥) → (tree_number call.answer ≡ k) ↔ When → tree_number call.answer ≡ 0 → When → ⊥
      not_n k f w z h = f (sym (w.1 h) ∙ z)

      sound : Opens s → tree_number call.answer ≡ 0 → (BadReserved tree → ⊥) × (BadSoc arm tree → ⊥)
      sound o z =
          let f : BadReserved tree → ⊥ = λ b. not_n 7 (λ e. omega arith) number_7 z (o, b) in
          (f, λ b. not_n 8 (λ e. omega arith) number_8 z (o, (f, b)))

      there : (x : Result (Option Blocks) TreeFault) → opened_of s ≡ x → tree_number call.answer ≡ 0
          → (length s ≡ 0) ⊎ (Opens s × ((BadReserved tree → ⊥) × (BadSoc arm tree → ⊥)) × (Overflows p m claims → ⊥))
      there (Ok None) e z = inl ((no_tree_exactly s).0 e)
      there (Err form.BadHeader) e z = absurd (not_n 4 (λ i. omega arith) number_4 z ((bad_header_exactly s).0 e))
      there (Err form.OverLimit) e z = absurd (not_n 6 (λ i. omega arith) number_6 z ((over_exactly s).0 e))
      there (Err form.BadStructure) e z = absurd (not_n 5 (λ i. omega arith) number_5 z ((bad_structure_exactly s).0 e))
      there (Ok (Some k)) e z =
          let o : Opens s = (opened_exactly s).0 (e ∙ ap Ok (ap Some (opened_blocks s k e))) in
          let w = sound o z in
          inr (o, w, λ f. not_n 2 (λ i. omega arith) (number_2 g h) z (o, w, f))

      back : (a : Result Unit TreeRefusal) → call.answer ≡ a
          → (length s ≡ 0) ⊎ (Opens s × ((BadReserved tree → ⊥) × (BadSoc arm tree → ⊥)) × (Overflows p m claims → ⊥)) → tree_number call.answer ≡ 0
      back a e (inl l) = ap tree_number (ap answer (opened (Ok None) ((no_tree_exactly s).1 l)))
      back a e (inr (o, w, f)) =
          let c = judged ((opened_exactly s).1 o) (Ok tt) (sym ((judged_0 arm tree).1 w)) in
          done_or run.answer _
          (λ d. ap tree_number (ap answer (c ∙ settled_done m run (ap is_done d))))
          (λ n d. absurd (f ((run_full p m claims g h).0 (full_left run.answer n (run_known p m claims (claims_known arm _ tree))))))

  -- 0 is the number of one case
  done_of : (a : Result Unit TreeRefusal) → tree_number a ≡ 0 → a ≡ Ok tt
  done_of (Ok tt) z = refl
  done_of (Err BadHeader) z = never (cc)
  done_of (Err OverLimit) z = never (cc)
  done_of (Err BadStructure) z = never (cc)
  done_of (Err UnreadableReg) z = never (cc)
  done_of (Err UnreadableRanges) z = never (cc)
  done_of (Err MapFull) z = never (cc)

  -- done: the claims of an opened tree are all registered, in their order
  pub done_registers : Opens s → tree_number (tree_registered p m s arm).answer ≡ 0
      → (answer_number (registered_all p m claims).answer ≡ 0) × ((tree_registered p m s arm).map ≡ (registered_all p m claims).map)
  done_registers o z = let w = says_of (Ok tt) (done_of call.answer z) ((opened_exactly s).1 o) in (ap answer_number w.0, w.1)

  -- "A tree of 0 bytes is no tree.": done, and nothing is registered
  pub no_tree : length s ≡ 0 → (tree_number (tree_registered p m s arm).answer ≡ 0) × ((tree_registered p m s arm).map ≡ m)
  no_tree l = rw (opened (Ok None) ((no_tree_exactly s).1 l)) (refl, refl)

  -- a refused tree gives back the map as at its call
  pub refused_keeps : (tree_number (tree_registered p m s arm).answer ≡ 0 → ⊥) → (tree_registered p m s arm).map ≡ m
  refused_keeps f = kept call.answer says f
    where
      kept : (a : Result Unit TreeRefusal) → Says call.map a → (tree_number a ≡ 0 → ⊥) → call.map ≡ m
      kept (Ok tt) w f = absurd (f refl)
      kept (Err r) w f = w.0
