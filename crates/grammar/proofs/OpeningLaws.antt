-- What opening a tree says: each answer is given exactly when its condition holds, and a tree is opened exactly when its header is good,
-- its size is within the limit, and its structure block is the flattened form of a tree within the limits; of the others, the first
-- token at fault says which number is given. Assumes nothing.
use mathlib.Core.Path.{◌≡◌, refl, sym, ◌∙◌, ap, subst}
use mathlib.Core.Logic.{◌↔◌, ◌⊎◌, inl, inr, ⊎_elim}
use Prim.Native.Nat.{ℕ, ◌≤◌, ◌<◌}
use native.Mathlib.Omega.{arith}
use mathlib.Core.List.{List, ◌++◌}
use mathlib.Core.Bool.{Bool, true, false, cond}
use lib.ListN.{length}
use lib.Dec.{leb, eqb}
use borrow.Author.Tests.{eqb-true, eqb-false, leb-true, leb-false}
use Rattle.std.specs.Prelude.{Option, Some, None, Result, Ok, Err}
use Rattle.numbers.specs.Number.{Names}
use Rattle.numbers.proofs.Given.{given}
use Rattle.fdt.specs.Header.{totalsize, GoodHeader, good_header, structure_of, strings_of}
use Rattle.fdt.specs.Walk.{walked}
use Rattle.fdt.specs.Tree.{Property, Nodes, Tok}
use Rattle.fdt.specs.Grammar.{Block, Within}
use Rattle.fdt.specs.Opening.{opened_number, blocks_of, judged, opened_of}
use Rattle.fdt.specs.declared.Blocks.{Blocks}
use Rattle.words.proofs.BytesLaws.{never, cond_elim}
use Rattle.fdt.specs.declared.TreeFault.{TreeFault}
use Rattle.fdt.specs.declared.TreeFault.TheVariants.{BadHeader, OverLimit, BadStructure}
use Rattle.fdt.proofs.HeaderLaws.{good_header_lem, bad_header}
use Rattle.fdt.proofs.VerdictLaws.{says_none, says_header, says_large, says_walked}
use Rattle.grammar.specs.Faults.{Begins, BeginsWithin, Upto, here}
use Rattle.grammar.specs.Numbers.{HeaderBroken, OverLimits, StructureBroken, Opens}
use Rattle.grammar.proofs.GrammarLaws.{accepted_exactly}
use Rattle.grammar.proofs.FaultLaws.{no_header, broken_exactly, exceeds_exactly, grammar_over, no_grammar_broken}

-- 4, 5 and 6 name their cases
opened_names : Names opened_number
opened_names = record { back = refusal_of; named = each }
  where
    refusal_of : ℕ → Result (Option Blocks) TreeFault
    refusal_of n = cond (eqb n 4) (Err BadHeader) (cond (eqb n 5) (Err BadStructure) (Err OverLimit))

    each : (o : Result (Option Blocks) TreeFault) → (opened_number o ≡ 0) ⊎ (refusal_of (opened_number o) ≡ o)
    each (Ok None) = inl refl
    each (Ok (Some k)) = inl refl
    each (Err BadHeader) = inr refl
    each (Err OverLimit) = inr refl
    each (Err BadStructure) = inr refl

module _ (s : List ℕ) where
  -- what holds where this is the answer
  abbrev Says : Result (Option Blocks) TreeFault → Type 0
  Says (Ok None) = length s ≡ 0
  Says (Ok (Some k)) = GoodHeader s × (totalsize s ≤ 1048576) × (walked (structure_of s) (strings_of s) ≡ Ok tt) × (k ≡ blocks_of s)
  Says (Err BadHeader) = (length s ≡ 0 → ⊥) × (GoodHeader s → ⊥)
  Says (Err OverLimit) = GoodHeader s × ((1048576 < totalsize s) ⊎ ((totalsize s ≤ 1048576) × (walked (structure_of s) (strings_of s) ≡ Err OverLimit)))
  Says (Err BadStructure) = GoodHeader s × (totalsize s ≤ 1048576) × (walked (structure_of s) (strings_of s) ≡ Err BadStructure)

  judged_says : GoodHeader s → totalsize s ≤ 1048576 → (v : Result Unit TreeFault) → walked (structure_of s) (strings_of s) ≡ v → Says (judged v (blocks_of s))
  judged_says g l (Ok _) e = (g, l, e, refl)
  judged_says g l (Err BadHeader) e = absurd (no_header (structure_of s) (strings_of s) e)
  judged_says g l (Err BadStructure) e = (g, l, e)
  judged_says g l (Err OverLimit) e = (g, inr (l, e))

  no_test : good_header s ≡ false → GoodHeader s → ⊥
  no_test e g = let h : good_header s ≡ true = (good_header_lem s).1 g in never (cc)

  says : Says (opened_of s)
  unfolding opened_of
  says =
      cond_elim Says (eqb (length s) 0) _ _ (λ e. eqb-true _ _ e)
      (λ e. cond_elim Says (good_header s) _ _
      (λ t. cond_elim Says (leb (totalsize s) 1048576) _ _
      (λ l. judged_says ((good_header_lem s).0 t) (leb-true _ _ l) (walked (structure_of s) (strings_of s)) refl)
      (λ l. ((good_header_lem s).0 t, inl (leb-false _ _ l))))
      (λ t. (eqb-false _ _ e, no_test t)))

  says_of : (o : Result (Option Blocks) TreeFault) → opened_of s ≡ o → Says o
  says_of o e = subst Says e says

  -- and the answer, where it holds
  some_bytes : GoodHeader s → length s ≡ 0 → ⊥
  some_bytes g e = omega arith

  by_walk : (v : Result Unit TreeFault) → GoodHeader s → totalsize s ≤ 1048576 → walked (structure_of s) (strings_of s) ≡ v → opened_of s ≡ judged v (blocks_of s)
  by_walk v g l e = sym (says_walked s (some_bytes g) ((good_header_lem s).1 g) l) ∙ ap (λ (x : Result Unit TreeFault). judged x (blocks_of s)) e

  -- THE ANSWERS
  pub no_tree_exactly : (opened_of s ≡ Ok None) ↔ (length s ≡ 0)
  no_tree_exactly = (says_of (Ok None), (λ e. sym (says_none s e)))

  pub bad_header_exactly : (opened_of s ≡ Err BadHeader) ↔ HeaderBroken s
  bad_header_exactly = (says_of (Err BadHeader), (λ h. sym (says_header s h.0 (sym (bad_header s h.1)))))

  pub over_exactly : (opened_of s ≡ Err OverLimit) ↔ OverLimits s
  over_exactly =
      let x = exceeds_exactly (structure_of s) (strings_of s) in (
        (λ e. let h = says_of (Err OverLimit) e in (h.0, ⊎_elim (λ l. inl l) (λ w. inr (w.0, x.0 w.1)) h.1)),
        (λ h. ⊎_elim (λ l. sym (says_large s (some_bytes h.0) ((good_header_lem s).1 h.0) l)) (λ w. by_walk (Err OverLimit) h.0 w.0 (x.1 w.1)) h.1),
      )

  pub bad_structure_exactly : (opened_of s ≡ Err BadStructure) ↔ StructureBroken s
  bad_structure_exactly =
      let x = broken_exactly (structure_of s) (strings_of s) in (
        (λ e. let h = says_of (Err BadStructure) e in (h.0, h.1, x.0 h.2)),
        (λ h. by_walk (Err BadStructure) h.0 h.1 (x.1 h.2)),
      )

  pub opened_exactly : (opened_of s ≡ Ok (Some (blocks_of s))) ↔ Opens s
  opened_exactly = (
    (λ e. let h = says_of (Ok (Some (blocks_of s))) e in (h.0, h.1, (accepted_exactly (structure_of s) (strings_of s)).0 h.2)),
    (λ h. by_walk (Ok tt) h.0 h.1 ((accepted_exactly (structure_of s) (strings_of s)).1 h.2)),
  )

  -- whatever blocks are answered, they are those of the header
  pub opened_blocks : (k : Blocks) → opened_of s ≡ Ok (Some k) → k ≡ blocks_of s
  opened_blocks k e = (says_of (Ok (Some k)) e).3

  -- THE NUMBERS: "Given exactly when"

  -- none of them: no tree, or one that is opened
  pub number_0 : (opened_number (opened_of s) ≡ 0) ↔ ((length s ≡ 0) ⊎ Opens s)
  number_0 = (there (opened_of s) refl, λ h. ⊎_elim (λ e. ap opened_number (no_tree_exactly.1 e)) (λ w. ap opened_number (opened_exactly.1 w)) h)
    where
      there : (o : Result (Option Blocks) TreeFault) → opened_of s ≡ o → opened_number o ≡ 0 → (length s ≡ 0) ⊎ Opens s
      there (Ok None) e h = inl (no_tree_exactly.0 e)
      there (Ok (Some k)) e h = inr (opened_exactly.0 (e ∙ ap (λ (x : Blocks). Ok (Some x)) (opened_blocks k e)))
      there (Err BadHeader) e h = never (cc)
      there (Err OverLimit) e h = never (cc)
      there (Err BadStructure) e h = never (cc)

  pub number_4 : (opened_number (opened_of s) ≡ 4) ↔ HeaderBroken s
  number_4 = given opened_names (Err BadHeader) (λ z. omega arith) bad_header_exactly

  pub number_5 : (opened_number (opened_of s) ≡ 5) ↔ StructureBroken s
  number_5 = given opened_names (Err BadStructure) (λ z. omega arith) bad_structure_exactly

  pub number_6 : (opened_number (opened_of s) ≡ 6) ↔ OverLimits s
  number_6 = given opened_names (Err OverLimit) (λ z. omega arith) over_exactly

  -- a tree of the Specification that is not within the limits gives 6, and never 5
  pub grammar_6 : GoodHeader s → (root : ℕ) (ps : List Property) (kids : Nodes) → Block (structure_of s) (strings_of s) root ps kids
      → (Within (structure_of s) (strings_of s) kids → ⊥) → opened_number (opened_of s) ≡ 6
  grammar_6 g root ps kids k h = go (leb (totalsize s) 1048576) refl
    where
      go : (x : Bool) → leb (totalsize s) 1048576 ≡ x → opened_number (opened_of s) ≡ 6
      go true e =
          number_6.1 (g, inr (leb-true _ _ e, (exceeds_exactly (structure_of s) (strings_of s)).0 (grammar_over (structure_of s) (strings_of s) root ps kids k h)))
      go false e = number_6.1 (g, inl (leb-false _ _ e))

  -- what is no tree of the Specification gives 5, where all that is in order in it is within the limits
  pub no_grammar_5 : GoodHeader s → totalsize s ≤ 1048576 → ((root : ℕ) (ps : List Property) (kids : Nodes) → Block (structure_of s) (strings_of s) root ps kids → ⊥)
      → ((p : ℕ) (ts : List Tok) → Upto (structure_of s) (strings_of s) p ts → Begins (ts ++ here (structure_of s) (strings_of s) p) → BeginsWithin (structure_of s) (strings_of s) (ts ++ here (structure_of s) (strings_of s) p))
      → opened_number (opened_of s) ≡ 5
  no_grammar_5 g l h k =
      number_5.1 (g, l, (broken_exactly (structure_of s) (strings_of s)).0 (no_grammar_broken (structure_of s) (strings_of s) h k))
