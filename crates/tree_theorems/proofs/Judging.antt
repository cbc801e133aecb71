-- What judging a tree says, in the words of 7 and 8: "Checked in this order", 7 before 8. Assumes nothing.
use Rattle.std.specs.Prelude.{Result, Ok, Err}
use mathlib.Core.Path.{◌≡◌, refl, subst}
use mathlib.Core.Logic.{◌↔◌}
use mathlib.Core.Bool.{Bool, true, false}
use Rattle.words.proofs.BytesLaws.{cond_elim, never}
use Rattle.fdt.specs.Tree.{Nodes}
use Rattle.claims.specs.declared.ValueFault.{ValueFault}
use Rattle.claims.specs.declared.ValueFault.TheVariants.{UnreadableReg, UnreadableRanges}
use Rattle.claims.specs.Claims.{is_virt}
use Rattle.claims.specs.Judging.{bad_reg, bad_ranges, judged_of}
use Rattle.tree_theorems.specs.Unreadable.{BadReserved, BadSoc}
use Rattle.tree_theorems.proofs.Unreadable.{bad_reg_exactly, bad_ranges_exactly}

-- a test fails exactly when what it says does not hold
fails : (x : Bool) {Holds : Type 0} → (x ≡ true) ↔ Holds → (x ≡ false) ↔ (Holds → ⊥)
fails true w = (λ e. never (cc), λ f. absurd (f (w.0 refl)))
fails false w = (λ e h. let z = w.1 h in never (cc), λ f. refl)

module _ (arm : Bool) (t : Nodes) where
  abbrev Judges : Result Unit ValueFault → Type 0
  Judges (Ok tt) = Unit {0}
  Judges (Err UnreadableReg) = bad_reg t ≡ true
  Judges (Err UnreadableRanges) = (bad_reg t ≡ false) × ((is_virt arm t ≡ false) × (bad_ranges t ≡ true))

  judges : (j : Result Unit ValueFault) → judged_of arm t ≡ j → Judges j
  unfolding judged_of
  judges j e =
      subst Judges e
      (cond_elim Judges (bad_reg t) _ _ (λ r. r)
      (λ r. cond_elim Judges (is_virt arm t) _ _ (λ v. tt)
      (λ v. cond_elim Judges (bad_ranges t) _ _ (λ g. (r, (v, g))) (λ g. tt))))

  no_reg_lem : bad_reg t ≡ true → judged_of arm t ≡ Err UnreadableReg
  unfolding judged_of
  no_reg_lem e = rw e

  no_ranges : bad_reg t ≡ false → (is_virt arm t ≡ false) × (bad_ranges t ≡ true) → judged_of arm t ≡ Err UnreadableRanges
  unfolding judged_of
  no_ranges e w = rw (e, w.0, w.1)

  pub judged_7 : (judged_of arm t ≡ Err UnreadableReg) ↔ BadReserved t
  judged_7 = (λ e. (bad_reg_exactly t).0 (judges (Err UnreadableReg) e), λ b. no_reg_lem ((bad_reg_exactly t).1 b))

  pub judged_8 : (judged_of arm t ≡ Err UnreadableRanges) ↔ ((BadReserved t → ⊥) × BadSoc arm t)
  judged_8 = (
    λ e. let w = judges (Err UnreadableRanges) e in ((fails (bad_reg t) (bad_reg_exactly t)).0 w.0, (bad_ranges_exactly arm t).0 w.1),
    λ w. no_ranges ((fails (bad_reg t) (bad_reg_exactly t)).1 w.0) ((bad_ranges_exactly arm t).1 w.1),
  )

  pub judged_0 : (judged_of arm t ≡ Ok tt) ↔ ((BadReserved t → ⊥) × (BadSoc arm t → ⊥))
  judged_0 = (
    λ e.
        let f : BadReserved t → ⊥ = λ b. let h = judged_7.1 b in never (cc) in
        (f, λ b. let h = judged_8.1 (f, b) in never (cc)),
    λ w. sound w (judged_of arm t) refl,
  )
    where
      sound : (BadReserved t → ⊥) × (BadSoc arm t → ⊥) → (j : Result Unit ValueFault) → judged_of arm t ≡ j → judged_of arm t ≡ Ok tt
      sound w (Ok tt) e = e
      sound w (Err UnreadableReg) e = absurd (w.0 (judged_7.0 e))
      sound w (Err UnreadableRanges) e = absurd (w.1 (judged_8.0 e).1)
