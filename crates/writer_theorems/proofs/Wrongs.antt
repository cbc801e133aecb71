-- A call is in turn exactly when nothing is wrong with it, in the request's words. Assumes nothing.
use mathlib.Core.Path.{◌≡◌, refl, sym, ◌∙◌, ap, subst}
use Prim.Native.Nat.{ℕ, ◌<◌}
use native.Mathlib.Omega.{arith}
use mathlib.Core.Logic.{◌⊎◌, inl, inr, ⊎_elim}
use mathlib.Core.Bool.{Bool, true, false, cond, not, ◌&&◌}
use mathlib.Core.List.{List, [], ◌∷◌, ◌++◌, append_assoc}
use lib.ListN.{length}
use lib.Dec.{eqb, ltb}
use borrow.Author.Tests.{eqb-true, eqb-false, ltb-true, not-false}
use Rattle.words.specs.Bytes.{string_end}
use Rattle.words.proofs.BytesLaws.{never, first_is}
use Rattle.flattened.specs.Parts.{Part, begins, property, ends, part_tok}
use Rattle.writer.specs.declared.Writer.{Writer}
use Rattle.writer.specs.Writer.{Call, reserve, write, finish, no_zero, in_turn}
use Rattle.writer.proofs.Accepting.{begin_turn, property_turn, reserve_turn, finish_turn}
use Rattle.grammar.proofs.TurnLaws.{Raised}
use Rattle.writer_theorems.specs.History.{Account}
use Rattle.writer_theorems.specs.Refusals.{TreeOf, HasZero, Wrong, finished, out_of_turn, zero_in_name, zero_in_property, named_root, nothing_reserved, closing}
use Rattle.writer_theorems.proofs.Holding.{Holds, no_zero_lem}
use Rattle.writer_theorems.proofs.Stepping.{raised_passes}
use Rattle.writer_theorems.proofs.Finishing.{whole_tree}
use Rattle.writer_theorems.proofs.Turning.{part_tree, no_part, no_end}

-- ── Tests joined by && ──
-- the first that fails
which : (a b : Bool) → (a && b) ≡ false → (a ≡ false) ⊎ ((a ≡ true) × (b ≡ false))
which true b h = inr (refl, h)
which false b h = inl refl

pick : (a b c : Bool) → cond a (b && c) (not b) ≡ false → ((a ≡ true) × (b ≡ true → c ≡ false)) ⊎ ((a ≡ false) × (b ≡ true))
pick true true c h = inl (refl, (λ e. h))
pick true false c h = inl (refl, (λ e. never (cc)))
pick false true c h = inr (refl, refl)
pick false false c h = never (cc)

either : (a b : Bool) → (not a && not b) ≡ false → (a ≡ true) ⊎ (b ≡ true)
either true b h = inl refl
either false true h = inr refl
either false false h = never (cc)

-- a name that the test finds a zero byte in has one
has_zero : (name : List ℕ) → no_zero name ≡ false → HasZero name
has_zero name e =
    let l = ltb-true (string_end name 0) (length name) (not-false (ltb (string_end name 0) (length name)) e) in
    (string_end name 0, l, first_is 0 name 0 l)

nil_of : (l : List ℕ) → length l ≡ 0 → l ≡ []
nil_of [] h = refl
nil_of (x ∷ l) h = absurd (omega arith)

length_nil : (l : List ℕ) → l ≡ [] → length l ≡ 0
length_nil l e = ap length e

positive : (n : ℕ) → (n ≡ 0 → ⊥) → 0 < n
positive n h = omega arith

module _ (w : Writer) (buf : List ℕ) (a : Account) (h : Holds w buf a.entries a.parts) where
  abbrev Outside : Part → Type 0
  Outside x = (ys : List Part) → TreeOf (a.parts ++ (x ∷ ys)) → ⊥

  outside : (x : Part) → Outside x → Wrong a (write x)
  outside x o = out_of_turn o

  -- ── Out of turn: something is wrong ──
  wrong_reserve : (p z : ℕ) → in_turn w (reserve p z) ≡ false → Wrong a (reserve p z)
  unfolding in_turn
  wrong_reserve p z t = go (which (eqb w.nodes 0) (not (eqb p 0 && eqb z 0)) (rw h.going at t))
    where
      both_zero : (x y : Bool) → not (x && y) ≡ false → (x ≡ true) × (y ≡ true)
      both_zero true true e = (refl, refl)
      both_zero true false e = never (cc)
      both_zero false y e = never (cc)

      go : (eqb w.nodes 0 ≡ false) ⊎ ((eqb w.nodes 0 ≡ true) × (not (eqb p 0 && eqb z 0) ≡ false)) → Wrong a (reserve p z)
      go (inl e) = out_of_turn (λ n. eqb-false _ _ e (h.begun_none n))
      go (inr e) =
          let b = both_zero (eqb p 0) (eqb z 0) e.1 in
          subst (λ (q : ℕ). Wrong a (reserve q z)) (sym (eqb-true _ _ b.0)) (subst (λ (q : ℕ). Wrong a (reserve 0 q)) (sym (eqb-true _ _ b.1)) nothing_reserved)

  wrong_begin : (name : List ℕ) → in_turn w (write (begins name)) ≡ false → Wrong a (write (begins name))
  unfolding in_turn part_tok
  wrong_begin name t = go (which (no_zero name) _ (rw h.going at t))
    where
      go : (no_zero name ≡ false) ⊎ ((no_zero name ≡ true) × (cond (eqb w.nodes 0) (eqb w.depth 0 && eqb (length name) 0) (not (eqb w.depth 0)) ≡ false)) → Wrong a (write (begins name))
      go (inl e) = zero_in_name (has_zero name e)
      go (inr e) =
          ⊎_elim
          (λ k.
          let n = eqb-true _ _ k.0 in
          let l = eqb-false (length name) 0 (k.1 (eqb_of w.depth (h.outside n))) in
          named_root (h.bare n) (λ q. l (length_nil name q)))
          (λ k. outside (begins name) (no_part w buf a.entries a.parts h (begins name) (eqb-true _ _ k.1, inl (positive w.nodes (eqb-false _ _ k.0)))))
          (pick (eqb w.nodes 0) (eqb w.depth 0) (eqb (length name) 0) e.1)
        where
          eqb_of : (d : ℕ) → d ≡ 0 → eqb d 0 ≡ true
          eqb_of d q = rw q

  wrong_property : (name value : List ℕ) → in_turn w (write (property name value)) ≡ false → Wrong a (write (property name value))
  unfolding in_turn part_tok
  wrong_property name value t = go (which w.props (no_zero name) (rw h.going at t))
    where
      go : (w.props ≡ false) ⊎ ((w.props ≡ true) × (no_zero name ≡ false)) → Wrong a (write (property name value))
      go (inl e) = outside (property name value) (no_part w buf a.entries a.parts h (property name value) e)
      go (inr e) = zero_in_property (has_zero name e.1)

  wrong_end : in_turn w (write ends) ≡ false → Wrong a (write ends)
  unfolding in_turn part_tok
  wrong_end t = go (either (eqb w.nodes 0) (eqb w.depth 0) (rw h.going at t))
    where
      go : (eqb w.nodes 0 ≡ true) ⊎ (eqb w.depth 0 ≡ true) → Wrong a (write ends)
      go (inl e) = outside ends (no_part w buf a.entries a.parts h ends (h.outside (eqb-true _ _ e)))
      go (inr e) = outside ends (no_part w buf a.entries a.parts h ends (eqb-true _ _ e))

  wrong_finish : in_turn w finish ≡ false → Wrong a finish
  unfolding in_turn
  wrong_finish t = go (which (not (eqb w.nodes 0)) (eqb w.depth 0) (rw h.going at t))
    where
      go : (not (eqb w.nodes 0) ≡ false) ⊎ ((not (eqb w.nodes 0) ≡ true) × (eqb w.depth 0 ≡ false)) → Wrong a finish
      go (inl e) = out_of_turn (no_end w buf a.entries a.parts h (inr (eqb-true _ _ (not-false _ e))))
      go (inr e) = out_of_turn (no_end w buf a.entries a.parts h (inl (positive w.depth (eqb-false _ _ e.1))))

  pub wrong_of : (c : Call) → in_turn w c ≡ false → Wrong a c
  wrong_of (reserve p z) t = wrong_reserve p z t
  wrong_of (write (begins name)) t = wrong_begin name t
  wrong_of (write (property name value)) t = wrong_property name value t
  wrong_of (write ends) t = wrong_end t
  wrong_of finish t = wrong_finish t

  -- ── In turn: nothing is wrong ──
  raised : Raised 33 4097
  raised = record { high = omega arith; more = omega arith }

  pub goes_on : (x : Part) → in_turn w (write x) ≡ true → TreeOf (a.parts ++ (x ∷ closing (a.parts ++ (x ∷ []))))
  goes_on x t =
      let r = part_tree w buf a.entries a.parts h x t 33 4097 raised (raised_passes w x h.deep h.many) in
      record { props = r.0; kids = r.1; parts = sym (append_assoc a.parts (x ∷ []) (closing (a.parts ++ (x ∷ [])))) ∙ r.2 }

  pub right_of : a.finished ≡ false → (c : Call) → in_turn w c ≡ true → Wrong a c → ⊥
  right_of f c t (finished e) = never (cc)
  right_of f (reserve p z) t (out_of_turn o) = o (h.bare (reserve_turn w p z t).bare)
  right_of f (write x) t (out_of_turn o) = o (closing (a.parts ++ (x ∷ []))) (goes_on x t)
  right_of f finish t (out_of_turn o) =
      let r = whole_tree w buf a.entries a.parts h (finish_turn w t) in
      o (record { props = r.0; kids = r.1; parts = r.2 })
  right_of f (write (begins name)) t (zero_in_name z) = no_zero_lem name (begin_turn w name t).clean z.0 z.1 z.2
  right_of f (write (property name value)) t (zero_in_property z) = no_zero_lem name (property_turn w name value t).clean z.0 z.1 z.2
  right_of f (write (begins name)) t (named_root e n) =
      ⊎_elim (λ k. n (nil_of name k.2)) (λ k. k.0 (h.begun_none e)) (begin_turn w name t).which
  right_of f (reserve p z) t nothing_reserved = (reserve_turn w 0 0 t).some refl refl
