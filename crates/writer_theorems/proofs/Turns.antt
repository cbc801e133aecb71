-- The reader's walk over the tokens of parts goes as the writer's place does, under any limits. Assumes nothing.
use mathlib.Core.Path.{◌≡◌, refl, ap}
use Prim.Native.Nat.{ℕ, zero, suc, ◌+◌, ◌-◌, ◌<◌}
use native.Mathlib.Omega.{arith}
use native.Mathlib.Numerals.{add-one}
use mathlib.Core.Bool.{Bool, true, false}
use mathlib.Core.List.{List, [], ◌∷◌}
use lib.ListN.{length}
use borrow.Author.Tests.{lt-leb, ne_eqb, eq-eqb}
use Rattle.std.specs.Prelude.{Ok}
use Rattle.fdt.specs.Tree.{Property, Tok, begin, ended, prop, fin}
use Rattle.grammar.proofs.TreeLaws.{run_l}

module _ (lv nd : ℕ) where
  pub run_root : (p : ℕ) (name : List ℕ) (ts : List Tok) (d n : ℕ) (a : Bool) → d ≡ 0 → n ≡ 0 → length name ≡ 0
      → run_l lv nd (begin p name ∷ ts) d n a ≡ run_l lv nd ts (d + 1) (n + 1) true
  unfolding run_l
  run_root p name ts d n a ed en l = rw (ed, en, eq-eqb _ _ l)

  pub run_begin : (p : ℕ) (name : List ℕ) (ts : List Tok) (d n : ℕ) (a : Bool) → (d ≡ 0 → ⊥) → d < lv → n < nd
      → run_l lv nd (begin p name ∷ ts) d n a ≡ run_l lv nd ts (d + 1) (n + 1) true
  unfolding run_l
  run_begin p name ts zero n a z h k = absurd (z refl)
  run_begin p name ts (suc d) n a z h k = rw (lt-leb lv (suc d) h, lt-leb _ _ k, ← add-one (suc d), ← add-one n)

  pub run_prop : (q : Property) (ts : List Tok) (d n : ℕ) (a : Bool) → a ≡ true → run_l lv nd (prop q ∷ ts) d n a ≡ run_l lv nd ts d n a
  unfolding run_l
  run_prop q ts d n a e = rw e

  pub run_end : (ts : List Tok) (d n : ℕ) (a : Bool) → (d ≡ 0 → ⊥) → run_l lv nd (ended ∷ ts) d n a ≡ run_l lv nd ts (d - 1) n false
  unfolding run_l
  run_end ts zero n a z = absurd (z refl)
  run_end ts (suc d) n a z = let q : d ≡ suc d - 1 = omega arith in ap (λ (k : ℕ). run_l lv nd ts k n false) q

  pub run_fin : (d n : ℕ) (a : Bool) → d ≡ 0 → (n ≡ 0 → ⊥) → run_l lv nd (fin ∷ []) d n a ≡ Ok tt
  unfolding run_l
  run_fin d n a e z = rw (e, ne_eqb _ _ z)
