-- `judge`: what each of its returns comes to, and what a claim and a table have that it does not refuse. Assumes nothing.
use Rattle.late_claim.specs.declared.LateRefusal.TheVariants.{UnknownKind, NotLate, BadTable}
use Rattle.std.specs.Prelude.{Option, Some, None, Ok, Err}
use mathlib.Core.Path.{◌≡◌, refl, ap, sym, ◌∙◌}
use mathlib.Core.List.{List}
use mathlib.Core.Bool.{Bool, true, false, cond, ◌||◌, true≢false}
use Prim.Native.Nat.{ℕ, ◌≤◌, ◌<◌}
use native.Mathlib.Omega.{arith}
use lib.Dec.{eqb, leb}
use borrow.Author.Tests.{eq-eqb, ne_eqb, eqb-false, leb-true, leb-false}
use Rattle.entry.specs.declared.BootloaderMemoryKind.{BootloaderMemoryKind}
use Rattle.entry.specs.Kind.{kind_of}
use Rattle.lent_table.specs.Table.{good_table}
use Rattle.late_claim.specs.Late.{late_number, never, kind_first, judged}

is_never : (kind : ℕ) → kind ≤ 1 → never kind ≡ true
unfolding never
is_never kind h = go (eqb kind 0) refl
  where
    go : (t : Bool) → eqb kind 0 ≡ t → (t || eqb kind 1) ≡ true
    go true e = refl
    go false e = eq-eqb kind 1 (let z = eqb-false kind 0 e in omega arith)

not_never : (kind : ℕ) → 1 < kind → never kind ≡ false
unfolding never
not_never kind h = rw (ne_eqb kind 0 (λ z. omega arith), ne_eqb kind 1 (λ z. omega arith))

late_kind : (kind : ℕ) → never kind ≡ false → 1 < kind
late_kind kind e = go (leb kind 1) refl
  where
    go : (t : Bool) → leb kind 1 ≡ t → 1 < kind
    go true h = absurd (true≢false (sym (is_never kind (leb-true kind 1 h)) ∙ e))
    go false h = leb-false kind 1 h

module _ (p kind n : ℕ) (l : List ℕ) where
  pub judged_unknown : None ≡ kind_of kind → (Err UnknownKind) ≡ judged p kind n l
  unfolding judged
  judged_unknown e = rw (← e)

  module _ {k : BootloaderMemoryKind} (e : Some k ≡ kind_of kind) where
    pub judged_never : kind ≤ 1 → (Err NotLate) ≡ judged p kind n l
    unfolding judged
    judged_never h = rw (← e, is_never kind h)

    module _ (late : 1 < kind) where
      pub judged_bad : good_table p n l ≡ false → (Err BadTable) ≡ judged p kind n l
      unfolding judged
      judged_bad h = rw (← e, not_never kind late, h)

      pub judged_done : good_table p n l ≡ true → (Ok tt) ≡ judged p kind n l
      unfolding judged
      judged_done h = rw (← e, not_never kind late, h)

  -- what is not refused: a kind that is neither Null nor Free, and a table
  pub record Checked : Type 0 where
    pub kind_is : BootloaderMemoryKind
    pub known : Some kind_is ≡ kind_of kind
    pub late : 1 < kind
    pub good : good_table p n l ≡ true

  pub checked : judged p kind n l ≡ Ok tt → Checked
  unfolding judged
  checked done = go (kind_of kind) (never kind) (good_table p n l) refl refl refl done
    where
      go : (r : Option BootloaderMemoryKind) (t b : Bool) → r ≡ kind_of kind → never kind ≡ t → good_table p n l ≡ b → kind_first r (cond t (Err NotLate) (cond b (Ok tt) (Err BadTable))) ≡ Ok tt → Checked
      go (Some k) false true e f g d = record { kind_is = k; known = e; late = late_kind kind f; good = g }
      go (Some k) false false e f g d = absurd (omega (arith, ap late_number d))
      go (Some k) true b e f g d = absurd (omega (arith, ap late_number d))
      go None t b e f g d = absurd (omega (arith, ap late_number d))
