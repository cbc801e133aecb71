-- Slots in which the last of those that count moved into an emptied one. Assumes nothing.
use mathlib.Core.Path.{◌≡◌, refl, ap, sym, ◌∙◌}
use mathlib.Core.Bool.{Bool, true, false, cond}
use Prim.Native.Nat.{ℕ, suc, ◌<◌, ◌≤◌}
use native.Mathlib.Omega.{arith}
use lib.Dec.{eqb}
use lib.ListN.{length-set}
use lib.Seq.{get_or-set_same, get_or-set_other}
use borrow.Author.Tests.{eq-eqb, ne_eqb, eqb-true, eqb-false}
use Rattle.entry.specs.declared.MemoryEntry.{MemoryEntry}
use Rattle.memory.specs.Map.{Slots, vacant, at, put}
use Rattle.memory.specs.Made.{Full}

-- where what stands in slot j came from, when the last moved into slot i
unfoldable pub from : ℕ → ℕ → ℕ → ℕ
from i last j = cond (eqb j i) last j

pub from_same : (i last : ℕ) → from i last i ≡ last
unfolding from
from_same i last = rw (eq-eqb i i refl)

pub from_other : (i last j : ℕ) → (j ≡ i → ⊥) → from i last j ≡ j
unfolding from
from_other i last j n = rw (ne_eqb j i n)

-- by cases: j is i, or not
pub at_or_not : (i j : ℕ) (P : Type 0) → (j ≡ i → P) → ((j ≡ i → ⊥) → P) → P
at_or_not i j P f g = go (eqb j i) refl
  where
    go : (t : Bool) → eqb j i ≡ t → P
    go true e = f (eqb-true j i e)
    go false e = g (eqb-false j i e)

pub from_below : (i last j : ℕ) → j < last → from i last j < suc last
from_below i last j h =
    at_or_not i j (from i last j < suc last)
    (λ e. rw e (rw from_same (omega arith)))
    (λ n. rw (from_other i last j n) (omega arith))

pub from_misses : (i last j : ℕ) → j < last → from i last j ≡ i → ⊥
from_misses i last j h e =
    at_or_not i j ⊥
    (λ q. omega (arith, from_same i last, ap (from i last) q))
    (λ n. omega (arith, n, from_other i last j n))

pub from_apart : (i last a b : ℕ) → a < last → b < last → (a ≡ b → ⊥) → from i last a ≡ from i last b → ⊥
from_apart i last a b ha hb n e =
    at_or_not i a ⊥
    (λ q. at_or_not i b ⊥ (λ r. omega arith) (λ r. omega (arith, from_same i last, ap (from i last) q, from_other i last b r)))
    (λ q. at_or_not i b ⊥
    (λ r. omega (arith, from_same i last, ap (from i last) r, from_other i last a q))
    (λ r. omega (arith, from_other i last b r, from_other i last a q)))

-- every slot but i is where something came from
pub record Came (i last m : ℕ) : Type 0 where
  pub slot : ℕ
  pub below : slot < last
  pub there : from i last slot ≡ m

pub from_onto : (i last m : ℕ) → i ≤ last → m < suc last → (m ≡ i → ⊥) → Came i last m
from_onto i last m hi hm n =
    at_or_not last m (Came i last m)
    (λ e. record { slot = i; below = omega arith; there = from_same i last ∙ sym e })
    (λ k. record { slot = m; below = omega arith; there = from_other i last m n })

pub full_put : (l : Slots) (i : ℕ) (e : MemoryEntry) → Full l → Full (put l i e)
unfolding put
full_put l i e f = simp length-set f

pub at_put_same : (l : Slots) (i : ℕ) (e : MemoryEntry) → Full l → i < 512 → at (put l i e) i ≡ e
unfolding at put
at_put_same l i e f h = get_or-set_same l i e vacant (omega (arith, f))

pub at_put_other : (l : Slots) (i j : ℕ) (e : MemoryEntry) → (j ≡ i → ⊥) → at (put l i e) j ≡ at l j
unfolding at put
at_put_other l i j e n = get_or-set_other l i j e vacant n

pub at_moved : (l : Slots) (i last j : ℕ) → Full l → i < 512 → at (put l i (at l last)) j ≡ at l (from i last j)
at_moved l i last j f h =
    at_or_not i j (at (put l i (at l last)) j ≡ at l (from i last j))
    (λ e. rw (e, from_same, at_put_same l i _ f h))
    (λ n. rw (from_other i last j n, at_put_other l i j _ n))
