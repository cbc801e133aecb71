-- kind_of finds the kind that has a number, exactly where one has it. Assumes nothing.
use Rattle.std.specs.Prelude.{Option, Some, None}
use mathlib.Core.Path.{◌≡◌, refl, sym}
use mathlib.Core.Bool.{Bool, true, false, cond}
use Prim.Native.Nat.{ℕ}
use native.Mathlib.Omega.{arith}
use lib.Dec.{eqb}
use borrow.Author.Tests.{eqb-true, eqb-false}
use Rattle.entry.specs.declared.BootloaderMemoryKind.{BootloaderMemoryKind}
use Rattle.entry.specs.declared.BootloaderMemoryKind.TheVariants.{Null, Free, Reclaim, Reserved, Kernel, Device, IdentityMap}
use Rattle.entry.specs.Kind.{number_of, IsKind, kind_of}

-- the two ways that reading a number goes
pub data Reads (n : ℕ) : Option BootloaderMemoryKind → Type 0 where
  known : (k : BootloaderMemoryKind) → number_of k ≡ n → Reads n (Some k)
  unknown : (IsKind n → ⊥) → Reads n None

test : (n : ℕ) (k : BootloaderMemoryKind) (rest : Option BootloaderMemoryKind) → ((n ≡ number_of k → ⊥) → Reads n rest)
    → Reads n (cond (eqb n (number_of k)) (Some k) rest)
test n k rest f = go (eqb n (number_of k)) refl
  where
    go : (t : Bool) → eqb n (number_of k) ≡ t → Reads n (cond t (Some k) rest)
    go true e = known k (sym (eqb-true _ _ e))
    go false e = f (eqb-false _ _ e)

-- a number that differs from all seven is no kind's
pub none_of : (n : ℕ) → (n ≡ 0 → ⊥) → (n ≡ 1 → ⊥) → (n ≡ 2 → ⊥) → (n ≡ 3 → ⊥) → (n ≡ 0x100 → ⊥) → (n ≡ 0x101 → ⊥) → (n ≡ 0x102 → ⊥) → IsKind n → ⊥
none_of n a b c d e f g i = go i.kind (sym i.number)
  where
    go : (k : BootloaderMemoryKind) → n ≡ number_of k → ⊥
    go Null q = a q
    go Free q = b q
    go Reclaim q = c q
    go Reserved q = d q
    go Kernel q = e q
    go Device q = f q
    go IdentityMap q = g q

pub reads : (n : ℕ) → Reads n (kind_of n)
unfolding kind_of
reads n =
    test n Null _ (λ a.
    test n Free _ (λ b.
    test n Reclaim _ (λ c.
    test n Reserved _ (λ d.
    test n Kernel _ (λ e.
    test n Device _ (λ f.
    test n IdentityMap _ (λ g.
    unknown (none_of n a b c d e f g))))))))

-- what is read is the kind that has the number
pub known_number : (n : ℕ) (k : BootloaderMemoryKind) → kind_of n ≡ Some k → number_of k ≡ n
known_number n k e = go (kind_of n) (reads n) e
  where
    go : (r : Option BootloaderMemoryKind) → Reads n r → r ≡ Some k → number_of k ≡ n
    go r (known j q) f = let same : j ≡ k = cc in rw (sym same) q
    go r (unknown q) f = absurd (let z : ◌≡◌ {A = ℕ} 0 1 = cc in omega arith)

-- every kind is read from its number
pub number_known : (k : BootloaderMemoryKind) → kind_of (number_of k) ≡ Some k
unfolding kind_of
number_known Null = refl
number_known Free = refl
number_known Reclaim = refl
number_known Reserved = refl
number_known Kernel = refl
number_known Device = refl
number_known IdentityMap = refl

pub known_at : (k : BootloaderMemoryKind) (n : ℕ) → n ≡ number_of k → Some k ≡ kind_of n
known_at k n e = rw (e, number_known k)

-- a number that no kind has is read as none
pub unknown_at : (n : ℕ) → (IsKind n → ⊥) → None ≡ kind_of n
unknown_at n f = go (kind_of n) (reads n)
  where
    go : (r : Option BootloaderMemoryKind) → Reads n r → None ≡ r
    go r (known k q) = absurd (f (record { kind = k; number = q }))
    go r (unknown q) = refl

-- and only such a number is
pub unknown_none : (n : ℕ) → kind_of n ≡ None → IsKind n → ⊥
unknown_none n e i =
    let k : kind_of n ≡ Some i.kind = rw (sym i.number) (number_known i.kind) in
    let z : ◌≡◌ {A = ℕ} 0 1 = cc in
    omega arith
