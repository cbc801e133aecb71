-- The kinds and their numbers: document 01, "Rounding and the map".
use Rattle.std.specs.Prelude.{◌≡◌, cond, ℕ, eqb, Option, Some, None}
use Rattle.entry.specs.declared.BootloaderMemoryKind.{BootloaderMemoryKind}
use Rattle.entry.specs.declared.BootloaderMemoryKind.TheVariants.{Null, Free, Reclaim, Reserved, Kernel, Device, IdentityMap}

-- "Kinds: 0 Null, 1 Free, 2 Reclaim, 3 Reserved, 0x100 Kernel, 0x101 Device, 0x102 IdentityMap."
abbrev pub number_of : BootloaderMemoryKind → ℕ
number_of Null = 0
number_of Free = 1
number_of Reclaim = 2
number_of Reserved = 3
number_of Kernel = 0x100
number_of Device = 0x101
number_of IdentityMap = 0x102

-- a number that is one of the seven
pub record IsKind (n : ℕ) : Type 0 where
  pub kind : BootloaderMemoryKind
  pub number : number_of kind ≡ n

-- the kind that has the number, where one has it. KindLaws.known_number, number-known and unknown-none tie it to number_of
unfoldable pub kind_of : ℕ → Option BootloaderMemoryKind
kind_of n =
    cond (eqb n 0) (Some Null)
    (cond (eqb n 1) (Some Free)
    (cond (eqb n 2) (Some Reclaim)
    (cond (eqb n 3) (Some Reserved)
    (cond (eqb n 0x100) (Some Kernel)
    (cond (eqb n 0x101) (Some Device)
    (cond (eqb n 0x102) (Some IdentityMap) None))))))
