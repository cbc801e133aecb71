-- `kind_of` reads the kind that has the number. Each arm of the match cites one law at its kind.
use native.Mathlib.Omega.{arith}
use Rattle.entry.specs.declared.BootloaderMemoryKind.TheVariants.{Null, Free, Reclaim, Reserved, Kernel, Device, IdentityMap}
use Rattle.entry.proofs.KindLaws.{known_at, unknown_at, none_of}
use Rattle.entry.proofs.kind_of.Goals as goal

pub returns-in-0 : goal.returns-in-0
returns-in-0 c = known_at Null _ (omega arith)

pub returns-in-1 : goal.returns-in-1
returns-in-1 c = known_at Free _ (omega arith)

pub returns-in-2 : goal.returns-in-2
returns-in-2 c = known_at Reclaim _ (omega arith)

pub returns-in-3 : goal.returns-in-3
returns-in-3 c = known_at Reserved _ (omega arith)

pub returns-in-256 : goal.returns-in-256
returns-in-256 c = known_at Kernel _ (omega arith)

pub returns-in-257 : goal.returns-in-257
returns-in-257 c = known_at Device _ (omega arith)

pub returns-in-258 : goal.returns-in-258
returns-in-258 c = known_at IdentityMap _ (omega arith)

pub returns-in_default : goal.returns-in_default
returns-in_default c =
    let w = c.in_default.in_default-own.rest in
    unknown_at _
    (none_of _
    (λ e. w.0.0.0.0.0.0.1 e)
    (λ e. w.0.0.0.0.0.1 e)
    (λ e. w.0.0.0.0.1 e)
    (λ e. w.0.0.0.1 e)
    (λ e. w.0.0.1 e)
    (λ e. w.0.1 e)
    (λ e. w.1 e))
