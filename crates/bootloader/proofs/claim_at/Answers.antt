-- `claim_at` meets its contract: where a place is cut off at the largest number, the list has ended before it. Assumes nothing.
use mathlib.Core.Path.{◌≡◌, ◌∙◌}
use Prim.Native.Nat.{ℕ, ◌+◌, ◌*◌}
use native.Mathlib.Omega.{arith}
use Rattle.words.specs.Little.{eight}
use Rattle.words.proofs.LittleLaws.{eight_capped}
use Rattle.bootloader.proofs.claim_at.Goals as goal

pub returns : goal.returns
returns c =
    let l = c.args.list.now in
    let at = c.args.i * 24 in
    let p = c.saturating_mul-at.ensures in
    let q = c.saturating_add.ensures in
    let r = c.saturating_add-2.ensures in
    let long = c.type_inv.list in
    let base : c.le64.result ≡ eight l at = c.le64.ensures.is ∙ eight_capped l at _ (λ h. omega (arith, p, long)) (λ h. omega (arith, p, long)) in
    let size : c.le64-2.result ≡ eight l (at + 8) = c.le64-2.ensures.is ∙ eight_capped l (at + 8) _ (λ h. omega (arith, p, q, long)) (λ h. omega (arith, p, q, long)) in
    let kind : c.le64-3.result ≡ eight l (at + 16) = c.le64-3.ensures.is ∙ eight_capped l (at + 16) _ (λ h. omega (arith, p, r, long)) (λ h. omega (arith, p, r, long)) in
    rw (base, size, kind)
