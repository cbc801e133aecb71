-- `is_qemu_virt` meets its contract: on the build for it, by the string in the root's `model`. Assumes nothing.
use borrow.Author.Rules.{rules}
use Rattle.claims.proofs.ClaimLaws.{virt_rootless, virt_nameless, virt_by}
use Rattle.claims.proofs.is_qemu_virt.Goals as goal

pub returns-in_default : goal.returns-in_default
returns-in_default c =
    virt_rootless _ _ _ c.path_offset.ensures _ (search rules) c.in_default.is

pub returns-in_default-string_of : goal.returns-in_default-string_of
returns-in_default-string_of c =
    virt_nameless _ _ _ c.path_offset.ensures _ (search rules) _ c.in-Some.is _ c.string_of.ensures
    c.in_default-string_of.is

pub returns : goal.returns
returns c =
    virt_by _ _ _ c.path_offset.ensures _ (search rules) _ c.in-Some.is _ c.string_of.ensures
    _ c.in-Some-string_of.is _ c.part.ensures _ c.holds.ensures
