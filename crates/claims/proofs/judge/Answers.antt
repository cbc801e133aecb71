-- `judge` meets its contract: the tests go in the order of the definition, and each is asked of the root. Assumes nothing.
use Rattle.claims.specs.Judging.{bad_reg, bad_ranges}
use Rattle.claims.proofs.JudgeLaws.{judged_rootless, of_root, judged_reg, judged_virt, judged_ranges}
use Rattle.claims.proofs.judge.Goals as goal

pub returns-in_default : goal.returns-in_default
returns-in_default c = judged_rootless _ _ _ c.path_offset.ensures _ c.in_default.is

pub returns-then-bad_reg : goal.returns-then-bad_reg
returns-then-bad_reg c = judged_reg _ _ _ (of_root _ _ _ c.path_offset.ensures _ c.in-Some.is bad_reg _ c.bad_reg.ensures) c.if-bad_reg.true

pub returns-then-is_qemu_virt : goal.returns-then-is_qemu_virt
returns-then-is_qemu_virt c =
    judged_virt _ _ _ (of_root _ _ _ c.path_offset.ensures _ c.in-Some.is bad_reg _ c.bad_reg.ensures) c.if-bad_reg.false _ c.is_qemu_virt.ensures c.if-is_qemu_virt.true

pub returns-then-bad_ranges : goal.returns-then-bad_ranges
returns-then-bad_ranges c =
    judged_ranges _ _ _ (of_root _ _ _ c.path_offset.ensures _ c.in-Some.is bad_reg _ c.bad_reg.ensures) c.if-bad_reg.false _ c.is_qemu_virt.ensures
    c.if-is_qemu_virt.false _ (of_root _ _ _ c.path_offset.ensures _ c.in-Some.is bad_ranges _ c.bad_ranges.ensures) _ c.if-bad_ranges.true

pub returns : goal.returns
returns c =
    judged_ranges _ _ _ (of_root _ _ _ c.path_offset.ensures _ c.in-Some.is bad_reg _ c.bad_reg.ensures) c.if-bad_reg.false _ c.is_qemu_virt.ensures
    c.if-is_qemu_virt.false _ (of_root _ _ _ c.path_offset.ensures _ c.in-Some.is bad_ranges _ c.bad_ranges.ensures) _ c.if-bad_ranges.false
