-- `visit::after` meets its contract, rule by rule. Assumes nothing.
use Rattle.visit.specs.Steps.{after_at}
use Rattle.visit.proofs.after.Goals as goal

pub returns-then-is_qemu_virt : goal.returns-then-is_qemu_virt
unfolding after_at
returns-then-is_qemu_virt c = rw (c.in-Reserve.is, ← c.is_qemu_virt.ensures, c.if-is_qemu_virt.true) c.start_at.ensures

pub returns-else-is_qemu_virt : goal.returns-else-is_qemu_virt
unfolding after_at
returns-else-is_qemu_virt c = rw (c.in-Reserve.is, ← c.is_qemu_virt.ensures, c.if-is_qemu_virt.false) c.enter.ensures

pub returns-in-Soc : goal.returns-in-Soc
unfolding after_at
returns-in-Soc c = rw c.in-Soc.is c.start_at-in-Soc.ensures

pub returns-in-Controllers : goal.returns-in-Controllers
unfolding after_at
returns-in-Controllers c = rw c.in-Controllers.is c.start_at-in-Controllers.ensures
