-- `visit::next_claim` meets its contract, stage by stage. Assumes nothing.
use mathlib.Core.Path.{◌∙◌}
use Rattle.visit.proofs.CodeLaws.{at_stage}
use Rattle.visit.proofs.next_claim.Goals as goal

pub returns-in-Entries : goal.returns-in-Entries
returns-in-Entries c = c.visit_fdt_memory_reservations.ensures ∙ at_stage _ _ _ _ _ _ c.in-Entries.is

pub returns-in-Children : goal.returns-in-Children
returns-in-Children c = c.child_step.ensures ∙ at_stage _ _ _ _ _ _ c.in-Children.is

pub returns-in-Virt : goal.returns-in-Virt
returns-in-Virt c = c.virt_step.ensures ∙ at_stage _ _ _ _ _ _ c.in-Virt.is

pub returns-in-Console : goal.returns-in-Console
returns-in-Console c = c.console_step.ensures ∙ at_stage _ _ _ _ _ _ c.in-Console.is

pub returns-in-Over : goal.returns-in-Over
returns-in-Over c = at_stage _ _ _ _ _ _ c.in-Over.is
