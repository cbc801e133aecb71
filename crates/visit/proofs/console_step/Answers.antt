-- `visit::console_step` meets its contract: the console's claim, where there is a console, and then the root's children. Assumes nothing.
use Rattle.visit.proofs.CodeLaws.{console_is}
use Rattle.visit.proofs.console_step.Goals as goal

pub returns-in-Some : goal.returns-in-Some
returns-in-Some c = rw c.number.ensures (console_is _ _ _ c.enter-next.ensures _ _ c.diag_uart_range.ensures c.in-Some.is)

pub returns-in-None : goal.returns-in-None
returns-in-None c = console_is _ _ _ c.enter-next.ensures _ _ c.diag_uart_range.ensures c.in-None.is
