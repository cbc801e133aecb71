-- `stdout::diag_uart_range` meets its contract: where the stdout node has `compatible`, its first `reg` entry, translated. Assumes nothing.
use mathlib.Core.Path.{sym, ◌∙◌, ap}
use Rattle.stdout.specs.Stdout.{uart_at}
use Rattle.stdout.proofs.StdoutLaws.{uart_nowhere, uart_incompatible, uart_translated}
use Rattle.stdout.proofs.diag_uart_range.Goals as goal

pub returns-in_err-uart : goal.returns-in_err-uart
returns-in_err-uart c = c.from_residual.ensures ∙ uart_nowhere _ _ _ c.diag_uart_node.ensures c.in_err-uart.was

pub returns-in_err-getprop : goal.returns-in_err-getprop
returns-in_err-getprop c =
    c.from_residual-in_err-getprop.ensures ∙
    uart_incompatible _ _ _ c.diag_uart_node.ensures _ c.in_ok-uart.was _ c.getprop.ensures c.in_err-getprop.was

pub returns-in_err-found : goal.returns-in_err-found
returns-in_err-found c =
    c.from_residual-in_err-found.ensures ∙ ap uart_at (sym c.in_err-found.was) ∙
    uart_translated _ _ _ c.diag_uart_node.ensures _ c.in_ok-uart.was _ c.getprop.ensures _ _ c.in_ok-getprop.was c.translate_mmio_address.ensures

pub returns : goal.returns
returns c =
    ap uart_at (sym c.in_ok-found.was) ∙
    uart_translated _ _ _ c.diag_uart_node.ensures _ c.in_ok-uart.was _ c.getprop.ensures _ _ c.in_ok-getprop.was c.translate_mmio_address.ensures
