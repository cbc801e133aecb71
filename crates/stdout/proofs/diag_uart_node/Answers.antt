-- `stdout::diag_uart_node` meets its contract: the node of the name that /chosen's `stdout-path` has up to a colon. Assumes nothing.
use mathlib.Core.Path.{◌∙◌}
use Rattle.stdout.specs.Stdout.{stdout_by, stdout_in}
use Rattle.stdout.proofs.StdoutLaws.{root_is, stdout_rootless, stdout_named, string_nowhere, string_missing, string_here}
use Rattle.stdout.proofs.diag_uart_node.Goals as goal

pub returns-in_err-root : goal.returns-in_err-root
returns-in_err-root c = c.from_residual.ensures ∙ stdout_rootless _ _ _ c.path_offset.ensures c.in_err-root.was

pub returns-in_err-chosen : goal.returns-in_err-chosen
unfolding stdout_in
returns-in_err-chosen c =
    c.from_residual-in_err-chosen.ensures ∙
    string_nowhere _ _ _ (root_is _ _ _ c.path_offset.ensures _ c.in_ok-root.was) _ _ _ c.subnode.ensures stdout_by c.in_err-chosen.was

pub returns-in_err-path : goal.returns-in_err-path
unfolding stdout_in
returns-in_err-path c =
    c.from_residual-in_err-path.ensures ∙
    string_missing _ _ _ (root_is _ _ _ c.path_offset.ensures _ c.in_ok-root.was) _ _ _ c.subnode.ensures stdout_by _ c.in_ok-chosen.was _ c.string_of.ensures c.in_err-path.was

pub node_named-requires : goal.node_named-requires
node_named-requires c =
    root_is _ _ _ c.path_offset.ensures _ c.in_ok-root.was

pub returns : goal.returns
unfolding stdout_in
returns c =
    c.node_named.ensures ∙ stdout_named _ _ _ _ c.byte_from-colon.ensures c.part.ensures ∙
    string_here _ _ _ (root_is _ _ _ c.path_offset.ensures _ c.in_ok-root.was) _ _ _ c.subnode.ensures stdout_by _ c.in_ok-chosen.was _ c.string_of.ensures _ _ c.in_ok-path.was c.part-value.ensures
