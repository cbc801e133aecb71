-- `stdout::alias_node` meets its contract: the node at the path that is the alias's string. Assumes nothing.
use mathlib.Core.Path.{◌∙◌}
use Rattle.stdout.specs.Stdout.{aliased}
use Rattle.stdout.proofs.StdoutLaws.{path_head, string_nowhere, string_missing, string_here}
use Rattle.stdout.proofs.alias_node.Goals as goal

pub returns-in_err-aliases : goal.returns-in_err-aliases
returns-in_err-aliases c =
    c.from_residual.ensures ∙ string_nowhere _ _ _ c.requires _ _ _ c.subnode.ensures aliased c.in_err-aliases.was

pub returns-in_err-path : goal.returns-in_err-path
returns-in_err-path c =
    c.from_residual-in_err-path.ensures ∙
    string_missing _ _ _ c.requires _ _ _ c.subnode.ensures aliased _ c.in_ok-aliases.was _ c.string_of.ensures c.in_err-path.was

pub returns : goal.returns
returns c =
    c.path_offset.ensures ∙ path_head _ _ _ ∙
    string_here _ _ _ c.requires _ _ _ c.subnode.ensures aliased _ c.in_ok-aliases.was _ c.string_of.ensures _ _ c.in_ok-path.was c.part.ensures
