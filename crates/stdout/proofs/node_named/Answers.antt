-- `stdout::node_named` meets its contract: a path where the first byte is `/`, else an alias; the empty name has no first byte. Assumes
-- nothing.
use mathlib.Core.Path.{◌∙◌, ap}
use Rattle.nodes.specs.OnTree.{head_of}
use Rattle.stdout.proofs.StdoutLaws.{path_head, named_empty, named_path, named_alias}
use Rattle.stdout.proofs.node_named.Goals as goal

pub returns-then-name-eq0 : goal.returns-then-name-eq0
returns-then-name-eq0 c = c.alias_node.ensures ∙ ap head_of (named_empty _ _ c.if-name-eq0.true)

pub returns-then-name-eq47 : goal.returns-then-name-eq47
returns-then-name-eq47 c = c.path_offset.ensures ∙ path_head _ _ _ ∙ ap head_of (named_path _ _ c.if-name-eq47.true)

pub returns : goal.returns
returns c = c.alias_node-2.ensures ∙ ap head_of (named_alias _ _ c.if-name-eq47.false)
