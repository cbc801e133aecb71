-- `register_devicetree` opens the tree, judges it, and registers its claims; each way out is a case of the definition.
use Rattle.std.specs.Prelude.{None, Ok, Err}
use mathlib.Core.Path.{sym, ◌∙◌}
use Rattle.dtb.proofs.CallLaws.{call_opened, call_tree}
use Rattle.dtb.proofs.register_devicetree.Goals as goal

pub returns-in-Ok-None : goal.returns-in-Ok-None
returns-in-Ok-None c = sym (call_opened 4096 _ _ _ (Ok None) (cc (c.in-Ok-None.is, c.in-Ok-None.field-0-is, c.open_tree.ensures)))

pub returns-in-Err : goal.returns-in-Err
returns-in-Err c = rw c.from.ensures (sym (call_opened 4096 _ _ _ (Err c.in-Err.fault) (cc (c.in-Err.is, c.open_tree.ensures))))

pub returns-in-Ok : goal.returns-in-Ok
returns-in-Ok c =
    c.register_judged.ensures
    ∙ rw c.reservation_block-block.ensures
    (sym (call_tree 4096 _ _ _ c.in-Ok-Some.blocks _ _
    (cc (c.in-Ok-Some.is, c.in-Ok-Some.field-0-is, c.open_tree.ensures))
    c.part-structure.ensures c.part-strings.ensures (Ok tt) (sym c.in-Ok.is ∙ c.judge.ensures)))

pub returns-in-Err-judge : goal.returns-in-Err-judge
returns-in-Err-judge c =
    rw c.from-in-Err-judge.ensures
    (sym (call_tree 4096 _ _ _ c.in-Ok-Some.blocks _ _
    (cc (c.in-Ok-Some.is, c.in-Ok-Some.field-0-is, c.open_tree.ensures))
    c.part-structure.ensures c.part-strings.ensures (Err c.in-Err-judge.fault) (sym c.in-Err-judge.is ∙ c.judge.ensures)))
