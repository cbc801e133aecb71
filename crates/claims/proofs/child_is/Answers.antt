-- `child_is` meets its contract: by the first row of the child's `reg`, and where it is a reserved child by its `status`. Assumes nothing.
use mathlib.Core.Path.{refl, ◌∙◌}
use Rattle.claims.proofs.JudgeLaws.{no_unreadable, no_entry, is_without, is_other, is_reserved, is_device}
use Rattle.claims.proofs.child_is.Goals as goal

pub returns-in_default : goal.returns-in_default
returns-in_default c = is_without _ _ _ _ c.getprop.ensures _ _ _ c.in_default.is

pub returns-then-not-reserved_memory_node_is_available : goal.returns-then-not-reserved_memory_node_is_available
returns-then-not-reserved_memory_node_is_available c =
    is_other _ _ _ _ c.getprop.ensures _ _ _ _ c.in-Some.is _ c.part-value.ensures _ c.reg_row-first.ensures
    c.if-reserved.true _ c.reserved_memory_node_is_available.ensures c.if-not-reserved_memory_node_is_available.true

pub returns-in-NoReg : goal.returns-in-NoReg
returns-in-NoReg c =
    is_reserved _ _ _ _ c.getprop.ensures _ _ _ _ c.in-Some.is _ c.part-value.ensures _ c.reg_row-first.ensures
    c.if-reserved.true _ c.reserved_memory_node_is_available.ensures c.if-not-reserved_memory_node_is_available.false _ c.in-NoReg.is

pub returns-in_default-matches : goal.returns-in_default-matches
returns-in_default-matches c =
    no_unreadable _ c.in_default-matches.not-NoReg ∙
    is_reserved _ _ _ _ c.getprop.ensures _ _ _ _ c.in-Some.is _ c.part-value.ensures _ c.reg_row-first.ensures
    c.if-reserved.true _ c.reserved_memory_node_is_available.ensures c.if-not-reserved_memory_node_is_available.false _ refl

pub returns-in-RegAt : goal.returns-in-RegAt
returns-in-RegAt c =
    is_device _ _ _ _ c.getprop.ensures _ _ _ _ c.in-Some.is _ c.part-value.ensures _ c.reg_row-first.ensures c.if-reserved.false _ c.in-RegAt.is

pub returns-in_default-matches-2 : goal.returns-in_default-matches-2
returns-in_default-matches-2 c =
    no_entry _ c.in_default-matches-2.not-RegAt ∙
    is_device _ _ _ _ c.getprop.ensures _ _ _ _ c.in-Some.is _ c.part-value.ensures _ c.reg_row-first.ensures c.if-reserved.false _ refl
