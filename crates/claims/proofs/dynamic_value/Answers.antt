-- `dynamic_value` meets its contract: both values stand where they were found, and what they say together is asked of them. Assumes
-- nothing.
use mathlib.Core.Path.{◌∙◌}
use Rattle.claims.proofs.ClaimLaws.{exact_is}
use Rattle.claims.proofs.dynamic_value.Goals as goal

pub returns-in_err-bytes : goal.returns-in_err-bytes
returns-in_err-bytes c = rw (← c.getprop.ensures, c.in_err-bytes.was) c.from_residual.ensures

pub returns-in_err-ranges : goal.returns-in_err-ranges
returns-in_err-ranges c =
    rw (← c.getprop.ensures, c.in_ok-bytes.was, ← c.getprop-2.ensures, c.in_err-ranges.was) c.from_residual-in_err-ranges.ensures

pub returns : goal.returns
returns c =
    exact_is _ _ _ _ c.getprop.ensures _ c.getprop-2.ensures _ c.in_ok-bytes.was _ c.in_ok-ranges.was _ c.part.ensures _ c.part-2.ensures _ _ _
    c.visit_exact_dynamic_reserved_memory_range.ensures _ c.in_ok-visit_exact_dynamic_reserved_memory_range.was

pub returns-in_err-visit_exact_dynamic_reserved_memory_range : goal.returns-in_err-visit_exact_dynamic_reserved_memory_range
returns-in_err-visit_exact_dynamic_reserved_memory_range c =
    c.from_residual-in_err-visit_exact_dynamic_reserved_memory_range.ensures ∙
    exact_is _ _ _ _ c.getprop.ensures _ c.getprop-2.ensures _ c.in_ok-bytes.was _ c.in_ok-ranges.was _ c.part.ensures _ c.part-2.ensures _ _ _
    c.visit_exact_dynamic_reserved_memory_range.ensures _ c.in_err-visit_exact_dynamic_reserved_memory_range.was
