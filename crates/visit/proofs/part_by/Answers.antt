-- `visit::part_by` meets its contract: the value's part, or an empty one. Assumes nothing.
use mathlib.Core.Path.{◌≡◌, refl, ◌∙◌}
use Rattle.std.specs.Prelude.{Option, Some, None, unwrap_or}
use Rattle.fdt.specs.declared.Block.{Block}
use Rattle.visit.specs.Steps.{no_part, part_by}
use Rattle.visit.proofs.part_by.Goals as goal

pub returns : goal.returns
returns c = c.unwrap_or.ensures ∙ or_empty c.args.value
  where
    or_empty : (v : Option Block) → unwrap_or v no_part ≡ part_by v
    or_empty (Some p) = refl
    or_empty None = refl
