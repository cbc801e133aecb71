-- A structure block that some tree within the limits is written in: Specification, section 5.4, and document 01, "The tree".
use Rattle.std.specs.Prelude.{ℕ, List}
use Rattle.fdt.specs.Tree.{Property, Nodes}
use Rattle.fdt.specs.Grammar.{Block, Within}

pub record Written (b n : List ℕ) : Type 0 where
  pub root : ℕ
  pub ps : List Property
  pub kids : Nodes
  pub block : Block b n root ps kids
  pub within : Within b n kids
