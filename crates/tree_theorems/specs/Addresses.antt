-- What translation gives, as statements: document 01, "A found address comes with the number of nodes tried: the target's place in document
-- order, the root's first child being 1. A failure gives 0."
use Rattle.std.specs.Prelude.{◌≡◌, ℕ, Option, Some}
use Rattle.cells.specs.declared.Region.{Region}
use Rattle.translation.specs.declared.Translated.{Translated}
use Rattle.translation.specs.Translation.{reached}

-- an address was found, with some number
pub record HasAddress (x : Option Translated) : Type 0 where
  pub region : Region
  pub number : ℕ
  pub found : x ≡ Some (reached region number)
