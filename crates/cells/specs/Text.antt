-- String values: document 01, "String values .. end at their first zero byte; without one nothing is found."
use Rattle.std.specs.Prelude.{ℕ, List, cond, length, ltb, Option, Some, None}
use Rattle.words.specs.Bytes.{string_end}

unfoldable pub text_of : List ℕ → Option ℕ
text_of v = cond (ltb (string_end v 0) (length v)) (Some (string_end v 0)) None
