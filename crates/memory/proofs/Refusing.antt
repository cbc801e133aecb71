-- An answer that is not done, as a match on it tells. Assumes nothing.
use Rattle.memory.specs.declared.MapRefusal.TheVariants.{UnknownKind, MapFull}
use Rattle.memory.specs.declared.MapRefusal.{MapRefusal}
use Rattle.std.specs.Prelude.{Result, Ok, Err}
use mathlib.Core.Path.{◌≡◌, refl}
use mathlib.Core.Bool.{false}
use Rattle.memory.specs.Run.{is_done}

pub refused : (a : Result Unit MapRefusal) → ((x : Unit) → a ≡ Ok x → ⊥) → is_done a ≡ false
refused (Ok x) k = absurd (k x refl)
refused (Err _) k = refl
