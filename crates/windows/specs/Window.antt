-- A region through `ranges`, by two rules: document 01, "Soc window" and "Translation". "Tempting: .. using one window rule for both."
use Rattle.std.specs.Prelude.{ℕ, ◌+◌, ◌-◌, ◌^◌, min, max, List, [], ◌∷◌, Bool, true, false, cond, ◌&&◌, leb, ltb}
use Rattle.cells.specs.declared.Range.{Range}
use Rattle.cells.specs.Rows.{Table, unreadable, rows}
use Rattle.windows.specs.declared.Fit.{Fit}
use Rattle.windows.specs.declared.Fit.TheVariants.{Gives, Over, Not}
use Rattle.windows.specs.declared.Window.{Window}
use Rattle.windows.specs.declared.Window.TheVariants.{To, Nowhere, Unreadable}

-- "max(size,1) - 1"
unfoldable pub reach : ℕ → ℕ
reach size = max size 1 - 1

-- "last is address + max(size,1) - 1, capped"
unfoldable pub last_byte : ℕ → ℕ → ℕ
last_byte address size = min (address + reach size) (2 ^ 64 - 1)

-- the address `offset` bytes on from the parent's, where the sum of these and of what has to follow fits
unfoldable pub landing : ℕ → ℕ → ℕ → Fit
landing parent offset last = cond (leb (parent + offset + last) (2 ^ 64 - 1)) (Gives (parent + offset)) Over

-- the soc window takes a range "with child <= address and last - child <= length"; "The parent sum, and that sum plus
-- max(size,1) - 1, must fit."
unfoldable pub fit_soc : Range → ℕ → ℕ → Fit
fit_soc r address size =
    cond (leb r.child address && leb (last_byte address size - r.child) r.size)
    (landing r.parent (address - r.child) (reach size))
    Not

-- translation takes a range "with offset = address - child >= 0, offset < length and max(size,1) - 1 < length - offset; it gives
-- parent + offset, which must be below 2^64"
unfoldable pub fit_bus : Range → ℕ → ℕ → Fit
fit_bus r address size =
    cond (leb r.child address && (ltb (address - r.child) r.size && ltb (reach size) (r.size - (address - r.child))))
    (landing r.parent (address - r.child) 0)
    Not

abbrev pub fit_by : Bool → Range → ℕ → ℕ → Fit
fit_by true r address size = fit_soc r address size
fit_by false r address size = fit_bus r address size

abbrev pub fit_or : Fit → Window → Window
fit_or (Gives to) w = To to
fit_or Over w = Nowhere
fit_or Not w = w

-- "the first range" that has the region decides
unfoldable pub first_fit : Bool → List Range → ℕ → ℕ → Window
first_fit soc [] address size = Nowhere
first_fit soc (r ∷ l) address size = fit_or (fit_by soc r address size) (first_fit soc l address size)

-- "empty, unchanged"; an unreadable one is told apart: refusal 8 or none, as the caller's rule says
unfoldable pub window : Bool → Table Range → ℕ → ℕ → Window
window soc unreadable address size = Unreadable
window soc (rows []) address size = To address
window soc (rows (r ∷ l)) address size = first_fit soc (r ∷ l) address size
