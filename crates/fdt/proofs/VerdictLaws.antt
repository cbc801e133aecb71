-- What opening a tree answers, from the facts that the tests of the code give. Assumes nothing.
use mathlib.Core.Path.{◌≡◌, ◌∙◌, ap}
use Prim.Native.Nat.{ℕ, ◌≤◌, ◌<◌}
use mathlib.Core.List.{List}
use mathlib.Core.Bool.{true, false}
use lib.ListN.{length}
use borrow.Author.Tests.{eq-eqb, ne_eqb, le-leb, lt-leb}
use Rattle.std.specs.Prelude.{None, Result, Ok, Err}
use Rattle.words.specs.Bytes.{part_of}
use Rattle.fdt.specs.Header.{totalsize, good_header, structure_of, strings_of}
use Rattle.fdt.specs.Walk.{walked}
use Rattle.fdt.specs.Opening.{blocks_of, judged, opened_of}
use Rattle.fdt.specs.declared.Blocks.{Blocks}
use Rattle.fdt.specs.declared.TreeFault.{TreeFault}
use Rattle.fdt.specs.declared.TreeFault.TheVariants.{BadHeader, OverLimit}

module _ (s : List ℕ) where
  pub says_none : length s ≡ 0 → Ok None ≡ opened_of s
  unfolding opened_of
  says_none h = rw (eq-eqb _ _ h)

  module _ (some : length s ≡ 0 → ⊥) where
    pub says_header : good_header s ≡ false → Err BadHeader ≡ opened_of s
    unfolding opened_of
    says_header h = rw (ne_eqb _ _ some, h)

    module _ (good : good_header s ≡ true) where
      pub says_large : 1048576 < totalsize s → Err OverLimit ≡ opened_of s
      unfolding opened_of
      says_large h = rw (ne_eqb _ _ some, good, lt-leb _ _ h)

      pub says_walked : totalsize s ≤ 1048576 → judged (walked (structure_of s) (strings_of s)) (blocks_of s) ≡ opened_of s
      unfolding opened_of
      says_walked h = rw (ne_eqb _ _ some, good, le-leb _ _ h)

      -- the same of what the code has in hand
      pub says_judged : (k : Blocks) (b n : List ℕ) (v w : Result Unit TreeFault) → totalsize s ≤ 1048576 → k ≡ blocks_of s
          → b ≡ part_of s k.structure.at k.structure.len → n ≡ part_of s k.strings.at k.strings.len
          → v ≡ walked b n → v ≡ w → judged w k ≡ opened_of s
      unfolding blocks_of
      says_judged k b n v w h ek eb en ev ew =
          let fb : b ≡ structure_of s = eb ∙ ap (λ (x : Blocks). part_of s x.structure.at x.structure.len) ek in
          let fn : n ≡ strings_of s = en ∙ ap (λ (x : Blocks). part_of s x.strings.at x.strings.len) ek in
          let fw : w ≡ walked (structure_of s) (strings_of s) = cc in
          rw (fw, ek) (says_walked h)
