-- The test of a header says whether it is good; and in a good header the blocks are parts of the tree's bytes.
-- Assumes nothing.
use mathlib.Core.Path.{◌≡◌, refl, sym}
use mathlib.Core.Logic.{◌↔◌}
use Prim.Native.Nat.{ℕ, ◌+◌, ◌%◌, ◌≤◌, ◌<◌}
use native.Mathlib.Omega.{arith}
use mathlib.Core.List.{List}
use mathlib.Core.Bool.{Bool, true, false, ◌&&◌}
use lib.ListN.{length, get_or, take, drop}
use lib.Dec.{leb, eqb}
use borrow.Author.Tests.{eq-eqb, le-leb, leb-true, eqb-true}
use Rattle.fdt.specs.Header.{magic, totalsize, off_dt_struct, off_dt_strings, version, last_comp_version, size_dt_struct, size_dt_strings, GoodHeader, good_header, structure_of, strings_of}
use Rattle.words.proofs.BytesLaws.{never, part_is, part_length, part_byte}

both : (x y : Bool) → (x && y) ≡ true → (x ≡ true) × (y ≡ true)
both true y h = (refl, h)
both false y h = never (cc)

module _ (s : List ℕ) where
  to_good : good_header s ≡ true → GoodHeader s
  unfolding good_header
  to_good h =
      let a = both (leb 40 (length s)) _ h in
      let b = both (eqb (magic s) 0xd00dfeed) _ a.1 in
      let c = both (leb 40 (totalsize s)) _ b.1 in
      let d = both (leb (totalsize s) (length s)) _ c.1 in
      let e = both (leb 17 (version s)) _ d.1 in
      let f = both (leb (last_comp_version s) 17) _ e.1 in
      let g = both (leb 40 (off_dt_struct s)) _ f.1 in
      let i = both (leb 40 (off_dt_strings s)) _ g.1 in
      let j = both (leb (off_dt_struct s + size_dt_struct s) (totalsize s)) _ i.1 in
      let k = both (leb (off_dt_strings s + size_dt_strings s) (totalsize s)) _ j.1 in
      record {
        long = leb-true _ _ a.0;
        marked = eqb-true _ _ b.0;
        some = leb-true _ _ c.0;
        whole = leb-true _ _ d.0;
        recent = leb-true _ _ e.0;
        compatible = leb-true _ _ f.0;
        struct_from = leb-true _ _ g.0;
        strings_from = leb-true _ _ i.0;
        struct_in = leb-true _ _ j.0;
        strings_in = leb-true _ _ k.0;
        aligned = eqb-true _ _ k.1;
      }

  -- where all else is good, the alignment decides
  pub aligned_decides : 40 ≤ length s → magic s ≡ 0xd00dfeed → 40 ≤ totalsize s → totalsize s ≤ length s → 17 ≤ version s → last_comp_version s ≤ 17
      → 40 ≤ off_dt_struct s → 40 ≤ off_dt_strings s → off_dt_struct s + size_dt_struct s ≤ totalsize s → off_dt_strings s + size_dt_strings s ≤ totalsize s
      → eqb (off_dt_struct s % 4) 0 ≡ good_header s
  unfolding good_header
  aligned_decides a b c d e f g h i j =
      rw (le-leb _ _ a, eq-eqb _ _ b, le-leb _ _ c, le-leb _ _ d, le-leb _ _ e, le-leb _ _ f, le-leb _ _ g, le-leb _ _ h, le-leb _ _ i, le-leb _ _ j)

  from_good : GoodHeader s → good_header s ≡ true
  from_good g =
      rw (← aligned_decides g.long g.marked g.some g.whole g.recent g.compatible g.struct_from g.strings_from g.struct_in g.strings_in)
      (eq-eqb _ _ g.aligned)

  -- THE TEST
  pub good_header_lem : (good_header s ≡ true) ↔ GoodHeader s
  good_header_lem = (to_good, from_good)

  pub bad_header : (GoodHeader s → ⊥) → false ≡ good_header s
  bad_header n = go (good_header s) refl
    where
      go : (t : Bool) → good_header s ≡ t → false ≡ good_header s
      go true h = absurd (n (to_good h))
      go false h = sym h

  -- the blocks of a good header
  module _ (g : GoodHeader s) where
    struct_fits : off_dt_struct s + size_dt_struct s ≤ length s
    struct_fits = omega arith

    strings_fit : off_dt_strings s + size_dt_strings s ≤ length s
    strings_fit = omega arith

    pub structure_is : structure_of s ≡ take (size_dt_struct s) (drop (off_dt_struct s) s)
    structure_is = part_is s _ _ struct_fits

    pub structure_length : length (structure_of s) ≡ size_dt_struct s
    structure_length = part_length s _ _ struct_fits

    pub structure_at_lem : (i : ℕ) → i < size_dt_struct s → get_or (structure_of s) i 0 ≡ get_or s (off_dt_struct s + i) 0
    structure_at_lem = part_byte s _ _ struct_fits

    pub strings_are : strings_of s ≡ take (size_dt_strings s) (drop (off_dt_strings s) s)
    strings_are = part_is s _ _ strings_fit

    pub strings_length : length (strings_of s) ≡ size_dt_strings s
    strings_length = part_length s _ _ strings_fit

    pub strings_at : (i : ℕ) → i < size_dt_strings s → get_or (strings_of s) i 0 ≡ get_or s (off_dt_strings s + i) 0
    strings_at = part_byte s _ _ strings_fit
