-- The header of a blob says where its blocks stand, and they stand there. Assumes nothing.
use mathlib.Core.Path.{◌≡◌, refl, sym, ◌∙◌, ap}
use Prim.Native.Nat.{ℕ, ◌+◌, ◌*◌, ◌-◌, ◌<◌}
use native.Mathlib.Omega.{arith}
use mathlib.Core.List.{List, [], ◌∷◌, ◌++◌, append_assoc}
use lib.ListN.{length, length-append}
use lib.Seq.{take-append_seam, drop_at}
use Rattle.words.specs.Bytes.{word, part_of}
use Rattle.words.proofs.BytesLaws.{part_is}
use Rattle.cells.specs.declared.Region.{Region}
use Rattle.fdt.specs.Header.{magic, totalsize, off_dt_struct, off_dt_strings, off_mem_rsvmap, version, last_comp_version, size_dt_struct, size_dt_strings, GoodHeader, structure_of, strings_of}
use Rattle.fdt.specs.Opening.{blocks_of}
use Rattle.reservations.specs.Reservations.{block_in}
use Rattle.reservations.proofs.BlockLaws.{whole}
use Rattle.pen.specs.Numbers.{bytes4}
use Rattle.flattened.specs.Parts.{Part, parts_bytes, names_bytes, parts_size, names_size}
use Rattle.flattened.specs.Blob.{entries_bytes, reservation_bytes, header, structure_bytes, blocks_bytes, blob, blob_size}
use Rattle.flattened.proofs.NumberLaws.{join32}
use Rattle.pen.proofs.LengthLaws.{bytes4_length, bytes8_length}
use Rattle.flattened.proofs.PartLaws.{parts_length, names_length}

-- ── The ten fields ──
module _ (m b n : ℕ) (rest : List ℕ) (small : 40 + m + b + n < 4294967296) where
  pub field_magic : word (header m b n ++ rest) 0 ≡ 0xd00dfeed
  unfolding header bytes4 word
  field_magic = refl

  pub field_total : word (header m b n ++ rest) 4 ≡ 40 + m + b + n
  unfolding header bytes4 word
  field_total = join32 (40 + m + b + n) small

  pub field_struct : word (header m b n ++ rest) 8 ≡ 40 + m
  unfolding header bytes4 word
  field_struct = join32 (40 + m) (omega arith)

  pub field_strings : word (header m b n ++ rest) 12 ≡ 40 + m + b
  unfolding header bytes4 word
  field_strings = join32 (40 + m + b) (omega arith)

  pub field_reserved : word (header m b n ++ rest) 16 ≡ 40
  unfolding header bytes4 word
  field_reserved = refl

  pub field_version : word (header m b n ++ rest) 20 ≡ 17
  unfolding header bytes4 word
  field_version = refl

  pub field_compatible : word (header m b n ++ rest) 24 ≡ 16
  unfolding header bytes4 word
  field_compatible = refl

  pub field_names : word (header m b n ++ rest) 32 ≡ n
  unfolding header bytes4 word
  field_names = join32 n (omega arith)

  pub field_parts : word (header m b n ++ rest) 36 ≡ b
  unfolding header bytes4 word
  field_parts = join32 b (omega arith)

pub header_length : (m b n : ℕ) → length (header m b n) ≡ 40
unfolding header bytes4
header_length m b n = refl

-- ── How long the blocks are ──
pub entries_length : (rs : List Region) → length (entries_bytes rs) ≡ 16 * length rs
unfolding entries_bytes
entries_length [] = refl
entries_length (r ∷ rs) =
    simp (length-append, bytes8_length) (omega (arith, entries_length rs))

pub reservation_length : (rs : List Region) → length (reservation_bytes rs) ≡ 16 * (length rs + 1)
unfolding reservation_bytes
reservation_length rs = simp (length-append, bytes8_length) (omega (arith, entries_length rs))

pub structure_length : (xs : List Part) → length (structure_bytes xs) ≡ parts_size xs + 4
unfolding structure_bytes
structure_length xs = length-append (parts_bytes 0 xs) (bytes4 9) ∙ omega (arith, parts_length 0 xs, bytes4_length 9)

pub blob_length : (rs : List Region) (xs : List Part) → length (blob rs xs) ≡ blob_size rs xs
unfolding blob blob_size blocks_bytes
blob_length rs xs =
    simp (length-append) (omega (arith, header_length (16 * (length rs + 1)) (parts_size xs + 4) (names_size xs), reservation_length rs, structure_length xs, names_length xs))

-- a part that stands after pre
part_mid : (pre mid rest : List ℕ) (p l : ℕ) → length pre ≡ p → length mid ≡ l → part_of (pre ++ (mid ++ rest)) p l ≡ mid
part_mid pre mid rest p l e f =
    part_is (pre ++ (mid ++ rest)) p l (omega (arith, length-append pre (mid ++ rest), length-append mid rest))
    ∙ rw (drop_at pre (mid ++ rest) p e, ← f, take-append_seam mid rest)

module _ (rs : List Region) (xs : List Part) (z : List ℕ) (small : blob_size rs xs < 4294967296) where
  abbrev M : ℕ
  M = 16 * (length rs + 1)

  abbrev H : List ℕ
  H = header (16 * (length rs + 1)) (parts_size xs + 4) (names_size xs)

  small_is : 40 + M + (parts_size xs + 4) + names_size xs < 4294967296
  unfolding blob_size
  small_is = small

  -- the blob as its four blocks and what comes after it
  cut : blob rs xs ++ z ≡ H ++ (blocks_bytes rs xs ++ z)
  unfolding blob
  cut = append_assoc H (blocks_bytes rs xs) z

  cut_reserved : blob rs xs ++ z ≡ H ++ (reservation_bytes rs ++ (structure_bytes xs ++ (names_bytes xs ++ z)))
  unfolding blocks_bytes
  cut_reserved = cut ∙ simp append_assoc

  cut_structure : blob rs xs ++ z ≡ (H ++ reservation_bytes rs) ++ (structure_bytes xs ++ (names_bytes xs ++ z))
  cut_structure = cut_reserved ∙ simp append_assoc

  cut_strings : blob rs xs ++ z ≡ (H ++ (reservation_bytes rs ++ structure_bytes xs)) ++ (names_bytes xs ++ z)
  cut_strings = cut_reserved ∙ simp append_assoc

  word_of : (p w : ℕ) → word (H ++ (blocks_bytes rs xs ++ z)) p ≡ w → word (blob rs xs ++ z) p ≡ w
  word_of p w h = ap (λ (s : List ℕ). word s p) cut ∙ h

  abbrev R : List ℕ
  R = blocks_bytes rs xs ++ z

  pub total_is : totalsize (blob rs xs ++ z) ≡ blob_size rs xs
  unfolding blob_size
  total_is = word_of 4 _ (field_total M (parts_size xs + 4) (names_size xs) R small_is)

  pub struct_is : off_dt_struct (blob rs xs ++ z) ≡ 40 + M
  struct_is = word_of 8 _ (field_struct M (parts_size xs + 4) (names_size xs) R small_is)

  pub strings_is : off_dt_strings (blob rs xs ++ z) ≡ 40 + M + (parts_size xs + 4)
  strings_is = word_of 12 _ (field_strings M (parts_size xs + 4) (names_size xs) R small_is)

  pub reserved_is : off_mem_rsvmap (blob rs xs ++ z) ≡ 40
  reserved_is = word_of 16 _ (field_reserved M (parts_size xs + 4) (names_size xs) R small_is)

  pub version_is : version (blob rs xs ++ z) ≡ 17
  version_is = word_of 20 _ (field_version M (parts_size xs + 4) (names_size xs) R small_is)

  pub compatible_is : last_comp_version (blob rs xs ++ z) ≡ 16
  compatible_is = word_of 24 _ (field_compatible M (parts_size xs + 4) (names_size xs) R small_is)

  pub names_is : size_dt_strings (blob rs xs ++ z) ≡ names_size xs
  names_is = word_of 32 _ (field_names M (parts_size xs + 4) (names_size xs) R small_is)

  pub parts_is : size_dt_struct (blob rs xs ++ z) ≡ parts_size xs + 4
  parts_is = word_of 36 _ (field_parts M (parts_size xs + 4) (names_size xs) R small_is)

  pub magic_is : magic (blob rs xs ++ z) ≡ 0xd00dfeed
  magic_is = word_of 0 _ (field_magic M (parts_size xs + 4) (names_size xs) R small_is)

  whole_length : length (blob rs xs ++ z) ≡ blob_size rs xs + length z
  whole_length = length-append (blob rs xs) z ∙ ap (λ (x : ℕ). x + length z) (blob_length rs xs)

  size_is : blob_size rs xs ≡ 40 + M + (parts_size xs + 4) + names_size xs
  unfolding blob_size
  size_is = refl

  -- THE HEADER IS GOOD
  pub good : GoodHeader (blob rs xs ++ z)
  good =
      let wl = whole_length in
      let si = size_is in
      record {
        long = omega arith;
        marked = magic_is;
        some = rw total_is (omega arith);
        whole = rw total_is (omega arith);
        recent = rw version_is (omega arith);
        compatible = rw compatible_is (omega arith);
        struct_from = rw struct_is (omega arith);
        strings_from = rw strings_is (omega arith);
        struct_in = rw (struct_is, parts_is, total_is) (omega arith);
        strings_in = rw (strings_is, names_is, total_is) (omega arith);
        aligned = rw struct_is (omega arith);
      }

  -- THE BLOCKS STAND WHERE IT SAYS
  pub structure_block : structure_of (blob rs xs ++ z) ≡ structure_bytes xs
  structure_block =
      ap (λ (p : ℕ). part_of (blob rs xs ++ z) p (size_dt_struct (blob rs xs ++ z))) struct_is
      ∙ ap (λ (l : ℕ). part_of (blob rs xs ++ z) (40 + M) l) parts_is
      ∙ ap (λ (s : List ℕ). part_of s (40 + M) (parts_size xs + 4)) cut_structure
      ∙ part_mid (H ++ reservation_bytes rs) (structure_bytes xs) (names_bytes xs ++ z) (40 + M) (parts_size xs + 4)
      (length-append H (reservation_bytes rs) ∙ omega (arith, header_length M (parts_size xs + 4) (names_size xs), reservation_length rs)) (structure_length xs)

  pub strings_block : strings_of (blob rs xs ++ z) ≡ names_bytes xs
  strings_block =
      ap (λ (p : ℕ). part_of (blob rs xs ++ z) p (size_dt_strings (blob rs xs ++ z))) strings_is
      ∙ ap (λ (l : ℕ). part_of (blob rs xs ++ z) (40 + M + (parts_size xs + 4)) l) names_is
      ∙ ap (λ (s : List ℕ). part_of s (40 + M + (parts_size xs + 4)) (names_size xs)) cut_strings
      ∙ part_mid (H ++ (reservation_bytes rs ++ structure_bytes xs)) (names_bytes xs) z (40 + M + (parts_size xs + 4)) (names_size xs)
      (length-append H (reservation_bytes rs ++ structure_bytes xs)
      ∙ omega (arith, header_length M (parts_size xs + 4) (names_size xs), length-append (reservation_bytes rs) (structure_bytes xs), reservation_length rs, structure_length xs))
      (names_length xs)

  at_is : (blocks_of (blob rs xs ++ z)).structure.at ≡ 40 + M
  unfolding blocks_of
  at_is = struct_is

  from_is : (blocks_of (blob rs xs ++ z)).reservations ≡ 40
  unfolding blocks_of
  from_is = reserved_is

  pub reservation_block : block_in (blob rs xs ++ z) (blocks_of (blob rs xs ++ z)) ≡ reservation_bytes rs
  reservation_block =
      sym (whole (blob rs xs ++ z) (blocks_of (blob rs xs ++ z)) (rw from_is (omega arith)) (rw from_is refl) (rw (from_is, at_is) (omega arith)))
      ∙ rw (from_is, at_is)
      (ap (λ (s : List ℕ). part_of s 40 (40 + M - 40)) cut_reserved
      ∙ part_mid H (reservation_bytes rs) (structure_bytes xs ++ (names_bytes xs ++ z)) 40 (40 + M - 40) (header_length M (parts_size xs + 4) (names_size xs)) (omega (arith, reservation_length rs)))
