-- The buffer holds what was written: the entries behind the place of the header, the parts, and at the end the names, last byte first.
-- Assumes nothing.
use mathlib.Core.Path.{◌≡◌, refl, sym, ◌∙◌, ap}
use Prim.Native.Nat.{ℕ, ◌+◌, ◌*◌, ◌-◌, ◌≤◌}
use native.Mathlib.Omega.{arith}
use mathlib.Core.Bool.{true, false}
use mathlib.Core.List.{List, [], ◌∷◌, ◌++◌, append_assoc, append-nil, reverse, reverse-append}
use lib.ListN.{length, take, drop, length-append, length-reverse, length-drop, take-append-drop}
use lib.Seq.{length-take-le}
use Rattle.words.specs.Bytes.{string_end}
use Rattle.words.proofs.BytesLaws.{first_before, never}
use Rattle.cells.specs.declared.Region.{Region}
use Rattle.grammar.proofs.TreeLaws.{run_l}
use Rattle.grammar.proofs.TurnLaws.{Raised}
use Rattle.pen.specs.Numbers.{bytes8}
use Rattle.flattened.specs.Parts.{Part, part_bytes, name_bytes, part_size, name_size, parts_bytes, names_bytes, parts_size, names_size, parts_toks, NoZero, AllClean}
use Rattle.flattened.specs.Blob.{entries_bytes, AllEntries}
use Rattle.pen.proofs.LengthLaws.{bytes8_length}
use Rattle.flattened.proofs.PartLaws.{part_length, name_length, parts_length, names_length}
use Rattle.flattened.proofs.HeaderLaws.{entries_length}
use Rattle.writer.specs.declared.Writer.{Writer}
use Rattle.writer.specs.Writer.{fresh, final_size}
use Rattle.writer.specs.Calls.{laid, part_at, part_laid, reservation_laid}
use Rattle.writer_theorems.specs.Refusals.{begun}
use Rattle.writer_theorems.specs.Refusals.{ended as endedIn}
use Rattle.writer_theorems.proofs.Snoc.{parts_snoc, names_snoc, entries_snoc}
use Rattle.writer_theorems.proofs.Middle.{laid_mid, gap_laid}

-- ── The buffer ──
pub record Layout (buf : List ℕ) (rs : List Region) (xs : List Part) : Type 0 where
  pub head : List ℕ
  pub mark : List ℕ
  pub gap : List ℕ
  pub head_long : length head ≡ 40
  pub mark_long : length mark ≡ 16
  pub is : buf ≡ head ++ (entries_bytes rs ++ (mark ++ (parts_bytes 0 xs ++ (gap ++ reverse (names_bytes xs)))))

module _ (buf : List ℕ) (rs : List Region) (xs : List Part) (l : Layout buf rs xs) where
  -- what stands before the gap
  abbrev pub front : List ℕ
  front = l.head ++ (entries_bytes rs ++ (l.mark ++ parts_bytes 0 xs))

  pub front_is : buf ≡ front ++ (l.gap ++ reverse (names_bytes xs))
  front_is = l.is ∙ simp append_assoc

  pub front_long : length front ≡ 40 + 16 * (length rs + 1) + parts_size xs
  front_long =
      let a = l.head_long in
      let b = l.mark_long in
      simp length-append (omega (arith, entries_length rs, parts_length 0 xs))

  pub names_long : length (reverse (names_bytes xs)) ≡ names_size xs
  names_long = length-reverse (names_bytes xs) ∙ names_length xs

  pub whole_long : length buf ≡ 40 + 16 * (length rs + 1) + parts_size xs + (length l.gap + names_size xs)
  whole_long =
      ap length front_is ∙ length-append front (l.gap ++ reverse (names_bytes xs))
      ∙ omega (arith, front_long, length-append l.gap (reverse (names_bytes xs)), names_long)

  module _ (w : Writer) (er : w.reserved ≡ length rs) (es : w.structure ≡ parts_size xs) (en : w.strings ≡ names_size xs) where
    -- one part more
    pub layout_part : (x : Part) → part_at w + part_size x + 4 + (w.strings + name_size x) ≤ length buf → Layout (part_laid w x buf) rs (xs ++ (x ∷ []))
    unfolding part_laid
    layout_part x h =
        let lt = part_length w.strings x in
        let lu : length (reverse (name_bytes x)) ≡ name_size x = length-reverse (name_bytes x) ∙ name_length x in
        let wl = whole_long in
        let fl = front_long in
        let nl = names_long in
        let fb : length buf ≡ length (front ++ (l.gap ++ reverse (names_bytes xs))) = ap length front_is in
        let k = gap_laid front l.gap (reverse (names_bytes xs)) (part_bytes w.strings x) (reverse (name_bytes x)) (part_at w) (length buf - w.strings - name_size x)
        (omega arith) (omega arith) (omega arith) in
        record {
          head = l.head;
          mark = l.mark;
          gap = k.0;
          head_long = l.head_long;
          mark_long = l.mark_long;
          is = ap (λ (s : List ℕ). laid (laid s (part_at w) (part_bytes w.strings x)) (length buf - w.strings - name_size x) (reverse (name_bytes x))) front_is ∙ k.1 ∙ shape x k.0;
        }
      where
        zero_names : w.strings ≡ 0 + names_size xs
        zero_names = en ∙ omega arith

        shape : (x : Part) (y : List ℕ) → front ++ (part_bytes w.strings x ++ (y ++ (reverse (name_bytes x) ++ reverse (names_bytes xs))))
            ≡ l.head ++ (entries_bytes rs ++ (l.mark ++ (parts_bytes 0 (xs ++ (x ∷ [])) ++ (y ++ reverse (names_bytes (xs ++ (x ∷ [])))))))
        shape x y =
            ap (λ (k : ℕ). front ++ (part_bytes k x ++ (y ++ (reverse (name_bytes x) ++ reverse (names_bytes xs))))) zero_names
            ∙ ap (λ (s : List ℕ). front ++ (part_bytes (0 + names_size xs) x ++ (y ++ s))) (sym (reverse-append (names_bytes xs) (name_bytes x)) ∙ ap reverse (sym (names_snoc xs x)))
            ∙ regroup (part_bytes (0 + names_size xs) x) (y ++ reverse (names_bytes (xs ++ (x ∷ []))))
            ∙ ap (λ (s : List ℕ). l.head ++ (entries_bytes rs ++ (l.mark ++ (s ++ (y ++ reverse (names_bytes (xs ++ (x ∷ [])))))))) (sym (parts_snoc xs x 0))
          where
            regroup : (t z : List ℕ) → front ++ (t ++ z) ≡ l.head ++ (entries_bytes rs ++ (l.mark ++ ((parts_bytes 0 xs ++ t) ++ z)))
            regroup t z = simp append_assoc

-- one entry more, before the first part
module _ (buf : List ℕ) (rs : List Region) (l : Layout buf rs []) (w : Writer) (er : w.reserved ≡ length rs) (r : Region) where
  entry_shape : (mark gap : List ℕ) → l.gap ≡ mark ++ gap
      → (l.head ++ entries_bytes rs) ++ ((bytes8 r.address ++ bytes8 r.size) ++ (parts_bytes 0 [] ++ (l.gap ++ reverse (names_bytes []))))
      ≡ l.head ++ (entries_bytes (rs ++ (r ∷ [])) ++ (mark ++ (parts_bytes 0 [] ++ (gap ++ reverse (names_bytes [])))))
  unfolding parts_bytes
  entry_shape mark gap e =
      ap (λ (s : List ℕ). (l.head ++ entries_bytes rs) ++ ((bytes8 r.address ++ bytes8 r.size) ++ (s ++ reverse (names_bytes [])))) e
      ∙ regroup (bytes8 r.address ++ bytes8 r.size) (reverse (names_bytes []))
      ∙ ap (λ (s : List ℕ). l.head ++ (s ++ (mark ++ (gap ++ reverse (names_bytes []))))) (sym (entries_snoc rs r))
    where
      regroup : (t z : List ℕ) → (l.head ++ entries_bytes rs) ++ (t ++ ((mark ++ gap) ++ z)) ≡ l.head ++ ((entries_bytes rs ++ t) ++ (mark ++ (gap ++ z)))
      regroup t z = simp append_assoc

  pub layout_entry : 16 ≤ length l.gap → Layout (reservation_laid w r.address r.size buf) (rs ++ (r ∷ [])) []
  unfolding reservation_laid
  layout_entry h =
      record {
        head = l.head;
        mark = take 16 l.gap;
        gap = drop 16 l.gap;
        head_long = l.head_long;
        mark_long = length-take-le 16 l.gap h;
        is =
            ap (λ (s : List ℕ). laid s (40 + 16 * w.reserved) (bytes8 r.address ++ bytes8 r.size)) cut
            ∙ laid_mid (l.head ++ entries_bytes rs) l.mark (parts_bytes 0 [] ++ (l.gap ++ reverse (names_bytes []))) (bytes8 r.address ++ bytes8 r.size) (40 + 16 * w.reserved) long sixteen
            ∙ entry_shape (take 16 l.gap) (drop 16 l.gap) (sym (take-append-drop 16 l.gap));
      }
    where
      cut : buf ≡ (l.head ++ entries_bytes rs) ++ (l.mark ++ (parts_bytes 0 [] ++ (l.gap ++ reverse (names_bytes []))))
      cut = l.is ∙ simp append_assoc

      long : length (l.head ++ entries_bytes rs) ≡ 40 + 16 * w.reserved
      long = length-append l.head (entries_bytes rs) ∙ omega (arith, l.head_long, entries_length rs)

      sixteen : length l.mark ≡ length (bytes8 r.address ++ bytes8 r.size)
      sixteen = l.mark_long ∙ sym (length-append (bytes8 r.address) (bytes8 r.size) ∙ omega (arith, bytes8_length r.address, bytes8_length r.size))

-- nothing yet
pub layout_start : (buf : List ℕ) → 56 ≤ length buf → Layout buf [] []
unfolding parts_bytes names_bytes entries_bytes
layout_start buf h =
    record {
      head = take 40 buf;
      mark = take 16 (drop 40 buf);
      gap = drop 16 (drop 40 buf);
      head_long = length-take-le 40 buf (omega arith);
      mark_long = length-take-le 16 (drop 40 buf) (omega (arith, length-drop 40 buf));
      is =
          sym (take-append-drop 40 buf)
          ∙ ap (λ (s : List ℕ). take 40 buf ++ s) (sym (take-append-drop 16 (drop 40 buf)) ∙ ap (λ (s : List ℕ). take 16 (drop 40 buf) ++ s) (sym (append-nil (drop 16 (drop 40 buf)))));
    }

-- ── The writer's place ──
pub record Holds (w : Writer) (buf : List ℕ) (rs : List Region) (xs : List Part) : Type 0 where
  pub reserved : w.reserved ≡ length rs
  pub structure : w.structure ≡ parts_size xs
  pub strings : w.strings ≡ names_size xs
  pub going : w.done ≡ false
  pub deep : w.depth ≤ 32
  pub many : w.nodes ≤ 4096
  pub open_now : begun xs ≡ w.depth + endedIn xs
  pub bare : w.nodes ≡ 0 → xs ≡ []
  pub begun_none : xs ≡ [] → w.nodes ≡ 0
  pub outside : w.nodes ≡ 0 → w.depth ≡ 0
  pub rooted : w.props ≡ true → w.nodes ≡ 0 → ⊥
  pub clean : AllClean xs
  pub entries : AllEntries rs
  -- the reader's walk over these parts comes to stand where the writer does, however much the limits are raised
  pub run : (lv nd : ℕ) → Raised lv nd → (ys : List Part) → run_l lv nd (parts_toks 0 (xs ++ ys)) 0 0 false ≡ run_l lv nd (parts_toks (parts_size xs) ys) w.depth w.nodes w.props
  -- once something is written, closing calls alone fit
  pub fits : (w.nodes ≡ 0 → w.reserved ≡ 0 → ⊥) → (final_size w ≤ 1048576) × (final_size w ≤ length buf)
  pub layout : final_size w ≤ length buf → Layout buf rs xs

pub no_zero_lem : (name : List ℕ) → length name ≤ string_end name 0 → NoZero name
no_zero_lem name h i lt e = first_before 0 name 0 i (omega arith) (omega arith) e

fresh_size : final_size fresh ≡ 72
unfolding final_size
fresh_size = refl

pub holds_start : (buf : List ℕ) → Holds fresh buf [] []
unfolding parts_size names_size
holds_start buf =
    record {
      reserved = refl;
      structure = refl;
      strings = refl;
      going = refl;
      deep = omega arith;
      many = omega arith;
      open_now = refl;
      bare = λ e. refl;
      begun_none = λ e. refl;
      outside = λ e. refl;
      rooted = λ e n. never (cc);
      clean = tt;
      entries = tt;
      run = λ lv nd r ys. refl;
      fits = λ n. absurd (n refl refl);
      layout = λ h. layout_start buf (omega (arith, fresh_size));
    }
