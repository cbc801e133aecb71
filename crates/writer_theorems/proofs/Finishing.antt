-- THE THEOREM: what is finished after any sequence of calls is the blob of one tree with its reservations, and zeros past its end; it is
-- read back. Assumes nothing.
use mathlib.Core.Path.{◌≡◌, refl, sym, ◌∙◌, ap, subst}
use Prim.Native.Nat.{ℕ, suc, ◌+◌, ◌*◌, ◌-◌, ◌≤◌}
use native.Mathlib.Omega.{arith}
use mathlib.Core.Bool.{false}
use mathlib.Core.List.{List, [], ◌++◌, append_assoc, append-nil, reverse}
use lib.ListN.{length, take, drop, replicate, length-append, length-drop, length-reverse, length-replicate, take-append-drop}
use lib.Seq.{length-take-le}
use borrow.Author.Tests.{ne_eqb}
use Rattle.std.specs.Prelude.{Ok}
use Rattle.words.proofs.BytesLaws.{never}
use Rattle.cells.specs.declared.Region.{Region}
use Rattle.grammar.proofs.TreeLaws.{run_t}
use Rattle.grammar.proofs.TurnLaws.{as_given}
use Rattle.pen.specs.Numbers.{bytes4, bytes8}
use Rattle.pen.proofs.LengthLaws.{bytes4_length}
use Rattle.flattened.specs.Parts.{Part, parts_bytes, names_bytes, parts_size, names_size, parts_toks, AllClean}
use Rattle.flattened.specs.Blob.{entries_bytes, reservation_bytes, header, structure_bytes, blocks_bytes, blob, blob_size}
use Rattle.flattened.specs.Forest.{NamedValue, Forest, tree_parts, levels_of, nodes_of}
use Rattle.flattened.specs.ReadBack.{Within, ReadBack}
use Rattle.flattened.proofs.PartLaws.{parts_length, names_length}
use Rattle.flattened.proofs.HeaderLaws.{entries_length, header_length, blob_length}
use Rattle.flattened.proofs.ReadBack.{parts_tree, reads_back}
use Rattle.writer.specs.declared.Writer.{Writer}
use Rattle.writer.specs.Writer.{finish, write_number, final_size, after, answer_of}
use Rattle.writer.specs.Calls.{laid, turned, part_at, end_at, blocks_laid, blob_laid, Outcome, outcome}
use Rattle.writer.proofs.Accepting.{call_passed, done_is, FinishTurn, finish_turn}
use Rattle.writer_theorems.specs.History.{Account, History}
use Rattle.writer_theorems.specs.Finished.{Finishes}
use Rattle.writer_theorems.proofs.Middle.{laid_mid, turned_at}
use Rattle.writer_theorems.proofs.Turns.{run_fin}
use Rattle.writer_theorems.proofs.Holding.{Layout, whole_long, Holds}
use Rattle.writer_theorems.proofs.Standing.{outcome_done, outcome_answer, over_turn, Stands, going, over, stands}

-- ── The five steps of finishing ──
module _ (H E M B g k names Z F Y D : List ℕ) (p q r t : ℕ) where
  finish_shape : length (H ++ E) ≡ p → length M ≡ length Z → length (H ++ (E ++ (Z ++ B))) ≡ q → length g ≡ length F
      → length (H ++ (E ++ (Z ++ (B ++ F)))) ≡ r → length (H ++ (E ++ (Z ++ (B ++ (F ++ names))))) ≡ t → length k ≡ length Y → length H ≡ length D
      → laid (laid (turned (laid (laid (H ++ (E ++ (M ++ (B ++ ((g ++ k) ++ reverse names))))) p Z) q F) r) t Y) 0 D
      ≡ D ++ (E ++ (Z ++ (B ++ (F ++ (names ++ Y)))))
  finish_shape hp hm hq hg hr ht hk hd =
      ap (λ (s : List ℕ). laid (laid (turned (laid (laid s p Z) q F) r) t Y) 0 D) c1
      ∙ ap (λ (s : List ℕ). laid (laid (turned (laid s q F) r) t Y) 0 D) (laid_mid (H ++ E) M (B ++ ((g ++ k) ++ reverse names)) Z p hp hm ∙ c2)
      ∙ ap (λ (s : List ℕ). laid (laid (turned s r) t Y) 0 D) (laid_mid (H ++ (E ++ (Z ++ B))) g (k ++ reverse names) F q hq hg ∙ c3)
      ∙ ap (λ (s : List ℕ). laid (laid s t Y) 0 D) (turned_at (H ++ (E ++ (Z ++ (B ++ F)))) k names r hr ∙ c4)
      ∙ ap (λ (s : List ℕ). laid s 0 D) (laid_mid (H ++ (E ++ (Z ++ (B ++ (F ++ names))))) (reverse k) [] Y t ht (length-reverse k ∙ hk) ∙ c5)
      ∙ laid_mid [] H (E ++ (Z ++ (B ++ (F ++ (names ++ Y))))) D 0 refl hd
    where
      c1 : H ++ (E ++ (M ++ (B ++ ((g ++ k) ++ reverse names)))) ≡ (H ++ E) ++ (M ++ (B ++ ((g ++ k) ++ reverse names)))
      c1 = simp append_assoc

      c2 : (H ++ E) ++ (Z ++ (B ++ ((g ++ k) ++ reverse names))) ≡ (H ++ (E ++ (Z ++ B))) ++ (g ++ (k ++ reverse names))
      c2 = simp append_assoc

      c3 : (H ++ (E ++ (Z ++ B))) ++ (F ++ (k ++ reverse names)) ≡ (H ++ (E ++ (Z ++ (B ++ F)))) ++ (k ++ reverse names)
      c3 = simp append_assoc

      c4 : (H ++ (E ++ (Z ++ (B ++ F)))) ++ (names ++ reverse k) ≡ (H ++ (E ++ (Z ++ (B ++ (F ++ names))))) ++ (reverse k ++ [])
      c4 = simp (append_assoc, append-nil)

      c5 : (H ++ (E ++ (Z ++ (B ++ (F ++ names))))) ++ (Y ++ []) ≡ [] ++ (H ++ (E ++ (Z ++ (B ++ (F ++ (names ++ Y))))))
      c5 = simp (append_assoc, append-nil)

zeros_are : replicate 16 0 ≡ bytes8 0 ++ bytes8 0
unfolding bytes8 bytes4
zeros_are = refl

blob_is : (rs : List Region) (xs : List Part) (y : List ℕ)
    → header (16 * (length rs + 1)) (parts_size xs + 4) (names_size xs) ++ (entries_bytes rs ++ ((bytes8 0 ++ bytes8 0) ++ (parts_bytes 0 xs ++ (bytes4 9 ++ (names_bytes xs ++ y)))))
    ≡ blob rs xs ++ y
unfolding blob blocks_bytes reservation_bytes structure_bytes
blob_is rs xs y = simp append_assoc

module _ (buf : List ℕ) (rs : List Region) (xs : List Part) (l : Layout buf rs xs) (w : Writer)
    (er : w.reserved ≡ length rs) (es : w.structure ≡ parts_size xs) (en : w.strings ≡ names_size xs) where
  abbrev Z : List ℕ
  Z = replicate 16 0

  abbrev Y : List ℕ
  Y = replicate (length buf - (end_at w + w.strings)) 0

  four : part_at w + 4 + w.strings ≤ length buf → 4 ≤ length l.gap
  four h = omega (arith, whole_long buf rs xs l)

  sizes : blob_size rs xs ≡ end_at w + w.strings
  unfolding blob_size
  sizes = omega arith

  -- what finishing leaves in the buffer
  pub blob_laid_lem : part_at w + 4 + w.strings ≤ length buf → blob_laid w buf ≡ blob rs xs ++ replicate (length buf - blob_size rs xs) 0
  unfolding blob_laid blocks_laid
  blob_laid_lem h =
      let D = header (16 * (w.reserved + 1)) (w.structure + 4) w.strings in
      ap (λ (s : List ℕ). laid (laid (turned (laid (laid s (40 + 16 * w.reserved) Z) (part_at w) (bytes4 9)) (end_at w)) (end_at w + w.strings) Y) 0 D) start
      ∙ finish_shape l.head (entries_bytes rs) l.mark (parts_bytes 0 xs) (take 4 l.gap) (drop 4 l.gap) (names_bytes xs) Z (bytes4 9) Y D
      (40 + 16 * w.reserved) (part_at w) (end_at w) (end_at w + w.strings)
      (simp length-append (omega (arith, hl, el)))
      (l.mark_long ∙ sym zl)
      (simp length-append (omega (arith, hl, el, zl, pl)))
      (length-take-le 4 l.gap (four h) ∙ sym fl)
      (simp length-append (omega (arith, hl, el, zl, pl, fl)))
      (simp length-append (omega (arith, hl, el, zl, pl, fl, nl)))
      (length-drop 4 l.gap ∙ omega (arith, whole_long buf rs xs l, four h, yl))
      (hl ∙ sym (header_length (16 * (w.reserved + 1)) (w.structure + 4) w.strings))
      ∙ same
    where
      start : buf ≡ l.head ++ (entries_bytes rs ++ (l.mark ++ (parts_bytes 0 xs ++ ((take 4 l.gap ++ drop 4 l.gap) ++ reverse (names_bytes xs)))))
      start = l.is ∙ ap (λ (s : List ℕ). l.head ++ (entries_bytes rs ++ (l.mark ++ (parts_bytes 0 xs ++ (s ++ reverse (names_bytes xs)))))) (sym (take-append-drop 4 l.gap))

      hl : length l.head ≡ 40
      hl = l.head_long

      el : length (entries_bytes rs) ≡ 16 * length rs
      el = entries_length rs

      zl : length Z ≡ 16
      zl = length-replicate {A = ℕ} 16 0

      pl : length (parts_bytes 0 xs) ≡ parts_size xs
      pl = parts_length 0 xs

      fl : length (bytes4 9) ≡ 4
      fl = bytes4_length 9

      nl : length (names_bytes xs) ≡ names_size xs
      nl = names_length xs

      yl : length Y ≡ length buf - (end_at w + w.strings)
      yl = length-replicate {A = ℕ} (length buf - (end_at w + w.strings)) 0

      same : header (16 * (w.reserved + 1)) (w.structure + 4) w.strings ++ (entries_bytes rs ++ (Z ++ (parts_bytes 0 xs ++ (bytes4 9 ++ (names_bytes xs ++ Y)))))
          ≡ blob rs xs ++ replicate (length buf - blob_size rs xs) 0
      same =
          ap (λ (k : ℕ). header (16 * (k + 1)) (w.structure + 4) w.strings ++ (entries_bytes rs ++ (Z ++ (parts_bytes 0 xs ++ (bytes4 9 ++ (names_bytes xs ++ Y)))))) er
          ∙ ap (λ (k : ℕ). header (16 * (length rs + 1)) (k + 4) w.strings ++ (entries_bytes rs ++ (Z ++ (parts_bytes 0 xs ++ (bytes4 9 ++ (names_bytes xs ++ Y)))))) es
          ∙ ap (λ (k : ℕ). header (16 * (length rs + 1)) (parts_size xs + 4) k ++ (entries_bytes rs ++ (Z ++ (parts_bytes 0 xs ++ (bytes4 9 ++ (names_bytes xs ++ Y)))))) en
          ∙ ap (λ (s : List ℕ). header (16 * (length rs + 1)) (parts_size xs + 4) (names_size xs) ++ (entries_bytes rs ++ (s ++ (parts_bytes 0 xs ++ (bytes4 9 ++ (names_bytes xs ++ Y)))))) zeros_are
          ∙ blob_is rs xs Y
          ∙ ap (λ (k : ℕ). blob rs xs ++ replicate (length buf - k) 0) (sym sizes)

-- ── THE THEOREM ──
-- outside every node, with a root, the size is that of the blob
final_is : (w : Writer) (rs : List Region) (xs : List Part) → w.reserved ≡ length rs → w.structure ≡ parts_size xs → w.strings ≡ names_size xs
    → (w.nodes ≡ 0 → ⊥) → w.depth ≡ 0 → final_size w ≡ blob_size rs xs
unfolding final_size blob_size
final_is w rs xs er es en n d = rw (ne_eqb _ _ n) (omega arith)

same_size : (w : Writer) → final_size (after w finish) ≡ final_size w
unfolding final_size after
same_size w = refl

-- the parts of a writer whose root has ended are a tree's, within the limits
pub whole_tree : (w : Writer) (buf : List ℕ) (rs : List Region) (xs : List Part) → Holds w buf rs xs → FinishTurn w
    → (ps : List NamedValue) × (kids : Forest) × (xs ≡ tree_parts ps kids) × (suc (levels_of kids) ≤ 32) × (suc (nodes_of kids) ≤ 4096)
unfolding parts_toks
whole_tree w buf rs xs k t =
    parts_tree 32 4096 (omega arith) (omega arith) xs
    (ap (λ (l : List Part). run_t (parts_toks 0 l) 0 0 false) (sym (append-nil xs)) ∙ k.run 32 4096 as_given [] ∙ run_fin 32 4096 w.depth w.nodes w.props t.outside t.rooted)

module _ (w : Writer) (buf : List ℕ) (a : Account) where
  finished_holding : Holds w buf a.entries a.parts → answer_of w finish (length buf) ≡ Ok tt → Finishes buf a (outcome w finish buf)
  finished_holding k d =
      let p = call_passed w finish (length buf) d in
      let t = finish_turn w p.turned in
      let s = same_size w in
      let f = final_is w a.entries a.parts k.reserved k.structure k.strings t.rooted t.outside in
      let q = sizes buf a.entries a.parts (k.layout (omega (arith, p.fits))) w k.reserved k.structure k.strings in
      let r = whole_tree w buf a.entries a.parts k t in
      let o = outcome_done w finish buf d in
      let z : (outcome w finish buf).size ≡ blob_size a.entries a.parts = ap (λ (x : Outcome). x.size) o ∙ f in
      let e : (outcome w finish buf).buffer ≡ blob a.entries a.parts ++ replicate (length buf - blob_size a.entries a.parts) 0 =
      ap (λ (x : Outcome). x.buffer) o ∙ blob_laid_lem buf a.entries a.parts (k.layout (omega (arith, p.fits))) w k.reserved k.structure k.strings (omega (arith, p.fits)) in
      made r z e k (omega (arith, p.small)) (omega (arith, p.fits))
    where
      made : (r : (ps : List NamedValue) × (kids : Forest) × (a.parts ≡ tree_parts ps kids) × (suc (levels_of kids) ≤ 32) × (suc (nodes_of kids) ≤ 4096))
          → (outcome w finish buf).size ≡ blob_size a.entries a.parts
          → (outcome w finish buf).buffer ≡ blob a.entries a.parts ++ replicate (length buf - blob_size a.entries a.parts) 0
          → Holds w buf a.entries a.parts → blob_size a.entries a.parts ≤ 1048576 → blob_size a.entries a.parts ≤ length buf
          → Finishes buf a (outcome w finish buf)
      made (ps, kids, parts, levels, nodes) z e k small fits =
          let within : Within a.entries ps kids =
          record { levels = levels; nodes = nodes; bytes = subst (λ (l : List Part). blob_size a.entries l ≤ 1048576) parts small; clean = subst AllClean parts k.clean; entries = k.entries } in
          let b : (outcome w finish buf).buffer ≡ blob a.entries (tree_parts ps kids) ++ replicate (length buf - (outcome w finish buf).size) 0 =
          e ∙ ap (λ (l : List Part). blob a.entries l ++ replicate (length buf - blob_size a.entries a.parts) 0) parts
          ∙ ap (λ (n : ℕ). blob a.entries (tree_parts ps kids) ++ replicate (length buf - n) 0) (sym z) in
          let l = blob_length a.entries a.parts in
          record {
            tree = record { props = ps; kids = kids; parts = parts };
            bytes = b;
            size = z ∙ sym (ap (λ (l : List Part). length (blob a.entries l)) (sym parts) ∙ l);
            long = ap length e ∙ length-append (blob a.entries a.parts) (replicate (length buf - blob_size a.entries a.parts) 0)
                ∙ omega (arith, l, length-replicate {A = ℕ} (length buf - blob_size a.entries a.parts) 0);
            alone = subst (λ (s : List ℕ). ReadBack s a.entries ps kids) (append-nil (blob a.entries (tree_parts ps kids))) (reads_back a.entries ps kids [] within);
            inside = subst (λ (s : List ℕ). ReadBack s a.entries ps kids) (sym b) (reads_back a.entries ps kids (replicate (length buf - (outcome w finish buf).size) 0) within);
          }

-- WHAT FINISH LEAVES, after every sequence of calls
pub finishes : {w : Writer} {buf : List ℕ} {a : Account} → History w buf a → write_number (outcome w finish buf).answer ≡ 0 → Finishes buf a (outcome w finish buf)
finishes {w} {buf} {a} h n = go (stands h)
  where
    done : answer_of w finish (length buf) ≡ Ok tt
    done = done_is _ (ap write_number (sym (outcome_answer w finish buf)) ∙ n)

    go : Stands w buf a → Finishes buf a (outcome w finish buf)
    go (going f k) = finished_holding w buf a k done
    go (over e f) =
        let t = (call_passed w finish (length buf) done).turned in
        let u = over_turn w finish e in
        never (cc)
