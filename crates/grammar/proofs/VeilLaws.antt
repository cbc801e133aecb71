-- Value bytes that nobody asked for do not matter, and padding does not: bytes that differ only in values of free properties and in padding
-- have the same verdict, and the same tree but for those values. First of the blocks, then of whole trees. Assumes nothing.
use mathlib.Core.Path.{◌≡◌, refl, sym, ◌∙◌, ap}
use mathlib.Core.Logic.{⊎_elim}
use Prim.Native.Nat.{ℕ, zero, suc, ◌+◌, ◌-◌, ◌≤◌, ◌<◌}
use native.Mathlib.Omega.{arith}
use mathlib.Core.List.{List, [], ◌∷◌}
use mathlib.Core.Bool.{Bool, true, false, cond}
use lib.ListN.{length, get_or, take, drop, length-take, length-drop}
use lib.Seq.{get_or-take, get_or-drop, ext_get_or}
use lib.Dec.{ltb, leb, eqb}
use borrow.Author.Tests.{leb-true, leb-false, ltb-true}
use Rattle.words.specs.Bytes.{word, byte_from, string_end, align4, bytes}
use Rattle.fdt.specs.Token.{tok_at, numbered, begin_at, prop_at}
use Rattle.fdt.specs.Walk.{walked}
use Rattle.fdt.specs.Tree.{Property, Nodes, none, node, Tok, begin, ended, prop, fin, bad, taken, lex, lex_at, Level, level, opened, added, levels, top, tree_of}
use Rattle.fdt.specs.Header.{GoodHeader, good_header, off_dt_struct, off_dt_strings, size_dt_struct, size_dt_strings, structure_of, strings_of}
use Rattle.fdt.specs.Opening.{blocks_of, opened_of}
use Rattle.fdt.specs.declared.Token.{Token}
use Rattle.fdt.specs.declared.Token.TheVariants.{Bad, Nop, Begin, EndNode, Prop, Fin}
use Rattle.words.proofs.BytesLaws.{never, cond_elim, from_ge, bytes_long}
use Rattle.fdt.proofs.TokLaws.{Reach, reach, prop_short}
use Rattle.fdt.proofs.HeaderLaws.{good_header_lem, structure_length, structure_at_lem, strings_length, strings_at}
use Rattle.grammar.specs.Veil.{Free, blank, veil, veil_p, veil_k, veil_t, Inside, Padding, BlockDiffers, Differs, PaddingDiffers, Apart}
use Rattle.grammar.proofs.TreeLaws.{run_l, run_t, walked_run}

-- ── Readings that depend only on the bytes they read ──

pub word_same : (b c : List ℕ) (p : ℕ) → ((i : ℕ) → p ≤ i → i < p + 4 → get_or b i 0 ≡ get_or c i 0) → word b p ≡ word c p
unfolding word
word_same b c p h =
    rw (h p (omega arith) (omega arith), h (p + 1) (omega arith) (omega arith), h (p + 2) (omega arith) (omega arith), h (p + 3) (omega arith) (omega arith))

byte_step : (b c : List ℕ) (n p : ℕ) → get_or b p 0 ≡ get_or c p 0 → (eqb (get_or b p 0) 0 ≡ false → byte_from 0 b n (p + 1) ≡ byte_from 0 c n (p + 1)) → byte_from 0 b (suc n) p ≡ byte_from 0 c (suc n) p
unfolding byte_from
byte_step b c n p e h = rw (← e) (go (eqb (get_or b p 0) 0) h)
  where
    go : (t : Bool) → (t ≡ false → byte_from 0 b n (p + 1) ≡ byte_from 0 c n (p + 1)) → cond t p (byte_from 0 b n (p + 1)) ≡ cond t p (byte_from 0 c n (p + 1))
    go true h = refl
    go false h = h refl

byte_same : (b c : List ℕ) (n p : ℕ) → ((i : ℕ) → p ≤ i → i < p + n → i ≤ byte_from 0 b n p → get_or b i 0 ≡ get_or c i 0) → byte_from 0 b n p ≡ byte_from 0 c n p
unfolding byte_from
byte_same b c zero p h = refl
byte_same b c (suc n) p h =
    byte_step b c n p (h p (omega arith) (omega arith) (from_ge 0 b (suc n) p)) (λ q. byte_same b c n (p + 1) (λ i x y z. h i (omega arith) (omega arith) (rw q z)))

bytes_same : (b c : List ℕ) (a z : ℕ) → length b ≡ length c → ((i : ℕ) → a ≤ i → i < z → get_or b i 0 ≡ get_or c i 0) → bytes b a z ≡ bytes c a z
bytes_same b c a z l h =
    ext_get_or 0 (bytes b a z) (bytes c a z) (simp (length-take, length-drop) (rw l)) (λ i q.
    let w : length (take (z - a) (drop a b)) ≤ z - a = simp (length-take, length-drop) (omega arith) in
    let k : i < z - a = omega arith in
    rw (get_or-take (z - a) (drop a b) i 0 k, get_or-take (z - a) (drop a c) i 0 k, get_or-drop a b i 0, get_or-drop a c i 0) (h (a + i) (omega arith) (omega arith)))

blank_same : (x y : List ℕ) → length x ≡ length y → blank x ≡ blank y
unfolding blank
blank_same [] [] h = refl
blank_same [] (y ∷ ys) h = let w : ⊥ = omega arith in absurd w
blank_same (x ∷ xs) [] h = let w : ⊥ = omega arith in absurd w
blank_same (x ∷ xs) (y ∷ ys) h = let q : length xs ≡ length ys = omega arith in rw (blank_same xs ys q)

-- ── The values among the tokens from p on lie past p, and inside the block ──

module _ (free : Free) (b n : List ℕ) where
  abbrev Spans : ℕ → List Tok → Type 0
  Spans p ts = (i : ℕ) → Inside free ts i → (p + 12 ≤ i) × (i < length b)

  spans_taken : (p : ℕ) (t : Token) (k : ℕ → List Tok) → Reach p (length b) (length n) t → ((q : ℕ) → Spans q (k q)) → Spans p (taken b n p t k)
  unfolding Inside
  spans_taken p Bad k r h i x = absurd x
  spans_taken p (Nop m) k r h i x = let y = h m i x in (omega arith, y.1)
  spans_taken p (Begin l m) k r h i x = let y = h m i x in (omega arith, y.1)
  spans_taken p (EndNode m) k r h i x = let y = h m i x in (omega arith, y.1)
  spans_taken p (Prop l a z m) k r h i x =
      let w : length (bytes b (p + 12) (p + 12 + l)) ≤ l = simp (length-take, length-drop) (omega arith) in
      ⊎_elim (λ y. (y.1, let u = y.2 in omega arith)) (λ y. let u = h m i y in (omega arith, u.1)) x
  spans_taken p Fin k r h i x = absurd x

  spans_lex : (f p : ℕ) → Spans p (lex f b n p)
  unfolding lex Inside
  spans_lex zero p = λ i x. absurd x
  spans_lex (suc f) p = spans_taken p (tok_at b n p) (λ q. lex f b n q) (reach b n p) (λ q. spans_lex f q)

  pub spans : (p : ℕ) → Spans p (lex_at b n p)
  unfolding lex_at
  spans p = spans_lex (suc (length b)) p

-- ── What follows a token stands at the next multiple of 4; and the padding among the tokens from p on lies past p ──

abbrev Next : ℕ → Token → Type 0
Next p Bad = Unit {0}
Next p (Nop q) = Unit {0}
Next p (Begin l q) = q ≡ align4 (p + 4 + l + 1)
Next p (EndNode q) = Unit {0}
Next p (Prop l a z q) = q ≡ align4 (p + 12 + l)
Next p Fin = Unit {0}

module _ (b n : List ℕ) (p : ℕ) where
  next_begin : Next p (begin_at b p)
  unfolding begin_at
  next_begin =
      let h = from_ge 0 b (length b - (p + 4)) (p + 4) in
      cond_elim (Next p) (ltb (string_end b (p + 4)) (length b)) _ _ (λ t. omega arith) (λ t. tt)

  next_prop : Next p (prop_at b n p)
  unfolding prop_at
  next_prop =
      cond_elim (Next p) (leb (p + 12 + word b (p + 4)) (length b)) _ _
      (λ t. cond_elim (Next p) (ltb (string_end n (word b (p + 8))) (length n)) _ _ (λ u. refl) (λ u. tt)) (λ t. tt)

  next : Next p (tok_at b n p)
  unfolding tok_at numbered
  next =
      let w = word b p in
      cond_elim (Next p) (leb (p + 4) (length b)) _ _
      (λ t. cond_elim (Next p) (eqb w 1) _ _ (λ t. next_begin)
      (λ t. cond_elim (Next p) (eqb w 2) _ _ (λ t. tt)
      (λ t. cond_elim (Next p) (eqb w 3) _ _ (λ t. next_prop)
      (λ t. cond_elim (Next p) (eqb w 4) _ _ (λ t. tt)
      (λ t. cond_elim (Next p) (eqb w 9) _ _ (λ t. cond_elim (Next p) (eqb (p + 4) (length b)) _ _ (λ t. tt) (λ t. tt)) (λ t. tt))))))
      (λ t. tt)

module _ (b n : List ℕ) where
  abbrev Pads : ℕ → List Tok → Type 0
  Pads p ts = (i : ℕ) → Padding ts i → p + 4 < i

  pads_taken : (p : ℕ) (t : Token) (k : ℕ → List Tok) → Reach p (length b) (length n) t → ((q : ℕ) → Pads q (k q)) → Pads p (taken b n p t k)
  unfolding Padding
  pads_taken p Bad k r h i x = absurd x
  pads_taken p (Nop m) k r h i x = let y = h m i x in omega arith
  pads_taken p (Begin l m) k r h i x = ⊎_elim (λ y. omega arith) (λ y. let u = h m i y in omega arith) x
  pads_taken p (EndNode m) k r h i x = let y = h m i x in omega arith
  pads_taken p (Prop l a z m) k r h i x = ⊎_elim (λ y. omega arith) (λ y. let u = h m i y in omega arith) x
  pads_taken p Fin k r h i x = absurd x

  pads_lex : (f p : ℕ) → Pads p (lex f b n p)
  unfolding lex Padding
  pads_lex zero p = λ i x. absurd x
  pads_lex (suc f) p = pads_taken p (tok_at b n p) (λ q. lex f b n q) (reach b n p) (λ q. pads_lex f q)

-- ── The tokens of two blocks that agree outside the values and the padding among the tokens of the first ──

module _ (free : Free) (n b c : List ℕ) (len : length b ≡ length c) where
  abbrev Agree : ℕ → List Tok → Type 0
  Agree p ts = (i : ℕ) → p ≤ i → i < length b → (Inside free ts i → ⊥) → (Padding ts i → ⊥) → get_or b i 0 ≡ get_or c i 0

  module _ (p : ℕ) (k : ℕ → List Tok) (sp : (q : ℕ) → Spans free b n q (k q)) (pd : (q : ℕ) → Pads b n q (k q)) where
    -- the first four bytes are in no value, and no padding
    near : Agree p (taken b n p (tok_at b n p) k) → (i : ℕ) → p ≤ i → i < p + 4 → i < length b → get_or b i 0 ≡ get_or c i 0
    near h i x y z =
        h i x z (λ v. let r = spans_taken free b n p (tok_at b n p) k (reach b n p) sp i v in omega arith)
        (λ v. let r = pads_taken b n p (tok_at b n p) k (reach b n p) pd i v in omega arith)

    -- neither is a node's name, with its zero byte
    begin_clear : (i : ℕ) → i ≤ string_end b (p + 4) → Inside free (taken b n p (begin_at b p) k) i → ⊥
    unfolding begin_at Inside
    begin_clear i x =
        cond_elim (λ (t : Token). Inside free (taken b n p t k) i → ⊥) (ltb (string_end b (p + 4)) (length b)) _ _
        (λ u v. let r = sp _ i v in omega arith) (λ u v. v)

    begin_unpadded : (i : ℕ) → i ≤ string_end b (p + 4) → Padding (taken b n p (begin_at b p) k) i → ⊥
    unfolding begin_at Padding
    begin_unpadded i x =
        let h = from_ge 0 b (length b - (p + 4)) (p + 4) in
        cond_elim (λ (t : Token). Padding (taken b n p t k) i → ⊥) (ltb (string_end b (p + 4)) (length b)) _ _
        (λ u v.
        let lt : string_end b (p + 4) < length b = ltb-true _ _ u in
        let e = bytes_long b (p + 4) (string_end b (p + 4) - (p + 4)) (omega arith) in
        ⊎_elim (λ y. let y0 = y.0 in omega arith) (λ y. let r = pd _ i y in omega arith) v)
        (λ u v. v)

    begin_same : p + 4 ≤ length b → Agree p (taken b n p (begin_at b p) k) → begin_at b p ≡ begin_at c p
    unfolding begin_at
    begin_same le h =
        let z = byte_same b c (length b - (p + 4)) (p + 4) (λ i x y w. h i (omega arith) (omega arith) (begin_clear i w) (begin_unpadded i w)) in
        rw (z, len)

    -- nor are the two numbers of a property
    prop_clear : (i : ℕ) → i < p + 12 → Inside free (taken b n p (prop_at b n p) k) i → ⊥
    unfolding prop_at Inside
    prop_clear i x =
        cond_elim (λ (t : Token). Inside free (taken b n p t k) i → ⊥) (leb (p + 12 + word b (p + 4)) (length b)) _ _
        (λ u. cond_elim (λ (t : Token). Inside free (taken b n p t k) i → ⊥) (ltb (string_end n (word b (p + 8))) (length n)) _ _
        (λ w v. ⊎_elim (λ y. let y1 = y.1 in omega arith) (λ y. let r = sp _ i y in omega arith) v) (λ w v. v)) (λ u v. v)

    prop_unpadded : (i : ℕ) → i < p + 12 → Padding (taken b n p (prop_at b n p) k) i → ⊥
    unfolding prop_at Padding
    prop_unpadded i x =
        cond_elim (λ (t : Token). Padding (taken b n p t k) i → ⊥) (leb (p + 12 + word b (p + 4)) (length b)) _ _
        (λ u. cond_elim (λ (t : Token). Padding (taken b n p t k) i → ⊥) (ltb (string_end n (word b (p + 8))) (length n)) _ _
        (λ w v. ⊎_elim (λ y. let y0 = y.0 in omega arith) (λ y. let r = pd _ i y in omega arith) v) (λ w v. v)) (λ u v. v)

    prop_same : Agree p (taken b n p (prop_at b n p) k) → prop_at b n p ≡ prop_at c n p
    unfolding prop_at
    prop_same h = go (leb (p + 12) (length b)) refl
      where
        go : (t : Bool) → leb (p + 12) (length b) ≡ t → prop_at b n p ≡ prop_at c n p
        go false q =
            let lt : length b < p + 12 = leb-false _ _ q in
            sym (prop_short b n p lt) ∙ prop_short c n p (omega arith)
        go true q =
            let le : p + 12 ≤ length b = leb-true _ _ q in
            let near12 : (i : ℕ) → p ≤ i → i < p + 12 → get_or b i 0 ≡ get_or c i 0 = λ i x y. h i x (omega arith) (prop_clear i y) (prop_unpadded i y) in
            let w4 = word_same b c (p + 4) (λ i x y. near12 i (omega arith) (omega arith)) in
            let w8 = word_same b c (p + 8) (λ i x y. near12 i (omega arith) (omega arith)) in
            rw (w4, w8, len)

    numbered_same : (w : ℕ) → p + 4 ≤ length b → Agree p (taken b n p (numbered b n p w) k) → numbered b n p w ≡ numbered c n p w
    unfolding numbered
    numbered_same w le h = go (eqb w 1) refl (eqb w 2) refl (eqb w 3) refl
      where
        go : (t : Bool) → eqb w 1 ≡ t → (u : Bool) → eqb w 2 ≡ u → (v : Bool) → eqb w 3 ≡ v → numbered b n p w ≡ numbered c n p w
        go true q u x v y = rw q (begin_same le (rw q at h))
        go false q true x v y = rw (q, x)
        go false q false x true y = rw (q, x, y) (prop_same (rw (q, x, y) at h))
        go false q false x false y = rw (q, x, y, len)

    tok_same : Agree p (taken b n p (tok_at b n p) k) → tok_at b n p ≡ tok_at c n p
    unfolding tok_at
    tok_same h = go (leb (p + 4) (length b)) refl
      where
        go : (t : Bool) → leb (p + 4) (length b) ≡ t → tok_at b n p ≡ tok_at c n p
        go false q = rw (← len, q)
        go true q =
            let le : p + 4 ≤ length b = leb-true _ _ q in
            let w = word_same b c p (λ i x y. near h i x (omega arith) (omega arith)) in
            rw (← len, q, ← w) (numbered_same (word b p) le (rw q at h))

    value_same : (l a z m : ℕ) → p + 12 + l ≤ length b → p + 12 + l ≤ m → Agree p (taken b n p (Prop l a z m) k) → (t : Bool) → free p (bytes n a z) ≡ t
        → cond t (blank (bytes b (p + 12) (p + 12 + l))) (bytes b (p + 12) (p + 12 + l)) ≡ cond t (blank (bytes c (p + 12) (p + 12 + l))) (bytes c (p + 12) (p + 12 + l))
    unfolding Inside Padding
    value_same l a z m le far h true f = blank_same _ _ (simp (length-take, length-drop) (rw len))
    value_same l a z m le far h false f =
        let e = bytes_long b (p + 12) l le in
        bytes_same b c (p + 12) (p + 12 + l) len (λ i x y. h i (omega arith) (omega arith) (λ v.
        ⊎_elim (λ u. let g : free p (bytes n a z) ≡ true = u.0 in never (cc)) (λ u. let r = sp m i u in omega arith) v)
        (λ v. ⊎_elim (λ u. let g = u.0 in omega arith) (λ u. let r = pd m i u in omega arith) v))

    taken_veil : (j : ℕ → List Tok) (x : Token) → Reach p (length b) (length n) x → Next p x → Agree p (taken b n p x k)
        → ((q : ℕ) → p + 4 ≤ q → Agree q (k q) → veil_t free (k q) ≡ veil_t free (j q)) → veil_t free (taken b n p x k) ≡ veil_t free (taken c n p x j)
    unfolding veil_t veil Inside Padding
    taken_veil j Bad r m h ih = refl
    taken_veil j (Nop q) r m h ih = ih q r.1 (λ i u v w o. h i (omega arith) v w o)
    taken_veil j (Begin l q) r m h ih =
        let w = bytes_long b (p + 4) l (omega arith) in
        let e = bytes_same b c (p + 4) (p + 4 + l) len (λ i u v. h i (omega arith) (omega arith) (λ w. let y = sp q i w in omega arith) (λ o. ⊎_elim (λ g. let g0 = g.0 in let bot : ⊥ = omega arith in bot) (λ g. let y = pd q i g in omega arith) o)) in
        rw (e, ih q r.1 (λ i u v x o. h i (omega arith) v x (λ d. ⊎_elim (λ g. let g1 = g.1 in let bot : ⊥ = omega arith in bot) o d)))
    taken_veil j (EndNode q) r m h ih = rw (ih q r.1 (λ i u v w o. h i (omega arith) v w o))
    taken_veil j (Prop l a z q) r m h ih =
        let v = value_same l a z q r.3 r.4 h (free p (bytes n a z)) refl in
        let w = bytes_long b (p + 12) l r.3 in
        let e = ih q r.1 (λ i u x y o. h i (omega arith) x (λ d. ⊎_elim (λ g. let g2 = g.2 in let bot : ⊥ = omega arith in bot) y d) (λ d. ⊎_elim (λ g. let g1 = g.1 in let bot : ⊥ = omega arith in bot) o d)) in
        rw (v, e)
    taken_veil j Fin r m h ih = refl

  lex_veil : (f p : ℕ) → Agree p (lex f b n p) → veil_t free (lex f b n p) ≡ veil_t free (lex f c n p)
  unfolding lex
  lex_veil zero p h = refl
  lex_veil (suc f) p h =
      let k : ℕ → List Tok = λ q. lex f b n q in
      let sp : (q : ℕ) → Spans free b n q (lex f b n q) = λ q. spans_lex free b n f q in
      let pd : (q : ℕ) → Pads b n q (lex f b n q) = λ q. pads_lex b n f q in
      let w = tok_same p k sp pd h in
      rw (← w) (taken_veil p k sp pd (λ q. lex f c n q) (tok_at b n p) (reach b n p) (next b n p) h (λ q a g. lex_veil f q g))

-- ── The walk does not look at values, and the tree read back from veiled tokens is the veiled tree ──

module _ (free : Free) where
  run_veil : (ts : List Tok) (d c : ℕ) (a : Bool) → run_t (veil_t free ts) d c a ≡ run_t ts d c a
  unfolding run_l veil_t
  run_veil [] d c a = refl
  run_veil (begin p nm ∷ ts) zero c a = rw (run_veil ts 1 1 true)
  run_veil (begin p nm ∷ ts) (suc d) c a = rw (run_veil ts (suc (suc d)) (suc c) true)
  run_veil (ended ∷ ts) zero c a = refl
  run_veil (ended ∷ ts) (suc d) c a = run_veil ts d c false
  run_veil (prop q ∷ ts) d c a = rw (run_veil ts d c true)
  run_veil (fin ∷ []) zero c a = refl
  run_veil (fin ∷ []) (suc d) c a = refl
  run_veil (fin ∷ begin p nm ∷ ts) d c a = refl
  run_veil (fin ∷ ended ∷ ts) d c a = refl
  run_veil (fin ∷ prop q ∷ ts) d c a = refl
  run_veil (fin ∷ fin ∷ ts) d c a = refl
  run_veil (fin ∷ bad ∷ ts) d c a = refl
  run_veil (bad ∷ ts) d c a = refl

  veil_l : List Level → List Level
  veil_l [] = []
  veil_l (l ∷ ls) = level (veil_p free l.lprops) (veil_k free l.lkids) ∷ veil_l ls

  opened_veil : (p : ℕ) (nm : List ℕ) (ls : List Level) → opened p nm (veil_l ls) ≡ veil_l (opened p nm ls)
  unfolding veil_l veil_k
  opened_veil p nm [] = refl
  opened_veil p nm (l ∷ []) = refl
  opened_veil p nm (l ∷ m ∷ ls) = refl

  added_veil : (q : Property) (ls : List Level) → added (veil free q) (veil_l ls) ≡ veil_l (added q ls)
  unfolding veil_l veil_p
  added_veil q [] = refl
  added_veil q (l ∷ ls) = refl

  levels_veil : (ts : List Tok) → levels (veil_t free ts) ≡ veil_l (levels ts)
  unfolding levels veil_t veil_l veil_k veil_p
  levels_veil [] = refl
  levels_veil (begin p nm ∷ ts) = ap (opened p nm) (levels_veil ts) ∙ opened_veil p nm (levels ts)
  levels_veil (ended ∷ ts) = ap (λ (x : List Level). level [] none ∷ x) (levels_veil ts)
  levels_veil (prop q ∷ ts) = ap (added (veil free q)) (levels_veil ts) ∙ added_veil q (levels ts)
  levels_veil (fin ∷ ts) = refl
  levels_veil (bad ∷ ts) = refl

  top_veil : (ls : List Level) → top (veil_l ls) ≡ veil_k free (top ls)
  unfolding veil_l veil_k
  top_veil [] = refl
  top_veil (l ∷ ls) = refl

  tree_veil : (b n : List ℕ) → top (levels (veil_t free (lex_at b n 0))) ≡ veil_k free (tree_of b n)
  unfolding tree_of
  tree_veil b n = ap top (levels_veil (lex_at b n 0)) ∙ top_veil (levels (lex_at b n 0))

-- ── THE THEOREMS ON BLOCKS ──

module _ (free : Free) (n b c : List ℕ) (d : BlockDiffers free n b c) where
  pub tokens_veil : veil_t free (lex_at b n 0) ≡ veil_t free (lex_at c n 0)
  unfolding lex_at
  tokens_veil =
      lex_veil free n b c d.long (suc (length b)) 0 (λ i x y h o. d.bytes i y h o)
      ∙ ap (λ (x : ℕ). veil_t free (lex (suc x) c n 0)) d.long

  pub same_walk : walked b n ≡ walked c n
  same_walk =
      walked_run b n ∙ sym (run_veil free (lex_at b n 0) 0 0 false) ∙ ap (λ (x : List Tok). run_t x 0 0 false) tokens_veil
      ∙ run_veil free (lex_at c n 0) 0 0 false ∙ sym (walked_run c n)

  pub same_tree : veil_k free (tree_of b n) ≡ veil_k free (tree_of c n)
  same_tree = sym (tree_veil free b n) ∙ ap (λ (x : List Tok). top (levels x)) tokens_veil ∙ tree_veil free c n

-- ── THE THEOREMS ON WHOLE TREES ──

module _ (free : Free) (s t : List ℕ) (d : Differs free s t) (apart : Apart s) where
  module _ (g : GoodHeader s) where
    front_word : (p : ℕ) → p + 4 ≤ 40 → word s p ≡ word t p
    front_word p h = word_same s t p (λ i x y. d.bytes i (omega arith) (λ v. omega arith) (λ v. omega arith))

    same_test : good_header s ≡ good_header t
    unfolding good_header
    same_test =
        rw (d.long, front_word 0 (omega arith), front_word 4 (omega arith), front_word 8 (omega arith), front_word 12 (omega arith), front_word 20 (omega arith), front_word 24 (omega arith), front_word 32 (omega arith), front_word 36 (omega arith))

    good_there : GoodHeader t
    good_there = (good_header_lem t).0 (sym same_test ∙ (good_header_lem s).1 g)

    same_blocks : blocks_of s ≡ blocks_of t
    unfolding blocks_of
    same_blocks =
        rw (front_word 8 (omega arith), front_word 36 (omega arith), front_word 12 (omega arith), front_word 32 (omega arith), front_word 16 (omega arith))

    -- all bytes outside the structure block are the same: header, reservation block, strings
    outside : (i : ℕ) → i < length s → (off_dt_struct s ≤ i → i < off_dt_struct s + size_dt_struct s → ⊥) → get_or s i 0 ≡ get_or t i 0
    outside i l h =
        d.bytes i l (λ v.
        let r = spans free (structure_of s) (strings_of s) 0 (i - off_dt_struct s) v.inside in
        let e = structure_length s g in
        let f = v.from in
        h f (omega arith))
        (λ v. h v.from v.upto)

    strings_same : strings_of s ≡ strings_of t
    strings_same =
        let ls = strings_length s g in
        let lt = strings_length t good_there in
        let ez : size_dt_strings s ≡ size_dt_strings t = front_word 32 (omega arith) in
        let eo : off_dt_strings s ≡ off_dt_strings t = front_word 12 (omega arith) in
        ext_get_or 0 (strings_of s) (strings_of t) (ls ∙ ez ∙ sym lt) (λ i q.
        strings_at s g i (omega arith)
        ∙ outside (off_dt_strings s + i) (omega arith) (λ x y. apart (off_dt_strings s + i) x y (omega arith) (omega arith))
        ∙ ap (λ (x : ℕ). get_or t (x + i) 0) eo
        ∙ sym (strings_at t good_there i (omega arith)))

    structures_differ : BlockDiffers free (strings_of s) (structure_of s) (structure_of t)
    structures_differ =
        let ls = structure_length s g in
        let lt = structure_length t good_there in
        let ez : size_dt_struct s ≡ size_dt_struct t = front_word 36 (omega arith) in
        let eo : off_dt_struct s ≡ off_dt_struct t = front_word 8 (omega arith) in
        record {
          long = ls ∙ ez ∙ sym lt;
          bytes = λ i q h o.
              structure_at_lem s g i (omega arith)
              ∙ d.bytes (off_dt_struct s + i) (omega arith) (λ v. h (let e : off_dt_struct s + i - off_dt_struct s ≡ i = omega arith in rw e at v.inside)) (λ v. o (let e : off_dt_struct s + i - off_dt_struct s ≡ i = omega arith in rw e at v.inside))
              ∙ ap (λ (x : ℕ). get_or t (x + i) 0) eo
              ∙ sym (structure_at_lem t good_there i (omega arith));
        }

    good_walked : walked (structure_of s) (strings_of s) ≡ walked (structure_of t) (strings_of t)
    good_walked = same_walk free (strings_of s) (structure_of s) (structure_of t) structures_differ ∙ ap (walked (structure_of t)) strings_same

    good_tree : veil_k free (tree_of (structure_of s) (strings_of s)) ≡ veil_k free (tree_of (structure_of t) (strings_of t))
    good_tree =
        same_tree free (strings_of s) (structure_of s) (structure_of t) structures_differ ∙ ap (λ (x : List ℕ). veil_k free (tree_of (structure_of t) x)) strings_same

    good_opened : opened_of s ≡ opened_of t
    unfolding opened_of
    good_opened = rw (good_walked, same_blocks, d.long, same_test, front_word 4 (omega arith))

  -- bytes with no good header have no value, and no padding
  all_same : good_header s ≡ false → s ≡ t
  all_same h = ext_get_or 0 s t d.long (λ i l. d.bytes i l (λ v. let g : good_header s ≡ true = (good_header_lem s).1 v.header in never (cc)) (λ v. let g : good_header s ≡ true = (good_header_lem s).1 v.header in never (cc)))

  both : (x : Bool) → good_header s ≡ x → (opened_of s ≡ opened_of t) × (veil_k free (tree_of (structure_of s) (strings_of s)) ≡ veil_k free (tree_of (structure_of t) (strings_of t)))
  both true h = let g = (good_header_lem s).0 h in (good_opened g, good_tree g)
  both false h = let e = all_same h in (ap opened_of e, ap (λ (x : List ℕ). veil_k free (tree_of (structure_of x) (strings_of x))) e)

  pub same_opened : opened_of s ≡ opened_of t
  same_opened = (both (good_header s) refl).0

  pub same_opened_tree : veil_k free (tree_of (structure_of s) (strings_of s)) ≡ veil_k free (tree_of (structure_of t) (strings_of t))
  same_opened_tree = (both (good_header s) refl).1

-- ── Where no value is free, only padding can differ, and the tree is the same ──

abbrev pub unfree : Free
unfree p nm = false

veil_none_p : (ps : List Property) → veil_p unfree ps ≡ ps
unfolding veil_p veil
veil_none_p [] = refl
veil_none_p (p ∷ ps) = ap (λ (x : List Property). p ∷ x) (veil_none_p ps)

veil_none : (t : Nodes) → veil_k unfree t ≡ t
unfolding veil_k
veil_none none = refl
veil_none (node at name ps kids rest) = rw (veil_none_p ps, veil_none kids, veil_none rest)

module _ (s t : List ℕ) (d : PaddingDiffers s t) where
  pub only_padding : Differs unfree s t
  only_padding = record { long = d.long; bytes = λ i q v o. d.bytes i q o }

  module _ (apart : Apart s) where
    -- "Padding values don't matter."
    pub padding_opened : opened_of s ≡ opened_of t
    padding_opened = same_opened unfree s t only_padding apart

    pub padding_tree : tree_of (structure_of s) (strings_of s) ≡ tree_of (structure_of t) (strings_of t)
    padding_tree = sym (veil_none _) ∙ same_opened_tree unfree s t only_padding apart ∙ veil_none _
