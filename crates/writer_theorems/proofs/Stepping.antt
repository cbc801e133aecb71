-- Each call that is done keeps it so that the buffer holds what was written, with one thing more. Assumes nothing.
use mathlib.Core.Path.{◌≡◌, refl, sym, ◌∙◌, ap, subst}
use Prim.Native.Nat.{ℕ, ◌+◌, ◌*◌, ◌-◌, ◌≤◌, ◌<◌}
use native.Mathlib.Omega.{arith}
use mathlib.Core.Logic.{⊎_elim}
use mathlib.Core.Bool.{true, false}
use mathlib.Core.List.{List, [], ◌∷◌, ◌++◌, append_assoc, reverse}
use lib.ListN.{length, length-append, length-reverse}
use Rattle.std.specs.Prelude.{Ok}
use Rattle.words.proofs.BytesLaws.{never}
use Rattle.cells.specs.declared.Region.{Region}
use Rattle.fdt.specs.Tree.{Tok}
use Rattle.grammar.proofs.TreeLaws.{run_l}
use Rattle.grammar.proofs.TurnLaws.{Raised}
use Rattle.pen.specs.Numbers.{bytes8}
use Rattle.pen.proofs.LengthLaws.{bytes8_length}
use Rattle.flattened.specs.Parts.{Part, begins, property, ends, part_size, name_size, parts_size, names_size, part_tok, parts_toks, Clean, part_bytes, name_bytes}
use Rattle.flattened.proofs.PartLaws.{part_length, name_length}
use Rattle.writer.specs.declared.Writer.{Writer}
use Rattle.writer.specs.Writer.{reserve, write, final_size, in_turn, in_limits, after, answer_of}
use Rattle.writer.specs.Calls.{laid, part_at, part_laid, reservation_laid}
use Rattle.writer.proofs.Accepting.{call_passed, part_space, begin_limits, BeginTurn, begin_turn, PropertyTurn, property_turn, EndTurn, end_turn, reserve_turn}
use Rattle.writer.proofs.Sizes.{grow_root, grow_begin, grow_property, grow_end, grow_reservation}
use Rattle.writer_theorems.specs.History.{region}
use Rattle.writer_theorems.specs.Refusals.{begun, ended}
use Rattle.writer_theorems.proofs.Snoc.{size_snoc, name_size_snoc, clean_snoc, entered_snoc, begun_append, ended_append}
use Rattle.writer_theorems.proofs.Middle.{laid_length}
use Rattle.writer_theorems.proofs.Turns.{run_root, run_begin, run_prop, run_end}
use Rattle.writer_theorems.proofs.Holding.{Layout, layout_part, layout_entry, whole_long, Holds, no_zero_lem}

-- ── What a part in turn does to the writer's place ──
-- limits that let a part pass
abbrev pub Passes : ℕ → ℕ → Writer → Part → Type 0
Passes lv nd w (begins name) = (w.depth < lv) × (w.nodes < nd)
Passes lv nd w (property name value) = Unit {0}
Passes lv nd w ends = Unit {0}

pub record Next (w w' : Writer) (x : Part) : Type 0 where
  pub reserved : w'.reserved ≡ w.reserved
  pub structure : w'.structure ≡ w.structure + part_size x
  pub strings : w'.strings ≡ w.strings + name_size x
  pub going : w'.done ≡ w.done
  pub depth : w'.depth + ended (x ∷ []) ≡ w.depth + begun (x ∷ [])
  pub nodes : w'.nodes ≡ w.nodes + begun (x ∷ [])
  pub rooted : w'.nodes ≡ 0 → ⊥
  pub clean : Clean x
  pub larger : final_size w ≤ final_size w'
  pub walk : (lv nd : ℕ) → Passes lv nd w x → (p : ℕ) (ts : List Tok) → run_l lv nd (part_tok p x ∷ ts) w.depth w.nodes w.props ≡ run_l lv nd ts w'.depth w'.nodes w'.props

next_root : (w : Writer) (name : List ℕ) → BeginTurn w name → (w.nodes ≡ 0) × (w.depth ≡ 0) × (length name ≡ 0) → Next w (after w (write (begins name))) (begins name)
unfolding after name_size part_tok
next_root w name t k =
    let g = grow_root w name k.0 k.1 k.2 in
    record {
      reserved = refl;
      structure = refl;
      strings = omega arith;
      going = refl;
      depth = omega arith;
      nodes = refl;
      rooted = λ e. omega arith;
      clean = no_zero_lem name t.clean;
      larger = omega arith;
      walk = λ lv nd l p ts. run_root lv nd p name ts w.depth w.nodes w.props k.1 k.0 k.2;
    }

next_begin : (w : Writer) (name : List ℕ) → BeginTurn w name → (w.nodes ≡ 0 → ⊥) × (w.depth ≡ 0 → ⊥) → Next w (after w (write (begins name))) (begins name)
unfolding after name_size part_tok
next_begin w name t k =
    let g = grow_begin w name k.0 in
    record {
      reserved = refl;
      structure = refl;
      strings = omega arith;
      going = refl;
      depth = omega arith;
      nodes = refl;
      rooted = λ e. omega arith;
      clean = no_zero_lem name t.clean;
      larger = omega arith;
      walk = λ lv nd l p ts. run_begin lv nd p name ts w.depth w.nodes w.props k.1 l.0 l.1;
    }

next_property : (w : Writer) (name value : List ℕ) → PropertyTurn w name → (w.nodes ≡ 0 → ⊥) → Next w (after w (write (property name value))) (property name value)
unfolding after part_tok
next_property w name value t n =
    let g = grow_property w name value in
    record {
      reserved = refl;
      structure = refl;
      strings = refl;
      going = refl;
      depth = refl;
      nodes = omega arith;
      rooted = n;
      clean = no_zero_lem name t.clean;
      larger = omega arith;
      walk = λ lv nd l p ts. run_prop lv nd (record { at = p; name = name; value = value }) ts w.depth w.nodes w.props t.turn;
    }

next_end : (w : Writer) → EndTurn w → Next w (after w (write ends)) ends
unfolding after name_size part_tok
next_end w t =
    let g = grow_end w t.inside in
    let i = t.inside in
    record {
      reserved = refl;
      structure = refl;
      strings = omega arith;
      going = refl;
      depth = omega arith;
      nodes = omega arith;
      rooted = t.rooted;
      clean = tt;
      larger = omega arith;
      walk = λ lv nd l p ts. run_end lv nd ts w.depth w.nodes w.props t.inside;
    }

pub next : (w : Writer) (x : Part) → (w.props ≡ true → w.nodes ≡ 0 → ⊥) → in_turn w (write x) ≡ true → Next w (after w (write x)) x
next w (begins name) r t =
    let b = begin_turn w name t in
    ⊎_elim (λ k. next_root w name b k) (λ k. next_begin w name b k) b.which
next w (property name value) r t = let b = property_turn w name value t in next_property w name value b (r b.turn)
next w ends r t = next_end w (end_turn w t)

-- a part within the limits passes, and leaves the writer within them
pub within_passes : (w : Writer) (x : Part) → in_limits w (write x) ≡ true → (lv nd : ℕ) → Raised lv nd → Passes lv nd w x
within_passes w (begins name) l lv nd r =
    let b = begin_limits w name l in
    let h = r.high in
    let m = r.more in
    (omega arith, omega arith)
within_passes w (property name value) l lv nd r = tt
within_passes w ends l lv nd r = tt

-- the limits raised by one let every part pass
pub raised_passes : (w : Writer) (x : Part) → w.depth ≤ 32 → w.nodes ≤ 4096 → Passes 33 4097 w x
raised_passes w (begins name) d n = (omega arith, omega arith)
raised_passes w (property name value) d n = tt
raised_passes w ends d n = tt

stays_deep : (w w' : Writer) (x : Part) → Next w w' x → in_limits w (write x) ≡ true → w.depth ≤ 32 → w.nodes ≤ 4096 → (w'.depth ≤ 32) × (w'.nodes ≤ 4096)
stays_deep w w' (begins name) n l d m =
    let b = begin_limits w name l in
    let e = n.depth in
    let f = n.nodes in
    (omega arith, omega arith)
stays_deep w w' (property name value) n l d m = let e = n.depth in let f = n.nodes in (omega arith, omega arith)
stays_deep w w' ends n l d m = let e = n.depth in let f = n.nodes in (omega arith, omega arith)

gap_enough : (buf : List ℕ) (rs : List Region) (l : Layout buf rs []) (w : Writer) (p z : ℕ) → w.reserved ≡ length rs → final_size (after w (reserve p z)) ≤ length buf → 16 ≤ length l.gap
unfolding final_size after parts_size names_size
gap_enough buf rs l w p z e h = let a = whole_long buf rs [] l in omega arith

snoc_some : (xs : List Part) (x : Part) → xs ++ (x ∷ []) ≡ [] → ◌≡◌ {A = ℕ} 0 1
snoc_some [] x e = cc
snoc_some (y ∷ xs) x e = cc

pub part_laid_length : (w : Writer) (x : Part) (buf : List ℕ) → part_at w + part_size x + 4 + (w.strings + name_size x) ≤ length buf → length (part_laid w x buf) ≡ length buf
unfolding part_laid
part_laid_length w x buf h =
    let a = part_length w.strings x in
    let b : length (reverse (name_bytes x)) ≡ name_size x = length-reverse (name_bytes x) ∙ name_length x in
    let l = laid_length buf (part_bytes w.strings x) (part_at w) (omega arith) in
    laid_length (laid buf (part_at w) (part_bytes w.strings x)) (reverse (name_bytes x)) (length buf - w.strings - name_size x) (omega arith) ∙ l

entry_laid_length : (w : Writer) (p z : ℕ) (buf : List ℕ) → final_size (after w (reserve p z)) ≤ length buf → length (reservation_laid w p z buf) ≡ length buf
unfolding reservation_laid final_size after
entry_laid_length w p z buf h =
    laid_length buf (bytes8 p ++ bytes8 z) (40 + 16 * w.reserved) (omega (arith, length-append (bytes8 p) (bytes8 z), bytes8_length p, bytes8_length z))

at_most : {a b c : ℕ} → a ≤ b → b ≤ c → a ≤ c
at_most u v = omega arith

-- ── A part ──
module _ (w : Writer) (buf : List ℕ) (rs : List Region) (xs : List Part) (h : Holds w buf rs xs) where
  pub walks : (w' : Writer) (x : Part) → Next w w' x → (lv nd : ℕ) → Raised lv nd → Passes lv nd w x → (ys : List Part)
      → run_l lv nd (parts_toks 0 ((xs ++ (x ∷ [])) ++ ys)) 0 0 false ≡ run_l lv nd (parts_toks (parts_size (xs ++ (x ∷ []))) ys) w'.depth w'.nodes w'.props
  unfolding parts_toks
  walks w' x n lv nd r l ys =
      ap (λ (l : List Part). run_l lv nd (parts_toks 0 l) 0 0 false) (append_assoc xs (x ∷ []) ys)
      ∙ h.run lv nd r (x ∷ ys) ∙ n.walk lv nd l (parts_size xs) (parts_toks (parts_size xs + part_size x) ys)
      ∙ ap (λ (k : ℕ). run_l lv nd (parts_toks k ys) w'.depth w'.nodes w'.props) (sym (size_snoc xs x))

  -- so many nodes are open
  pub open_after : (w' : Writer) (x : Part) → Next w w' x → begun (xs ++ (x ∷ [])) ≡ w'.depth + ended (xs ++ (x ∷ []))
  open_after w' x n = omega (arith, begun_append xs (x ∷ []), ended_append xs (x ∷ []), h.open_now, n.depth)

  pub holds_part : (x : Part) → answer_of w (write x) (length buf) ≡ Ok tt → Holds (after w (write x)) (part_laid w x buf) rs (xs ++ (x ∷ []))
  holds_part x z =
      let p = call_passed w (write x) (length buf) z in
      let n = next w x h.rooted p.turned in
      let f = stays_deep w (after w (write x)) x n p.limits h.deep h.many in
      record {
        reserved = n.reserved ∙ h.reserved;
        structure = n.structure ∙ ap (λ (k : ℕ). k + part_size x) h.structure ∙ sym (size_snoc xs x);
        strings = n.strings ∙ ap (λ (k : ℕ). k + name_size x) h.strings ∙ sym (name_size_snoc xs x);
        going = n.going ∙ h.going;
        deep = f.0;
        many = f.1;
        open_now = open_after (after w (write x)) x n;
        bare = λ e. absurd (n.rooted e);
        begun_none = λ e. never (snoc_some xs x e);
        outside = λ e. absurd (n.rooted e);
        rooted = λ t e. n.rooted e;
        clean = clean_snoc xs x h.clean n.clean;
        entries = h.entries;
        run = λ lv nd r. walks (after w (write x)) x n lv nd r (within_passes w x p.limits lv nd r);
        fits = λ s. (p.small, subst (λ (k : ℕ). final_size (after w (write x)) ≤ k) (sym (part_laid_length w x buf (at_most (part_space w x) p.fits))) p.fits);
        layout = λ s. layout_part buf rs xs (h.layout (at_most n.larger p.fits)) w h.reserved h.structure h.strings x (at_most (part_space w x) p.fits);
      }

  -- ── A reservation ──
  pub holds_reservation : (p z : ℕ) → p < 18446744073709551616 → z < 18446744073709551616 → answer_of w (reserve p z) (length buf) ≡ Ok tt
      → Holds (after w (reserve p z)) (reservation_laid w p z buf) (rs ++ (region p z ∷ [])) xs
  unfolding after
  holds_reservation p z hp hz d =
      let k = call_passed w (reserve p z) (length buf) d in
      let t = reserve_turn w p z k.turned in
      record {
        reserved = ap (λ (k : ℕ). k + 1) h.reserved ∙ sym (length-append rs (region p z ∷ []));
        structure = h.structure;
        strings = h.strings;
        going = h.going;
        deep = h.deep;
        many = h.many;
        open_now = h.open_now;
        bare = h.bare;
        begun_none = h.begun_none;
        outside = h.outside;
        rooted = h.rooted;
        clean = h.clean;
        entries = entered_snoc rs (region p z) h.entries (record { address = hp; size = hz; some = t.some });
        run = h.run;
        fits = λ n. (k.small, subst (λ (m : ℕ). final_size (after w (reserve p z)) ≤ m) (sym (entry_laid_length w p z buf k.fits)) k.fits);
        layout = λ s. entry xs (h.bare t.bare) k.fits (h.layout (smaller k.fits));
      }
    where
      smaller : final_size (after w (reserve p z)) ≤ length buf → final_size w ≤ length buf
      smaller s = let g = grow_reservation w p z in omega arith

      entry : (ys : List Part) → ys ≡ [] → final_size (after w (reserve p z)) ≤ length buf → Layout buf rs ys → Layout (reservation_laid w p z buf) (rs ++ (region p z ∷ [])) ys
      entry [] e f l = layout_entry buf rs l w h.reserved (region p z) (gap_enough buf rs l w p z h.reserved f)
      entry (y ∷ ys) e f l = never (cc)
