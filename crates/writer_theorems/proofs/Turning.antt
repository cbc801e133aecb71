-- A call that is out of turn, or over a limit, leads to no tree, or to none within the limits; with one that is in turn and then only closing
-- calls the parts are a tree's. Assumes nothing.
use mathlib.Core.Path.{◌≡◌, refl, sym, ◌∙◌, ap}
use Prim.Native.Nat.{ℕ, zero, suc, ◌+◌, ◌-◌, ◌≤◌, ◌<◌}
use native.Mathlib.Omega.{arith}
use mathlib.Core.Logic.{◌⊎◌, ⊎_elim}
use mathlib.Core.Bool.{Bool, true, false, cond, not, ◌&&◌}
use mathlib.Core.List.{List, [], ◌∷◌, ◌++◌, append-nil}
use lib.ListN.{replicate}
use lib.Dec.{leb}
use borrow.Author.Tests.{lt-leb}
use Rattle.std.specs.Prelude.{Result, Ok, Err}
use Rattle.words.proofs.BytesLaws.{never}
use Rattle.cells.specs.declared.Region.{Region}
use Rattle.fdt.specs.Tree.{Tok, begin, fin}
use Rattle.fdt.specs.declared.TreeFault.{TreeFault}
use Rattle.fdt.specs.declared.TreeFault.TheVariants.{OverLimit, BadStructure}
use Rattle.grammar.proofs.TreeLaws.{run_l, run_t}
use Rattle.grammar.proofs.TurnLaws.{Raised, as_given, Why, refused}
use Rattle.flattened.specs.Parts.{Part, begins, property, ends, part_size, parts_size, part_tok, parts_toks}
use Rattle.flattened.specs.Forest.{NamedValue, Forest, bare, tree_parts, levels_of, nodes_of}
use Rattle.flattened.proofs.ReadBack.{parts_tree}
use Rattle.flattened.proofs.OneTree.{tree_accepts}
use Rattle.writer.specs.declared.Writer.{Writer}
use Rattle.writer.specs.Writer.{write, in_turn, in_limits, after}
use Rattle.writer.proofs.Accepting.{begin_turn}
use Rattle.writer_theorems.specs.Refusals.{TreeOf, begun, ended, closing}
use Rattle.writer_theorems.proofs.Turns.{run_end, run_fin}
use Rattle.writer_theorems.proofs.Holding.{Holds}
use Rattle.writer_theorems.proofs.Stepping.{Passes, next, walks, open_after}

-- ── Closing calls ──
snoc_closing : (xs : List Part) (x : Part) → closing (xs ++ (x ∷ [])) ≡ replicate (begun (xs ++ (x ∷ [])) - ended (xs ++ (x ∷ []))) ends
snoc_closing [] x = refl
snoc_closing (y ∷ xs) x = refl

pub closing_after : (xs : List Part) (x : Part) (d : ℕ) → begun (xs ++ (x ∷ [])) ≡ d + ended (xs ++ (x ∷ [])) → closing (xs ++ (x ∷ [])) ≡ replicate d ends
closing_after xs x d e =
    let q : begun (xs ++ (x ∷ [])) - ended (xs ++ (x ∷ [])) ≡ d = omega arith in
    snoc_closing xs x ∙ ap (λ (n : ℕ). replicate n ends) q

pub closing_some : (xs : List Part) (d : ℕ) → (xs ≡ [] → ⊥) → begun xs ≡ d + ended xs → closing xs ≡ replicate d ends
closing_some [] d n e = absurd (n refl)
closing_some (x ∷ xs) d n e = let q : begun (x ∷ xs) - ended (x ∷ xs) ≡ d = omega arith in ap (λ (k : ℕ). replicate k ends) q

run_closing : (lv nd d p n : ℕ) (a : Bool) → (n ≡ 0 → ⊥) → run_l lv nd (parts_toks p (replicate d ends)) d n a ≡ Ok tt
unfolding parts_toks part_tok
run_closing lv nd zero p n a z = run_fin lv nd 0 n a refl z
run_closing lv nd (suc d) p n a z =
    let q : suc d - 1 ≡ d = omega arith in
    run_end lv nd (parts_toks (p + part_size ends) (replicate d ends)) (suc d) n a (λ e. omega arith)
    ∙ ap (λ (k : ℕ). run_l lv nd (parts_toks (p + part_size ends) (replicate d ends)) k n false) q ∙ run_closing lv nd d (p + part_size ends) n false z

-- an empty root and its end are a tree's parts
pub empty_root : TreeOf (begins [] ∷ ends ∷ [])
empty_root = record { props = []; kids = bare; parts = refl }

module _ (w : Writer) (buf : List ℕ) (rs : List Region) (xs : List Part) (h : Holds w buf rs xs) where
  -- ── In turn ──
  -- with this part and then only closing calls, the parts are those of a tree within limits that let the part pass
  pub part_tree : (x : Part) → in_turn w (write x) ≡ true → (lv nd : ℕ) → Raised lv nd → Passes lv nd w x
      → (ps : List NamedValue) × (kids : Forest) × ((xs ++ (x ∷ [])) ++ closing (xs ++ (x ∷ [])) ≡ tree_parts ps kids) × (suc (levels_of kids) ≤ lv) × (suc (nodes_of kids) ≤ nd)
  part_tree x t lv nd r l =
      let n = next w x h.rooted t in
      let v = after w (write x) in
      let c = closing_after xs x v.depth (open_after w buf rs xs h v x n) in
      let i = r.high in
      let j = r.more in
      parts_tree lv nd (omega arith) (omega arith) ((xs ++ (x ∷ [])) ++ closing (xs ++ (x ∷ [])))
      (ap (λ (ys : List Part). run_l lv nd (parts_toks 0 ((xs ++ (x ∷ [])) ++ ys)) 0 0 false) c
      ∙ walks w buf rs xs h v x n lv nd r l (replicate v.depth ends)
      ∙ run_closing lv nd v.depth (parts_size (xs ++ (x ∷ []))) v.nodes v.props n.rooted)

  -- ── Out of turn ──
  -- where the walk refuses the part, no tree has these parts first
  no_tree : (x : Part) → ((lv nd : ℕ) → Raised lv nd → (ts : List Tok) → run_l lv nd (part_tok (parts_size xs) x ∷ ts) w.depth w.nodes w.props ≡ Err BadStructure)
      → (ys : List Part) → TreeOf (xs ++ (x ∷ ys)) → ⊥
  unfolding parts_toks
  no_tree x b ys t =
      let lv = 32 + suc (levels_of t.kids) in
      let nd = 4096 + suc (nodes_of t.kids) in
      let r : Raised lv nd = record { high = omega arith; more = omega arith } in
      let e : ◌≡◌ {A = Result Unit TreeFault} (Err BadStructure) (Ok tt) =
      sym (h.run lv nd r (x ∷ ys) ∙ b lv nd r (parts_toks (parts_size xs + part_size x) ys))
      ∙ ap (λ (l : List Part). run_l lv nd (parts_toks 0 l) 0 0 false) t.parts ∙ tree_accepts lv nd t.props t.kids (omega arith) (omega arith) in
      let m : ◌≡◌ {A = ℕ} 0 1 = cc in
      never m

  pub no_part : (x : Part) → Why (part_tok (parts_size xs) x) w.depth w.nodes w.props → (ys : List Part) → TreeOf (xs ++ (x ∷ ys)) → ⊥
  no_part x y = no_tree x (λ lv nd r ts. refused (part_tok (parts_size xs) x) w.depth w.nodes w.props y lv nd r ts)

  pub no_end : (0 < w.depth) ⊎ (w.nodes ≡ 0) → TreeOf xs → ⊥
  unfolding parts_toks
  no_end y t =
      let lv = 32 + suc (levels_of t.kids) in
      let nd = 4096 + suc (nodes_of t.kids) in
      let r : Raised lv nd = record { high = omega arith; more = omega arith } in
      let e : ◌≡◌ {A = Result Unit TreeFault} (Err BadStructure) (Ok tt) =
      sym (ap (λ (l : List Part). run_l lv nd (parts_toks 0 l) 0 0 false) (sym (append-nil xs)) ∙ h.run lv nd r [] ∙ refused fin w.depth w.nodes w.props y lv nd r [])
      ∙ ap (λ (l : List Part). run_l lv nd (parts_toks 0 l) 0 0 false) t.parts ∙ tree_accepts lv nd t.props t.kids (omega arith) (omega arith) in
      let m : ◌≡◌ {A = ℕ} 0 1 = cc in
      never m

  -- ── Over a limit ──
  -- where the walk exceeds at the part, no tree within the limits has these parts first
  pub no_tree_within : (x : Part) → ((ts : List Tok) → run_t (part_tok (parts_size xs) x ∷ ts) w.depth w.nodes w.props ≡ Err OverLimit)
      → (ys : List Part) (ps : List NamedValue) (kids : Forest) → suc (levels_of kids) ≤ 32 → suc (nodes_of kids) ≤ 4096 → xs ++ (x ∷ ys) ≡ tree_parts ps kids → ⊥
  unfolding parts_toks
  no_tree_within x b ys ps kids l c t =
      let e : ◌≡◌ {A = Result Unit TreeFault} (Err OverLimit) (Ok tt) =
      sym (h.run 32 4096 as_given (x ∷ ys) ∙ b (parts_toks (parts_size xs + part_size x) ys))
      ∙ ap (λ (l : List Part). run_l 32 4096 (parts_toks 0 l) 0 0 false) t ∙ tree_accepts 32 4096 ps kids l c in
      let m : ◌≡◌ {A = ℕ} 0 1 = cc in
      never m

-- ── The walk where a part is over a limit ──
over : (p : ℕ) (name : List ℕ) (ts : List Tok) (d n : ℕ) (a : Bool) → (d ≡ 0 → ⊥) → (not (leb 32 d) && not (leb 4096 n)) ≡ false → run_t (begin p name ∷ ts) d n a ≡ Err OverLimit
unfolding run_l
over p name ts zero n a z e = absurd (z refl)
over p name ts (suc d) n a z e = go (leb 32 (suc d)) (leb 4096 n) e
  where
    go : (u v : Bool) → (not u && not v) ≡ false → cond u (Err OverLimit) (cond v (Err OverLimit) (run_t ts (suc (suc d)) (suc n) true)) ≡ Err OverLimit
    go true v h = refl
    go false true h = refl
    go false false h = never (cc)

pub exceeds : (w : Writer) (x : Part) → in_turn w (write x) ≡ true → in_limits w (write x) ≡ false → (p : ℕ) (ts : List Tok) → run_t (part_tok p x ∷ ts) w.depth w.nodes w.props ≡ Err OverLimit
unfolding in_limits part_tok
exceeds w (begins name) t l p ts =
    ⊎_elim (λ k. never (small w.depth w.nodes k.1 k.0 l)) (λ k. over p name ts w.depth w.nodes w.props k.1 l) (begin_turn w name t).which
  where
    small : (d n : ℕ) → d ≡ 0 → n ≡ 0 → (not (leb 32 d) && not (leb 4096 n)) ≡ false → ◌≡◌ {A = ℕ} 0 1
    small d n a b e =
        let h1 : d < 32 = omega arith in
        let h2 : n < 4096 = omega arith in
        let q : true ≡ false = rw (lt-leb _ _ h1, lt-leb _ _ h2) at e in
        cc
exceeds w (property name value) t l p ts = never (cc)
exceeds w ends t l p ts = never (cc)
