-- The table of document 01, "Numbers a caller gets back", over whole order files: every number is given exactly when its row says so and
-- no row above it does; a refused build writes nothing, and a finished one its areas. Assumes nothing.
use Rattle.std.specs.Prelude.{Option, Some, None, Result, Ok, Err}
use mathlib.Core.Path.{◌≡◌, refl, sym, ◌∙◌, ap, subst}
use mathlib.Core.Logic.{◌↔◌, ◌⊎◌, inl, inr, ⊎_elim}
use mathlib.Core.Bool.{Bool, true, false, cond}
use mathlib.Core.List.Memᴰ
use mathlib.Core.List.{List, ◌++◌}
use Prim.Native.Nat.{ℕ, ◌+◌, ◌≤◌, ◌<◌}
use native.Mathlib.Omega.{arith}
use lib.Dec.{eqb}
use lib.ListN.{length, drop}
use borrow.Author.Tests.{leb-true, leb-false}
use Rattle.numbers.specs.Number.{Names}
use Rattle.numbers.proofs.Given.{given}
use Rattle.words.proofs.BytesLaws.{never}
use Rattle.page.specs.Round.{Page}
use Rattle.entry.specs.Kind.{kind_of}
use Rattle.memory.specs.declared.MapRefusal.{MapRefusal}
use Rattle.memory.specs.declared.MapRefusal.TheVariants.{UnknownKind as RunUnknown, MapFull as RunFull}
use Rattle.memory.specs.declared.Registered.{Registered}
use Rattle.memory.specs.Map.{blank}
use Rattle.memory.specs.Run.{is_done}
use Rattle.memory.proofs.MapLaws.{blank_made}
use Rattle.bootloader.specs.List.{all_of, claims}
use Rattle.runs.specs.Refusals.{Kinds}
use Rattle.runs.proofs.Refusals.{judged, run_known, run_full}
use Rattle.areas.specs.Table.{flat, slots_in, fits, table_of}
use Rattle.areas.proofs.Lists.{le_or_lt}
use Rattle.areas.proofs.MadeLaws.{areas_of_few}
use Rattle.demand3.specs.Rule.{Accepted, map_after}
use Rattle.demand3.proofs.Demand.{after_made}
use Rattle.sheet.specs.declared.PageSheet.{PageSheet}
use Rattle.sheet.specs.Sheet.{map_sheet}
use Rattle.fdt.specs.declared.Blocks.{Blocks}
use Rattle.fdt.specs.declared.TreeFault.{TreeFault}
use Rattle.fdt.specs.declared.TreeFault.TheVariants.{BadHeader as NoHeader, OverLimit as Over, BadStructure as NoStructure}
use Rattle.fdt.specs.Opening.{opened_of}
use Rattle.grammar.proofs.OpeningLaws.{bad_header_exactly, over_exactly, bad_structure_exactly, opened_exactly, opened_blocks}
use Rattle.claims.specs.declared.ValueFault.{ValueFault}
use Rattle.claims.specs.declared.ValueFault.TheVariants.{UnreadableReg as NoReg, UnreadableRanges as NoRanges}
use Rattle.claims.specs.Judging.{judged_of}
use Rattle.order.specs.declared.Order.{Order}
use Rattle.order.specs.Layout.{GoodOrder, good_order, order_in, order_of}
use Rattle.order.proofs.OrderLaws.{good_order_lem, order_bad, order_good}
use Rattle.tree_theorems.proofs.ClaimKinds.{claims_known}
use Rattle.tree_theorems.proofs.Judging.{judged_7, judged_8, judged_0}
use Rattle.startup.specs.declared.Refusal.{Refusal}
use Rattle.startup.specs.declared.Refusal.TheVariants.{BadOrder, UnknownKind, BadHeader, OverLimit, BadStructure, UnreadableReg, UnreadableRanges, MapFull, TooManyAreas}
use Rattle.startup.specs.declared.Summary.{Summary}
use Rattle.startup.specs.Sources.{list_in, claims_by, tree_claims, pair_claims, registrations}
use Rattle.startup.specs.Verdict.{refusal_number, verdict_number, first_of, list_verdict, judged_verdict, opened_verdict, tree_verdict, map_verdict, run_of, verdict_of}
use Rattle.startup.specs.Report.{report_number, finished, verdict_report, verdict_slots, read_report, read_slots, report_of, slots_after, reported}
use Rattle.order_theorems.specs.Rows.{rank, file_claims, file_areas, file_tree, file_root, HasTree, Row, Due, Table}

-- ── Ranks ──

-- the refusal of a rank
abbrev ranked : ℕ → Refusal
ranked n =
    cond (eqb n 0) BadOrder
    (cond (eqb n 1) UnknownKind
    (cond (eqb n 2) BadHeader
    (cond (eqb n 3) OverLimit
    (cond (eqb n 4) BadStructure
    (cond (eqb n 5) UnreadableReg
    (cond (eqb n 6) UnreadableRanges
    (cond (eqb n 7) MapFull TooManyAreas)))))))

-- every refusal is that of its rank, which is one of nine
rank_of : (r : Refusal) → (ranked (rank r) ≡ r) × (rank r < 9)
rank_of BadOrder = (refl, omega arith)
rank_of UnknownKind = (refl, omega arith)
rank_of BadHeader = (refl, omega arith)
rank_of OverLimit = (refl, omega arith)
rank_of BadStructure = (refl, omega arith)
rank_of UnreadableReg = (refl, omega arith)
rank_of UnreadableRanges = (refl, omega arith)
rank_of MapFull = (refl, omega arith)
rank_of TooManyAreas = (refl, omega arith)

rank_one : (q r : Refusal) → rank q ≡ rank r → q ≡ r
rank_one q r e = sym (rank_of q).0 ∙ ap ranked e ∙ (rank_of r).0

-- ── Numbers ──

-- the refusal of a number
abbrev numbered : ℕ → Refusal
numbered n =
    cond (eqb n 9) BadOrder
    (cond (eqb n 1) UnknownKind
    (cond (eqb n 4) BadHeader
    (cond (eqb n 6) OverLimit
    (cond (eqb n 5) BadStructure
    (cond (eqb n 7) UnreadableReg
    (cond (eqb n 8) UnreadableRanges
    (cond (eqb n 2) MapFull TooManyAreas)))))))

-- every refusal is that of its number, which is not 0
number_of : (r : Refusal) → (numbered (refusal_number r) ≡ r) × (refusal_number r ≡ 0 → ⊥)
number_of BadOrder = (refl, λ z. omega arith)
number_of UnknownKind = (refl, λ z. omega arith)
number_of BadHeader = (refl, λ z. omega arith)
number_of OverLimit = (refl, λ z. omega arith)
number_of BadStructure = (refl, λ z. omega arith)
number_of UnreadableReg = (refl, λ z. omega arith)
number_of UnreadableRanges = (refl, λ z. omega arith)
number_of MapFull = (refl, λ z. omega arith)
number_of TooManyAreas = (refl, λ z. omega arith)

report_names : Names report_number
report_names = record { back = λ n. Err (numbered n); named = each }
  where
    each : (x : Result Summary Refusal) → (report_number x ≡ 0) ⊎ (Err (numbered (report_number x)) ≡ x)
    each (Ok x) = inl refl
    each (Err r) = inr (ap Err (number_of r).0)

-- ── The kinds of a file's registrations ──
opened_known : (t : List ℕ) (arm : Bool) (x : Result (Option Blocks) TreeFault) → Kinds (claims_by t arm x)
opened_known t arm (Ok (Some k)) = claims_known arm _ _
opened_known t arm (Ok None) = λ c m. absurd (Memᴰ.not-nil m)
opened_known t arm (Err f) = λ c m. absurd (Memᴰ.not-nil m)

tree_known : (t : List ℕ) (arm : Bool) → Kinds (tree_claims t arm)
unfolding tree_claims
tree_known t arm = opened_known t arm (opened_of t)

-- the five pairs' kinds are judged by computation
pairs_known : (o : Order) → Kinds (pair_claims o)
unfolding pair_claims all_of kind_of
pairs_known o = ⊎_elim (λ y. y.1) (λ y. let e = y.0 in never (cc)) (judged (pair_claims o))

-- all registrations have a kind, where those of the list have
sources_known : (s : List ℕ) (o : Order) → Kinds (claims (list_in s o)) → Kinds (registrations s o)
unfolding registrations
sources_known s o f c m =
    ⊎_elim (f c) (λ n. ⊎_elim (tree_known _ _ c) (pairs_known o c) (Memᴰ.append_cases _ n)) (Memᴰ.append_cases _ m)

module _ (p : ℕ) (s l : List ℕ) where
  abbrev o : Order
  o = order_in s

  abbrev run : Registered
  run = run_of p s o

  abbrev file_sheet : PageSheet
  file_sheet = map_sheet p o.low o.high (map_after p (file_claims s))

  -- ── Row after row ──

  -- no row of a rank below n holds
  abbrev Clear : ℕ → Type 0
  Clear n = Page p → (q : Refusal) → rank q < n → Row p s l q → ⊥

  none_yet : Clear 0
  none_yet g q h w = omega arith

  next : (r : Refusal) → Clear (rank r) → (Page p → Row p s l r → ⊥) → Clear (rank r + 1)
  next r c f g q h w =
      ⊎_elim
      (λ (u : rank r ≤ rank q). f g (subst (Row p s l) (rank_one q r (omega arith)) w))
      (λ u. c g q u w)
      (le_or_lt (rank r) (rank q))

  -- what holds where the report is done, and these are the slots afterwards
  record Ends (n : ℕ) (sheet : PageSheet) (l' : List ℕ) : Type 0 where
    clear : Page p → (q : Refusal) → Row p s l q → ⊥
    accepted : Accepted p (file_claims s)
    count : n ≡ length (file_areas p s)
    pages : sheet ≡ file_sheet
    writes : l' ≡ flat (file_areas p s) ++ drop (n + n) l

  -- and where it is any
  abbrev Says : Result Summary Refusal → List ℕ → Type 0
  Says (Err r) l' = (Page p → Due p s l r) × (l' ≡ l)
  Says (Ok x) l' = Ends x.count x.sheet l'

  due : (r : Refusal) → Clear (rank r) → (Page p → Row p s l r) → Says (Err r) l
  due r c f = (λ g. (f g, c g), refl)

  -- ── Step after step, from the last ──

  -- 3, or done
  by_areas : Accepted p (file_claims s) → Clear 8 → Says (finished (file_areas p s) file_sheet l) (table_of (file_areas p s) l)
  unfolding finished table_of
  by_areas a c = go (fits (file_areas p s) l) refl
    where
      go : (t : Bool) → fits (file_areas p s) l ≡ t
          → Says (cond t (reported (length (file_areas p s)) file_sheet) (Err TooManyAreas))
          (cond t (flat (file_areas p s) ++ drop (length (file_areas p s) + length (file_areas p s)) l) l)
      go true e =
          let f : length (file_areas p s) ≤ slots_in l = leb-true _ _ e in
          record {
            clear = λ g q. next TooManyAreas c (λ g w. omega arith) g q (rank_of q).1;
            accepted = a;
            count = refl;
            pages = refl;
            writes = refl;
          }
      go false e = due TooManyAreas c (λ g. leb-false _ _ e)

  -- under a verdict
  abbrev Under : Result Unit Refusal → Type 0
  Under v = Says (verdict_report v (finished (file_areas p s) file_sheet l)) (verdict_slots v l (table_of (file_areas p s) l))

  -- 2
  by_map : Kinds (claims (list_in s o)) → Clear 7 → Under (map_verdict run)
  unfolding map_verdict
  by_map k c = go run.answer refl
    where
      full : Page p → (run.answer ≡ Err RunFull) ↔ Row p s l MapFull
      full g = run_full p blank (file_claims s) g (blank_made p)

      go : (a : Result Unit MapRefusal) → run.answer ≡ a → Under (cond (is_done a) (Ok tt) (Err MapFull))
      go (Ok tt) e = by_areas e (next MapFull c (λ g w. let f = (full g).1 w in never (cc)))
      go (Err RunUnknown) e = absurd (run_known p blank (file_claims s) (sources_known s o k) e)
      go (Err RunFull) e = due MapFull c (λ g. (full g).0 e)

  -- under a verdict on the tree, where the map's comes next
  abbrev UnderTree : Result Unit Refusal → Type 0
  UnderTree v = Under (first_of v (map_verdict run))

  -- 7 and 8
  by_judging : Kinds (claims (list_in s o)) → HasTree s → Clear 5 → UnderTree (judged_verdict (judged_of o.arm (file_root s)))
  by_judging k t c5 = go (judged_of o.arm (file_root s)) refl
    where
      go : (j : Result Unit ValueFault) → judged_of o.arm (file_root s) ≡ j → UnderTree (judged_verdict j)
      go (Err NoReg) e = due UnreadableReg c5 (λ g. (t, (judged_7 o.arm (file_root s)).0 e))
      go (Err NoRanges) e =
          let w = (judged_8 o.arm (file_root s)).0 e in
          due UnreadableRanges (next UnreadableReg c5 (λ g x. w.0 x.1)) (λ g. (t, w.1))
      go (Ok tt) e =
          let w = (judged_0 o.arm (file_root s)).0 e in
          by_map k (next UnreadableRanges (next UnreadableReg c5 (λ g x. w.0 x.1)) (λ g x. w.1 x.1))

  -- 4, 6 and 5
  module _ (x : Result (Option Blocks) TreeFault) (e : opened_of (file_tree s) ≡ x) where
    -- the rows that another answer leaves out
    no_4 : (x ≡ Err NoHeader → ⊥) → Clear 2 → Clear 3
    no_4 f c = next BadHeader c (λ g w. f (sym e ∙ (bad_header_exactly (file_tree s)).1 w))

    no_6 : (x ≡ Err Over → ⊥) → Clear 3 → Clear 4
    no_6 f c = next OverLimit c (λ g w. f (sym e ∙ (over_exactly (file_tree s)).1 w))

    no_5 : (x ≡ Err NoStructure → ⊥) → Clear 4 → Clear 5
    no_5 f c = next BadStructure c (λ g w. f (sym e ∙ (bad_structure_exactly (file_tree s)).1 w))

  -- none of the three, of no tree and of one that is opened
  no_fault : (b : Option Blocks) → opened_of (file_tree s) ≡ Ok b → Clear 2 → Clear 5
  no_fault b e c = no_5 (Ok b) e (λ h. never (cc)) (no_6 (Ok b) e (λ h. never (cc)) (no_4 (Ok b) e (λ h. never (cc)) c))

  by_opening : Kinds (claims (list_in s o)) → Clear 2 → (x : Result (Option Blocks) TreeFault) → opened_of (file_tree s) ≡ x
      → UnderTree (opened_verdict (file_tree s) o.arm x)
  by_opening k c2 (Err NoHeader) e = due BadHeader c2 (λ g. (bad_header_exactly (file_tree s)).0 e)
  by_opening k c2 (Err Over) e = due OverLimit (no_4 (Err Over) e (λ h. never (cc)) c2) (λ g. (over_exactly (file_tree s)).0 e)
  by_opening k c2 (Err NoStructure) e =
      due BadStructure (no_6 (Err NoStructure) e (λ h. never (cc)) (no_4 (Err NoStructure) e (λ h. never (cc)) c2))
      (λ g. (bad_structure_exactly (file_tree s)).0 e)
  by_opening k c2 (Ok None) e =
      let no_tree : HasTree s → ⊥ = λ w. let h = (opened_exactly (file_tree s)).1 w in never (cc) in
      let c6 : Clear 6 = next UnreadableReg (no_fault None e c2) (λ g w. no_tree w.0) in
      by_map k (next UnreadableRanges c6 (λ g w. no_tree w.0))
  by_opening k c2 (Ok (Some b)) e =
      by_judging k ((opened_exactly (file_tree s)).0 (e ∙ ap (λ (y : Blocks). Ok (Some y)) (opened_blocks (file_tree s) b e)))
      (no_fault (Some b) e c2)

  -- 1
  by_list : Clear 1 → Under (verdict_of p s o)
  unfolding verdict_of list_verdict tree_verdict
  by_list c =
      ⊎_elim
      (λ y. rw y.0 (by_opening y.1 (next UnknownKind c (λ g w. w.is (y.1 w.claim w.among))) (opened_of (file_tree s)) refl))
      (λ y. rw y.0 (due UnknownKind c (λ g. y.1)))
      (judged (claims (list_in s o)))

  -- 9
  says : Says (report_of p s l) (slots_after p s l)
  unfolding report_of slots_after
  says = go (good_order s) refl
    where
      go : (t : Bool) → good_order s ≡ t → Says (read_report p s l (order_of s)) (read_slots p s l (order_of s))
      go true e = rw (order_good s e) (by_list (next BadOrder none_yet (λ g w. w ((good_order_lem s).0 e))))
      go false e = rw (order_bad s e) (due BadOrder none_yet (λ g w. let x = (good_order_lem s).1 w in never (cc)))

  says_of : (x : Result Summary Refusal) → report_of p s l ≡ x → Says x (slots_after p s l)
  says_of x e = subst (λ y. Says y (slots_after p s l)) e says

  -- ── The theorems ──

  case_exactly : Page p → (r : Refusal) → (report_of p s l ≡ Err r) ↔ Due p s l r
  case_exactly g r = (λ e. (says_of (Err r) e).0 g, λ d. go d (report_of p s l) refl)
    where
      go : Due p s l r → (x : Result Summary Refusal) → report_of p s l ≡ x → report_of p s l ≡ Err r
      go d (Err q) e =
          let w : Due p s l q = (says_of (Err q) e).0 g in
          ⊎_elim
          (λ (u : rank r ≤ rank q). ⊎_elim
          (λ (v : rank q ≤ rank r). e ∙ ap Err (rank_one q r (omega arith)))
          (λ v. absurd (w.1 r v d.0))
          (le_or_lt (rank q) (rank r)))
          (λ u. absurd (d.1 q u w.0))
          (le_or_lt (rank r) (rank q))
      go d (Ok x) e = absurd ((says_of (Ok x) e).clear g r d.0)

  -- EACH NUMBER IS GIVEN EXACTLY WHEN its row says so and no row above it does
  pub exactly : Page p → (r : Refusal) → (report_number (report_of p s l) ≡ refusal_number r) ↔ Due p s l r
  exactly g r = given report_names (Err r) (number_of r).1 (case_exactly g r)

  -- and 0 exactly when no row holds
  pub done_number : Page p → (report_number (report_of p s l) ≡ 0) ↔ ((q : Refusal) → Row p s l q → ⊥)
  done_number g = (
    λ z. go (report_of p s l) refl z,
    λ f. back f (report_of p s l) refl,
  )
    where
      go : (x : Result Summary Refusal) → report_of p s l ≡ x → report_number x ≡ 0 → (q : Refusal) → Row p s l q → ⊥
      go (Err r) e z = absurd ((number_of r).1 z)
      go (Ok x) e z = (says_of (Ok x) e).clear g

      back : ((q : Refusal) → Row p s l q → ⊥) → (x : Result Summary Refusal) → report_of p s l ≡ x → report_number (report_of p s l) ≡ 0
      back f (Err r) e = absurd (f r ((says_of (Err r) e).0 g).0)
      back f (Ok x) e = ap report_number e

  -- THE TABLE
  pub table : Page p → Table p s l (report_number (report_of p s l))
  table g =
      record {
        nine = exactly g BadOrder;
        one = exactly g UnknownKind;
        four = exactly g BadHeader;
        six = exactly g OverLimit;
        five = exactly g BadStructure;
        seven = exactly g UnreadableReg;
        eight = exactly g UnreadableRanges;
        two = exactly g MapFull;
        three = exactly g TooManyAreas;
        done = done_number g;
      }

  -- the sources' own number is the report's, but for 3, which the build alone gives
  pub sources_number : GoodOrder s → (n : ℕ) → (n ≡ 0 → ⊥) → (n ≡ 3 → ⊥)
      → (verdict_number (verdict_of p s (order_in s)) ≡ n) ↔ (report_number (report_of p s l) ≡ n)
  unfolding report_of finished
  sources_number good n f t = rw (order_good s ((good_order_lem s).1 good)) (go (verdict_of p s o))
    where
      built : (b : Bool) (k : ℕ) (sheet : PageSheet) → report_number (cond b (reported k sheet) (Err TooManyAreas)) ≡ n → ⊥
      built true k sheet e = f (sym e)
      built false k sheet e = t (sym e)

      go : (v : Result Unit Refusal)
          → (verdict_number v ≡ n) ↔ (report_number (verdict_report v (finished (file_areas p s) file_sheet l)) ≡ n)
      go (Err r) = (λ e. e, λ e. e)
      go (Ok tt) = (λ e. absurd (f (sym e)), λ e. absurd (built (fits (file_areas p s) l) _ _ e))

  -- DONE EXACTLY WHEN no row holds, and then with the count of the areas and their page sheet
  pub done_exactly : Page p → (n : ℕ) (sheet : PageSheet)
      → (report_of p s l ≡ reported n sheet)
      ↔ (((q : Refusal) → Row p s l q → ⊥)
      × (n ≡ length (file_areas p s))
      × (sheet ≡ map_sheet p (order_in s).low (order_in s).high (map_after p (file_claims s))))
  done_exactly g n sheet = (
    λ e. let w = says_of (reported n sheet) e in (w.clear g, w.count, w.pages),
    λ d. go d.0 d.1 d.2 (report_of p s l) refl,
  )
    where
      go : ((q : Refusal) → Row p s l q → ⊥) → n ≡ length (file_areas p s) → sheet ≡ file_sheet → (x : Result Summary Refusal)
          → report_of p s l ≡ x → report_of p s l ≡ reported n sheet
      go f a b (Err q) e = absurd (f q ((says_of (Err q) e).0 g).0)
      go f a b (Ok x) e = let w = says_of (Ok x) e in rw (a, b, ← w.count, ← w.pages) e

  -- "A refused list, tree or build .. writes nothing."
  pub refused_writes_nothing : (report_number (report_of p s l) ≡ 0 → ⊥) → slots_after p s l ≡ l
  refused_writes_nothing f = go (report_of p s l) refl
    where
      go : (x : Result Summary Refusal) → report_of p s l ≡ x → slots_after p s l ≡ l
      go (Err r) e = (says_of (Err r) e).1
      go (Ok x) e = absurd (f (ap report_number e))

  -- "Areas are (base, size)"; "all past the count is untouched"
  pub done_writes : (n : ℕ) (sheet : PageSheet) → report_of p s l ≡ reported n sheet → slots_after p s l ≡ flat (file_areas p s) ++ drop (n + n) l
  done_writes n sheet e = (says_of (reported n sheet) e).writes

  -- then no registration was refused, as demand 3 asks
  pub done_accepted : (n : ℕ) (sheet : PageSheet) → report_of p s l ≡ reported n sheet → Accepted p (file_claims s)
  done_accepted n sheet e = (says_of (reported n sheet) e).accepted

  -- 512 slots are enough, since there are never more areas than entries held
  pub enough_slots : Page p → 1024 ≤ length l → report_number (report_of p s l) ≡ 3 → ⊥
  enough_slots g h e =
      let w = ((table g).three.0 e).0 in
      let m = after_made p (file_claims s) g in
      omega (arith, w, areas_of_few m o.low o.high, m.room)
