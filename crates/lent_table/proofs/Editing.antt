-- `edit` and `crowded`: one law for each way that the first area past lo lies, and how many areas are left. Assumes nothing.
use mathlib.Core.Path.{◌≡◌, refl, ap, ap₂, sym, ◌∙◌}
use mathlib.Core.List.{List, [], ◌∷◌, ◌++◌, append_assoc}
use mathlib.Core.Bool.{Bool, true, false, not}
use mathlib.Core.Logic.{⊎_elim}
use Prim.Native.Nat.{ℕ, suc, ◌+◌, ◌-◌, ◌/◌, ◌≤◌, ◌<◌, max}
use native.Mathlib.Omega.{arith}
use lib.Dec.{leb}
use lib.ListN.{length, get_or, set, drop, replicate, length-append}
use lib.Seq.{drop-cons}
use borrow.Author.Tests.{le-leb, lt-leb, leb-true, leb-false}
use Rattle.areas.specs.declared.Interval.{Interval}
use Rattle.areas.specs.Interval.{interval}
use Rattle.areas.specs.Table.{flat, slots_in, fits}
use Rattle.areas.proofs.Lists.{le_or_lt}
use Rattle.areas.proofs.Writing.{flat_snoc}
use Rattle.lent_table.specs.Table.{table_in, good_table, table_with}
use Rattle.lent_table.specs.Less.{less}
use Rattle.lent_table.specs.Edit.{lead, above, cut_here, cut_from, takes, crowds, lent, edited}
use Rattle.lent_table.specs.Steps.{Past, Rest, Rested, Splits, Parted}
use Rattle.lent_table.proofs.TableLaws.{table_length, table_flat, flat_append, good_exactly}
use Rattle.lent_table.proofs.SlotLaws.{set_size}
use Rattle.lent_table.proofs.Trimming.{lead_le, above_length}
use Rattle.lent_table.proofs.CutLaws.{here_nil, here_after, here_inside, here_left, here_two, cut_short, cut_less}
use Rattle.lent_table.proofs.Finding.{Takes, takes_is, takes_none, found, First, first}

-- ── edit ──
module _ (l : List ℕ) (n : ℕ) where
  -- where there are no more than before
  pub with_fewer : (areas : List Interval) → length areas ≤ n
      → table_with areas n l ≡ flat areas ++ (replicate (n + n - (length areas + length areas)) 0 ++ drop (n + n) l)
  unfolding table_with
  with_fewer areas h =
      let e : max (n + n) (length areas + length areas) ≡ n + n = omega arith in
      ap (λ (k : ℕ). flat areas ++ (replicate (n + n - (length areas + length areas)) 0 ++ drop k l)) e

  -- the areas themselves leave the table
  pub table_same : n ≤ slots_in l → l ≡ table_with (table_in n l) n l
  table_same h =
      let room : n + n ≤ length l = omega arith in
      let size : length (table_in n l) ≡ n = table_length n l room in
      let z : n + n - (length (table_in n l) + length (table_in n l)) ≡ 0 = omega arith in
      table_flat n l room ∙ sym (with_fewer (table_in n l) (omega arith) ∙ ap (λ (k : ℕ). flat (table_in n l) ++ (replicate k 0 ++ drop (n + n) l)) z)

  -- there is nothing to take away
  pub edited_not : (c : Interval) → takes c n l ≡ false → lent n l ≡ edited c n l
  unfolding edited
  edited_not c e = rw e

module _ {c : Interval} {l : List ℕ} {n : ℕ} (takes : Takes c n l) where
  edited_done : (areas : List Interval) → cut_from c (table_in n l) ≡ areas → length areas ≤ slots_in l → (k : ℕ) → k ≡ length areas → (l' : List ℕ) → l' ≡ table_with areas n l
      → lent k l' ≡ edited c n l
  unfolding edited
  edited_done areas e h k q l' t = rw (takes_is c n l takes, e, le-leb (length areas) (slots_in l) h, q, t)

  edited_same : cut_from c (table_in n l) ≡ table_in n l → lent n l ≡ edited c n l
  edited_same e =
      let size : length (table_in n l) ≡ n = table_length n l (omega (arith, takes.room)) in
      edited_done (table_in n l) e (omega (arith, takes.room)) n (sym size) l (table_same l n takes.room)

  edited_full : (areas : List Interval) → cut_from c (table_in n l) ≡ areas → slots_in l < length areas → lent n l ≡ edited c n l
  unfolding edited
  edited_full areas e h = rw (takes_is c n l takes, e, lt-leb (length areas) (slots_in l) h)

  edited_rest : (l₁ l' : List ℕ) (i k hi : ℕ) (pre more : List Interval) → cut_from c (table_in n l) ≡ pre ++ above hi more → length pre ≡ i → i + length more ≡ n
      → Rest l₁ i n hi l' k pre more (drop (n + n) l) → lent k l' ≡ edited c n l
  edited_rest l₁ l' i k hi pre more e lp ln rest =
      let ys = above hi more in
      let la : length (pre ++ ys) ≡ length pre + length ys = length-append pre ys in
      let ly : length ys ≡ length more - lead hi more = above_length hi more in
      let le : lead hi more ≤ length more = lead_le hi more in
      let k= : k ≡ length (pre ++ ys) = omega (arith, rest.count) in
      let z : n + n - (length (pre ++ ys) + length (pre ++ ys)) ≡ lead hi more + lead hi more = omega arith in
      edited_done (pre ++ ys) e (omega (arith, takes.room)) k k= l'
      (rest.slots ∙ sym (with_fewer l n (pre ++ ys) (omega arith)
      ∙ flat_append pre ys (replicate (n + n - (length (pre ++ ys) + length (pre ++ ys))) 0 ++ drop (n + n) l)
      ∙ ap (λ (g : ℕ). flat pre ++ (flat ys ++ (replicate g 0 ++ drop (n + n) l))) z))

module _ {c : Interval} {l : List ℕ} {n i : ℕ} (takes : Takes c n l) (past : Past l 0 n c.lo i) where
  -- all areas end before the range
  cut_before : n ≤ i → cut_from c (table_in n l) ≡ table_in n l
  cut_before h =
      let f = found takes past in
      f.left ∙ ap (λ (m : List Interval). f.pre ++ m) (go f.rest f.fill) ∙ sym f.whole
    where
      go : (rest : List Interval) → i + length rest ≡ n → cut_here c rest ≡ rest
      go [] e = here_nil c
      go (r ∷ more) e = absurd (omega arith)

  pub edits_before : n ≤ i → lent n l ≡ edited c n l
  edits_before h = edited_same takes (cut_before h)

  module _ (lt : i < n) where
    -- the next area starts after it
    cut_after : c.hi ≤ get_or l (i + i) 0 → cut_from c (table_in n l) ≡ table_in n l
    cut_after h =
        let f = first takes past lt in
        f.left ∙ ap (λ (m : List Interval). f.pre ++ m) (here_after c f.r f.more (omega (arith, f.base))) ∙ sym f.whole

    pub edits_after : c.hi ≤ get_or l (i + i) 0 → lent n l ≡ edited c n l
    edits_after h = edited_same takes (cut_after h)

    -- it starts in the range
    module _ (b : get_or l (i + i) 0 < c.hi) (h : c.lo ≤ get_or l (i + i) 0) where
      cut_inside_lem : (f : First c l n i) → cut_from c (table_in n l) ≡ f.pre ++ above c.hi (f.r ∷ f.more)
      cut_inside_lem f =
          f.left ∙ ap (λ (m : List Interval). f.pre ++ m) (here_inside c f.r f.more (omega (arith, f.base)) (omega (arith, f.base)))

      pub edits_inside : (l' : List ℕ) (k : ℕ) → Rested l i n c.hi l' k → lent k l' ≡ edited c n l
      unfolding Rested
      edits_inside l' k rested =
          let f = first takes past lt in
          let fill : i + length (f.r ∷ f.more) ≡ n = omega (arith, f.fill) in
          edited_rest takes l l' i k c.hi f.pre (f.r ∷ f.more) (cut_inside_lem f) f.count fill
          (rested f.pre (f.r ∷ f.more) (drop (n + n) l) f.count fill (f.order, f.upward) f.numbers)

    module _ (h : get_or l (i + i) 0 < c.lo) where
      -- it starts before, and ends in it
      module _ (e : get_or l (i + i) 0 + get_or l (i + i + 1) 0 ≤ c.hi) where
        cut_left : (f : First c l n i) → cut_from c (table_in n l) ≡ (f.pre ++ (interval f.r.lo c.lo ∷ [])) ++ above c.hi f.more
        cut_left f =
            f.left ∙ ap (λ (m : List Interval). f.pre ++ m)
            (here_left c f.r f.more (omega (arith, f.base, takes.some)) (omega (arith, f.base)) (omega (arith, f.base, f.size, f.order)))
            ∙ sym (append_assoc f.pre (interval f.r.lo c.lo ∷ []) (above c.hi f.more))

        pub edits_left : (l' : List ℕ) (k : ℕ) → Rested (set l (i + i + 1) (c.lo - get_or l (i + i) 0)) (i + 1) n c.hi l' k → lent k l' ≡ edited c n l
        unfolding Rested
        edits_left l' k rested =
            let f = first takes past lt in
            let cut : Interval = interval f.r.lo c.lo in
            let pre : List Interval = f.pre ++ (cut ∷ []) in
            let lp : length pre ≡ i + 1 = omega (arith, length-append f.pre (cut ∷ []), f.count) in
            let v : c.lo - get_or l (i + i) 0 ≡ c.lo - f.r.lo = omega (arith, f.base) in
            let numbers : set l (i + i + 1) (c.lo - get_or l (i + i) 0) ≡ flat pre ++ (flat f.more ++ drop (n + n) l) =
            set_size l i f.pre f.r f.more (drop (n + n) l) f.count f.numbers (c.lo - get_or l (i + i) 0)
            ∙ ap (λ (w : ℕ). flat f.pre ++ (f.r.lo ∷ w ∷ (flat f.more ++ drop (n + n) l))) v
            ∙ sym (flat_snoc f.pre cut (flat f.more ++ drop (n + n) l)) in
            edited_rest takes (set l (i + i + 1) (c.lo - get_or l (i + i) 0)) l' (i + 1) k c.hi pre f.more (cut_left f) lp f.fill
            (rested pre f.more (drop (n + n) l) lp f.fill f.upward numbers)

      -- it starts before, and ends after it: two areas
      module _ (e : c.hi < get_or l (i + i) 0 + get_or l (i + i + 1) 0) where
        two : First c l n i → List Interval
        two f = f.pre ++ (interval f.r.lo c.lo ∷ interval c.hi f.r.hi ∷ f.more)

        cut_two : (f : First c l n i) → cut_from c (table_in n l) ≡ two f
        unfolding two
        cut_two f =
            f.left ∙ ap (λ (m : List Interval). f.pre ++ m)
            (here_two c f.r f.more (omega (arith, f.base, takes.some)) (omega (arith, f.base)) (omega (arith, f.base, f.size, f.order)))

        two_length : (f : First c l n i) → length (two f) ≡ n + 1
        unfolding two
        two_length f =
            omega (arith, length-append f.pre (interval f.r.lo c.lo ∷ interval c.hi f.r.hi ∷ f.more), f.count, f.fill)

        -- no slot for the second
        pub edits_full : length l / 2 ≤ n → lent n l ≡ edited c n l
        edits_full full = let f = first takes past lt in edited_full takes (two f) (cut_two f) (omega (arith, two_length f))

        pub edits_splits : n < length l / 2 → Splits l i n c
        edits_splits room = record { at = lt; room = omega arith; first = omega arith; order = omega (arith, takes.some); last = omega arith }

        pub edits_two : n < length l / 2 → (l' : List ℕ) → Parted l i n c l' → lent (n + 1) l' ≡ edited c n l
        unfolding Parted table_with two
        edits_two room l' parted =
            let f = first takes past lt in
            let a : drop (n + n) l ≡ get_or l (n + n) 0 ∷ drop (suc (n + n)) l = drop-cons l (n + n) 0 (omega arith) in
            let b : drop (suc (n + n)) l ≡ get_or l (suc (n + n)) 0 ∷ drop (suc (suc (n + n))) l = drop-cons l (suc (n + n)) 0 (omega arith) in
            let numbers : l ≡ flat f.pre ++ (flat (f.r ∷ f.more) ++ (get_or l (n + n) 0 ∷ get_or l (suc (n + n)) 0 ∷ drop (suc (suc (n + n))) l)) =
            f.numbers ∙ ap (λ (m : List ℕ). flat f.pre ++ (flat (f.r ∷ f.more) ++ m)) (a ∙ ap (λ (m : List ℕ). get_or l (n + n) 0 ∷ m) b) in
            let many : length (two f) ≡ n + 1 = two_length f in
            let z : n + n - (length (two f) + length (two f)) ≡ 0 = omega arith in
            let m= : max (n + n) (length (two f) + length (two f)) ≡ suc (suc (n + n)) = omega arith in
            edited_done takes (two f) (cut_two f) (omega arith) (n + 1) (sym many) l'
            (parted f.pre f.r f.more (get_or l (n + n) 0) (get_or l (suc (n + n)) 0) (drop (suc (suc (n + n))) l) f.count f.fill numbers
            ∙ sym (ap₂ (λ (g k : ℕ). flat (two f) ++ (replicate g 0 ++ drop k l)) z m=
            ∙ flat_append f.pre (interval f.r.lo c.lo ∷ interval c.hi f.r.hi ∷ f.more) (drop (suc (suc (n + n))) l)))

-- ── crowded ──
pub crowds_not : (c : Interval) (n : ℕ) (l : List ℕ) → takes c n l ≡ false → false ≡ crowds c n l
unfolding crowds
crowds_not c n l e = rw e

module _ {c : Interval} {l : List ℕ} {n : ℕ} (takes : Takes c n l) where
  crowds_is : crowds c n l ≡ not (fits (cut_from c (table_in n l)) l)
  unfolding crowds
  crowds_is = rw (takes_is c n l takes)

  crowded_no : length (cut_from c (table_in n l)) ≤ slots_in l → false ≡ crowds c n l
  crowded_no h = sym (crowds_is ∙ ap not (le-leb (length (cut_from c (table_in n l))) (slots_in l) h))

  crowded_same : cut_from c (table_in n l) ≡ table_in n l → false ≡ crowds c n l
  crowded_same e = crowded_no (omega (arith, ap length e, takes.room, table_length n l (omega (arith, takes.room))))

  -- an area that starts in the range, or ends in it, does not become two
  crowded_rest : (pre more : List Interval) → cut_from c (table_in n l) ≡ pre ++ above c.hi more → length pre + length more ≡ n → false ≡ crowds c n l
  crowded_rest pre more e q =
      crowded_no (omega (arith, takes.room, ap length e, length-append pre (above c.hi more), above_length c.hi more))

  pub crowded_room : n < length l / 2 → false ≡ crowds c n l
  crowded_room h = crowded_no (omega (arith, cut_short c (table_in n l), table_length n l (omega (arith, takes.room))))

  module _ {i : ℕ} (past : Past l 0 n c.lo i) where
    pub crowded_before : n ≤ i → false ≡ crowds c n l
    crowded_before h = crowded_same (cut_before takes past h)

    module _ (lt : i < n) where
      pub crowded_inside : c.lo ≤ get_or l (i + i) 0 → false ≡ crowds c n l
      crowded_inside h =
          let f = first takes past lt in
          ⊎_elim (λ (b : c.hi ≤ get_or l (i + i) 0). crowded_same (cut_after takes past lt b))
          (λ (b : get_or l (i + i) 0 < c.hi). crowded_rest f.pre (f.r ∷ f.more) (cut_inside_lem takes past lt b h f) (omega (arith, f.count, f.fill)))
          (le_or_lt c.hi (get_or l (i + i) 0))

      -- an area that starts before the range: it becomes two where it does not end in it
      pub crowded_ends : length l / 2 ≤ n → get_or l (i + i) 0 < c.lo → (t : Bool) → t ≡ leb (get_or l (i + i) 0 + get_or l (i + i + 1) 0) c.hi
          → not t ≡ crowds c n l
      crowded_ends full h true e =
          let f = first takes past lt in
          let pre : List Interval = f.pre ++ (interval f.r.lo c.lo ∷ []) in
          crowded_rest pre f.more (cut_left takes past lt h (leb-true _ _ (sym e)) f)
          (omega (arith, length-append f.pre (interval f.r.lo c.lo ∷ []), f.count, f.fill))
      crowded_ends full h false e =
          let f = first takes past lt in
          let b = leb-false _ _ (sym e) in
          let many : length (cut_from c (table_in n l)) ≡ n + 1 = ap length (cut_two takes past lt h b f) ∙ two_length takes past lt h b f in
          sym (crowds_is ∙ ap not (lt-leb (length (cut_from c (table_in n l))) (slots_in l) (omega arith)))

-- fewer areas than slots, or slots that are not there
pub crowded_not_full : (c : Interval) (n : ℕ) (l : List ℕ) → c.lo < c.hi → (n ≡ length l / 2 → ⊥) → false ≡ crowds c n l
crowded_not_full c n l some h =
    ⊎_elim (λ (b : n ≤ length l / 2). crowded_room {c = c} {l = l} {n = n} (record { some = some; room = b }) (omega arith))
    (λ (b : length l / 2 < n). crowds_not c n l (takes_none c n l b))
    (le_or_lt n (length l / 2))

-- ── A table that can be one ──
-- of it a range that is not empty leaves "its areas", less the range
module _ (p n : ℕ) (l : List ℕ) (c : Interval) (good : good_table p n l ≡ true) (some : c.lo < c.hi) where
  good_takes : Takes c n l
  good_takes = record { some = some; room = ((good_exactly p n l).0 good).room }

  good_cut : cut_from c (table_in n l) ≡ less c (table_in n l)
  good_cut = cut_less c some (table_in n l) ((good_exactly p n l).0 good).shape.ascend

  pub good_crowds : crowds c n l ≡ not (fits (less c (table_in n l)) l)
  good_crowds = crowds_is good_takes ∙ ap (λ (m : List Interval). not (fits m l)) good_cut

  pub good_edited : fits (less c (table_in n l)) l ≡ true → edited c n l ≡ lent (length (less c (table_in n l))) (table_with (less c (table_in n l)) n l)
  good_edited e =
      let areas = less c (table_in n l) in
      sym (edited_done good_takes areas good_cut (leb-true _ _ e) (length areas) refl (table_with areas n l) refl)
