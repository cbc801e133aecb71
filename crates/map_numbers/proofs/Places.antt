-- A map's numbers, place by place: where each number of an entry stands, and what a loop over the slots has read or written so far.
-- Assumes nothing.
use mathlib.Core.Path.{◌≡◌, refl, ap, sym, subst, ◌∙◌}
use mathlib.Core.Bool.{Bool, true, false}
use lib.Dec.{ltb}
use borrow.Author.Tests.{ltb-true, ltb-false}
use mathlib.Core.List.{List, [], ◌∷◌, ◌++◌, map}
use Prim.Native.Nat.{ℕ, zero, suc, ◌+◌, ◌-◌, ◌<◌, ◌≤◌}
use native.Mathlib.Omega.{arith}
use lib.ListN.{length, get_or, set, length-set}
use lib.Seq.{get_or-set_same, get_or-set_other}
use Rattle.std.proofs.Common.{below_more}
use Rattle.std.proofs.lemmas.List.{length-map, length-append, get_or-map, get_or_append_left, get_or-append_right, same_lists}
use Rattle.std.proofs.lemmas.Grind.{same_number_lists}
use Rattle.entry.specs.declared.MemoryEntry.{MemoryEntry}
use Rattle.memory.specs.Map.{Slots, vacant}
use Rattle.memory.specs.Made.{Full}
use Rattle.map_numbers.specs.Numbers.{entry_in, slots_in, starts, ends, kinds, numbers}

-- ── Slots in numbers ──
pub slots_length : (l : List ℕ) (n i : ℕ) → length (slots_in l n i) ≡ n
unfolding slots_in
slots_length l zero i = refl
slots_length l (suc n) i = ap suc (slots_length l n (i + 1))

pub slots_at : (l : List ℕ) (n i k : ℕ) (d : MemoryEntry) → k < n → get_or (slots_in l n i) k d ≡ entry_in l (i + k)
unfolding slots_in
slots_at l zero i k d h = absurd (omega arith)
slots_at l (suc n) i zero d h = let e : i + 0 ≡ i = omega arith in rw e
slots_at l (suc n) i (suc k) d h =
    let e : i + 1 + k ≡ i + suc k = omega arith in
    slots_at l n (i + 1) k d (omega arith) ∙ ap (entry_in l) e

-- those of all 512, counted from the first
pub slots_from_first : (l : List ℕ) (k : ℕ) (d : MemoryEntry) → k < 512 → get_or (slots_in l 512 0) k d ≡ entry_in l k
slots_from_first l k d h = let e : 0 + k ≡ k = omega arith in slots_at l 512 0 k d h ∙ ap (entry_in l) e

-- the first i slots are read
pub record Reads (l : List ℕ) (i : ℕ) (es : Slots) : Type 0 where
  pub full : Full es
  pub read : (k : ℕ) → k < i → get_or es k vacant ≡ entry_in l k

pub reads_on : {l : List ℕ} {i : ℕ} {es : Slots} → Reads l i es → i < 512 → Reads l (i + 1) (set es i (entry_in l i))
reads_on {l} {i} {es} r h =
    record {
      full = length-set es i (entry_in l i) ∙ r.full;
      read = below_more _ _
          (λ k b. get_or-set_other es i k (entry_in l i) vacant (omega arith) ∙ r.read k b)
          (get_or-set_same es i (entry_in l i) vacant (omega (arith, r.full)));
    }

-- a default does not matter where there is an entry
default : (es : Slots) (k : ℕ) (d : MemoryEntry) → k < length es → get_or es k d ≡ get_or es k vacant
default [] k d h = absurd (omega arith)
default (e ∷ es) zero d h = refl
default (e ∷ es) (suc k) d h = default es k d (omega arith)

pub reads_all : {l : List ℕ} {es : Slots} → Reads l 512 es → es ≡ slots_in l 512 0
reads_all {l} {es} r =
    same_lists es (slots_in l 512 0) (r.full ∙ sym (slots_length l 512 0))
    (λ k d h. default es k d h ∙ r.read k (omega (arith, r.full)) ∙ sym (slots_from_first l k d (omega (arith, r.full))))

-- ── A map's numbers ──
behind : (xs ys : List ℕ) (n k : ℕ) → length xs ≡ n → get_or (xs ++ ys) (n + k) 0 ≡ get_or ys k 0
behind xs ys n k e = let q : n + k - n ≡ k = omega arith in get_or-append_right xs ys n (n + k) 0 e (omega arith) ∙ rw q

module _ (es : Slots) (full : Full es) where
  long : (f : MemoryEntry → ℕ) → length (map f es) ≡ 512
  long f = length-map es f ∙ full

  -- place k of the numbers that f gives, with others behind them
  front : (f : MemoryEntry → ℕ) (ys : List ℕ) (k : ℕ) → k < 512 → get_or (map f es ++ ys) k 0 ≡ f (get_or es k vacant)
  front f ys k h = get_or_append_left (map f es) ys 0 k (omega (arith, long f)) ∙ get_or-map f es k vacant 0 (omega (arith, full))

  pub numbers_length : (n : ℕ) → length (numbers es n) ≡ 1537
  numbers_length n =
      simp length-append
      (let a = long (λ e. e.start) in let b = long (λ e. e.end) in let d = long (λ e. e.kind) in omega (arith, a, b, d))

  pub start_at : (n k : ℕ) → k < 512 → get_or (numbers es n) k 0 ≡ (get_or es k vacant).start
  start_at n k h = front (λ e. e.start) _ k h

  pub end_at : (n k : ℕ) → k < 512 → get_or (numbers es n) (512 + k) 0 ≡ (get_or es k vacant).end
  end_at n k h = behind (starts es) _ 512 k (long (λ e. e.start)) ∙ front (λ e. e.end) _ k h

  pub kind_at : (n k : ℕ) → k < 512 → get_or (numbers es n) (1024 + k) 0 ≡ (get_or es k vacant).kind
  kind_at n k h =
      let e : 1024 + k ≡ 512 + (512 + k) = omega arith in
      ap (λ (i : ℕ). get_or (numbers es n) i 0) e
      ∙ behind (starts es) _ 512 (512 + k) (long (λ e. e.start))
      ∙ behind (ends es) _ 512 k (long (λ e. e.end))
      ∙ front (λ e. e.kind) _ k h

  pub size_at : (n : ℕ) → get_or (numbers es n) 1536 0 ≡ n
  size_at n =
      behind (starts es) _ 512 1024 (long (λ e. e.start))
      ∙ behind (ends es) _ 512 512 (long (λ e. e.end))
      ∙ behind (kinds es) _ 512 0 (long (λ e. e.kind))

-- ── Numbers that are written slot by slot ──
-- the numbers of the first i slots are written
pub record Written (es : Slots) (i : ℕ) (l : List ℕ) : Type 0 where
  pub size : length l ≡ 1537
  pub starts : (k : ℕ) → k < i → get_or l k 0 ≡ (get_or es k vacant).start
  pub ends : (k : ℕ) → k < i → get_or l (512 + k) 0 ≡ (get_or es k vacant).end
  pub kinds : (k : ℕ) → k < i → get_or l (1024 + k) 0 ≡ (get_or es k vacant).kind

-- the three numbers of slot i, written one after the other
abbrev pub three : List ℕ → ℕ → MemoryEntry → List ℕ
three l i e = set (set (set l i e.start) (512 + i) e.end) (1024 + i) e.kind

three_length : (l : List ℕ) (i : ℕ) (e : MemoryEntry) → length (three l i e) ≡ length l
three_length l i e = simp length-set

three_else : (l : List ℕ) (i : ℕ) (e : MemoryEntry) (k : ℕ) → (k ≡ i → ⊥) → (k ≡ 512 + i → ⊥) → (k ≡ 1024 + i → ⊥) → get_or (three l i e) k 0 ≡ get_or l k 0
three_else l i e k a b d = get_or-set_other _ _ k _ 0 d ∙ get_or-set_other _ _ k _ 0 b ∙ get_or-set_other _ _ k _ 0 a

module _ {es : Slots} {i : ℕ} {l : List ℕ} (w : Written es i l) (h : i < 512) where
  pub written_on : Written es (i + 1) (three l i (get_or es i vacant))
  written_on =
      let e : MemoryEntry = get_or es i vacant in
      record {
        size = three_length l i e ∙ w.size;
        starts = below_more _ _
            (λ k b. three_else l i e k (omega arith) (omega arith) (omega arith) ∙ w.starts k b)
            (get_or-set_other _ _ i _ 0 (omega arith) ∙ get_or-set_other _ _ i _ 0 (omega arith) ∙ get_or-set_same l i _ 0 (omega (arith, w.size)));
        ends = below_more _ _
            (λ k b. three_else l i e (512 + k) (omega arith) (omega arith) (omega arith) ∙ w.ends k b)
            (get_or-set_other _ _ (512 + i) _ 0 (omega arith) ∙ get_or-set_same (set l i e.start) (512 + i) _ 0 (simp length-set (omega (arith, w.size))));
        kinds = below_more _ _
            (λ k b. three_else l i e (1024 + k) (omega arith) (omega arith) (omega arith) ∙ w.kinds k b)
            (get_or-set_same (set (set l i e.start) (512 + i) e.end) (1024 + i) _ 0 (simp length-set (omega (arith, w.size))));
      }

-- where each place of the numbers belongs
place : (P : ℕ → Type 0) → ((k : ℕ) → k < 512 → P k) → ((k : ℕ) → k < 512 → P (512 + k)) → ((k : ℕ) → k < 512 → P (1024 + k)) → P 1536
    → (k : ℕ) → k < 1537 → P k
place P a b d z k h = go (ltb k 512) refl (ltb k 1024) refl (ltb k 1536) refl
  where
    go : (s : Bool) → ltb k 512 ≡ s → (t : Bool) → ltb k 1024 ≡ t → (u : Bool) → ltb k 1536 ≡ u → P k
    go true e t f u g = a k (ltb-true _ _ e)
    go false e true f u g = let q : 512 + (k - 512) ≡ k = omega (arith, ltb-false _ _ e) in subst P q (b (k - 512) (omega (arith, ltb-true _ _ f)))
    go false e false f true g = let q : 1024 + (k - 1024) ≡ k = omega (arith, ltb-false _ _ f) in subst P q (d (k - 1024) (omega (arith, ltb-true _ _ g)))
    go false e false f false g = let q : 1536 ≡ k = omega (arith, ltb-false _ _ g) in subst P q z

-- all of them, with the count
pub written_all : {es : Slots} {l : List ℕ} (n : ℕ) → Full es → Written es 512 l → set l 1536 n ≡ numbers es n
written_all {es} {l} n full w =
    same_number_lists (set l 1536 n) (numbers es n) (length-set l 1536 n ∙ w.size ∙ sym (numbers_length es full n))
    (λ k h. place (λ k. get_or (set l 1536 n) k 0 ≡ get_or (numbers es n) k 0)
    (λ k b. get_or-set_other l 1536 k n 0 (omega arith) ∙ w.starts k b ∙ sym (start_at es full n k b))
    (λ k b. get_or-set_other l 1536 (512 + k) n 0 (omega arith) ∙ w.ends k b ∙ sym (end_at es full n k b))
    (λ k b. get_or-set_other l 1536 (1024 + k) n 0 (omega arith) ∙ w.kinds k b ∙ sym (kind_at es full n k b))
    (get_or-set_same l 1536 n 0 (omega (arith, w.size)) ∙ sym (size_at es full n))
    k (omega (arith, length-set l 1536 n, w.size)))
