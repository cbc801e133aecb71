-- Where the order file ends, as the code goes; and a good order file with anything behind it ends where it did, so that the cut gives back
-- both. Assumes nothing.
use mathlib.Core.Path.{◌≡◌, ap, ◌∙◌}
use Prim.Native.Nat.{ℕ, ◌+◌, ◌*◌, ◌≤◌, ◌<◌, min}
use native.Mathlib.Omega.{arith}
use mathlib.Core.List.{List, ◌++◌}
use lib.ListN.{length, take, drop, length-append, get_or-append}
use lib.Seq.{take-append_seam, drop-append_seam}
use borrow.Author.Tests.{le-leb, lt-leb}
use Rattle.words.specs.Little.{half, quarter}
use Rattle.order.specs.Layout.{list_count, tree_length, GoodOrder, file_end}

-- ── The ways through the code ──
pub end_short : (s : List ℕ) → length s < 112 → file_end s ≡ length s
unfolding file_end
end_short s h = rw (lt-leb 112 (length s) h)

pub end_held : (s : List ℕ) → 112 ≤ length s → file_end s ≡ min (length s) (112 + list_count s * 24 + tree_length s)
unfolding file_end
end_held s h = rw (le-leb 112 (length s) h)

-- ── With something behind it ──
half_append : (s t : List ℕ) (at : ℕ) → at + 2 ≤ length s → half (s ++ t) at ≡ half s at
unfolding half
half_append s t at h = rw (get_or-append s t 0 at (omega arith), get_or-append s t 0 (at + 1) (omega arith))

quarter_append : (s t : List ℕ) (at : ℕ) → at + 4 ≤ length s → quarter (s ++ t) at ≡ quarter s at
unfolding quarter
quarter_append s t at h = rw (half_append s t at (omega arith), half_append s t (at + 2) (omega arith))

module _ {s : List ℕ} (g : GoodOrder s) (t : List ℕ) where
  -- "its length is what its header says"
  pub file_end_lem : file_end (s ++ t) ≡ length s
  file_end_lem =
      let long : length (s ++ t) ≡ length s + length t = length-append s t in
      let list : list_count (s ++ t) ≡ list_count s = half_append s t 6 (omega (arith, g.least)) in
      let tree : tree_length (s ++ t) ≡ tree_length s = quarter_append s t 104 (omega (arith, g.least)) in
      end_held (s ++ t) (omega (arith, g.least)) ∙ omega (arith, g.whole)

  -- the cut gives back the file and what follows
  pub file_before : take (file_end (s ++ t)) (s ++ t) ≡ s
  file_before = ap (λ (n : ℕ). take n (s ++ t)) file_end_lem ∙ take-append_seam s t

  pub file_behind : drop (file_end (s ++ t)) (s ++ t) ≡ t
  file_behind = ap (λ (n : ℕ). drop n (s ++ t)) file_end_lem ∙ drop-append_seam s t
