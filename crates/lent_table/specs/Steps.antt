-- The contracts of the steps inside an edit. No caller sees them: what an edit promises is Edit.edited.
use Rattle.std.specs.Prelude.{◌≡◌, List, ◌∷◌, ◌++◌, ℕ, ◌+◌, ◌-◌, ◌≤◌, ◌<◌, length, get_or, drop, replicate}
use Rattle.areas.specs.declared.Interval.{Interval}
use Rattle.areas.specs.Interval.{interval}
use Rattle.areas.specs.Steps.{All}
use Rattle.areas.specs.Table.{flat}
use Rattle.lent_table.specs.Table.{table_in}
use Rattle.lent_table.specs.Edit.{lead, front, above}

-- past: the areas from slot `from` on, up to slot n
pub record Past (l : List ℕ) (from n x k : ℕ) : Type 0 where
  pub low : from ≤ k
  pub high : k ≤ n
  pub count : k ≡ from + lead x (table_in (n - from) (drop (from + from) l))
  pub stop : k < n → x < get_or l (k + k) 0 + get_or l (k + k + 1) 0

-- insert_area: a base and a size go in before the numbers c, which stand one slot on, over y and z
unfoldable pub Inserted : List ℕ → ℕ → ℕ → ℕ → ℕ → List ℕ → Type 0
Inserted l at n base size l' = (a c d : List ℕ) (y z : ℕ) → length a ≡ at + at → at + at + length c ≡ n + n
    → l ≡ a ++ (c ++ (y ∷ z ∷ d)) → l' ≡ a ++ (base ∷ size ∷ (c ++ d))

-- clear: zeros for the numbers b
unfoldable pub Cleared : List ℕ → ℕ → ℕ → List ℕ → Type 0
Cleared l from to l' = (a b c : List ℕ) → length a ≡ from → from + length b ≡ to
    → l ≡ a ++ (b ++ c) → l' ≡ a ++ (replicate (length b) 0 ++ c)

-- slide: the numbers c and the g zeros before them change places
unfoldable pub Slid : List ℕ → ℕ → ℕ → ℕ → List ℕ → Type 0
Slid l to from end l' = (a c d : List ℕ) (g : ℕ) → length a ≡ to → to + g ≡ from → from + length c ≡ end
    → l ≡ a ++ (replicate g 0 ++ (c ++ d)) → l' ≡ a ++ (c ++ (replicate g 0 ++ d))

-- trim_front: the first area, which ends past hi
pub record Trims (l : List ℕ) (j n hi : ℕ) : Type 0 where
  pub room : n + n ≤ length l
  pub ends : j < n → hi < get_or l (j + j) 0 + get_or l (j + j + 1) 0

unfoldable pub Trimmed : List ℕ → ℕ → ℕ → ℕ → List ℕ → Type 0
Trimmed l j n hi l' = (pre xs : List Interval) (post : List ℕ) → length pre ≡ j → j + length xs ≡ n
    → l ≡ flat pre ++ (flat xs ++ post) → l' ≡ flat pre ++ (flat (front hi xs) ++ post)

-- no area ends before it starts, as none does that is read from numbers
abbrev pub Upward : List Interval → Type 0
Upward l = All (λ r. r.lo ≤ r.hi) l

-- cut_rest: the areas xs from slot i on without what lies below hi: they move down to slot i, and leave zeros
pub record Rest (l : List ℕ) (i n hi : ℕ) (l' : List ℕ) (n' : ℕ) (pre xs : List Interval) (post : List ℕ) : Type 0 where
  pub count : n' ≡ i + length (above hi xs)
  pub slots : l' ≡ flat pre ++ (flat (above hi xs) ++ (replicate (lead hi xs + lead hi xs) 0 ++ post))

unfoldable pub Rested : List ℕ → ℕ → ℕ → ℕ → List ℕ → ℕ → Type 0
Rested l i n hi l' n' = (pre xs : List Interval) (post : List ℕ) → length pre ≡ i → i + length xs ≡ n → Upward xs
    → l ≡ flat pre ++ (flat xs ++ post) → Rest l i n hi l' n' pre xs post

-- split_at: the area in slot i, which reaches past the range c on both sides, in two; what stands after it moves one slot on
pub record Splits (l : List ℕ) (i n : ℕ) (c : Interval) : Type 0 where
  pub at : i < n
  pub room : n + n + 2 ≤ length l
  pub first : get_or l (i + i) 0 ≤ c.lo
  pub order : c.lo ≤ c.hi
  pub last : c.hi ≤ get_or l (i + i) 0 + get_or l (i + i + 1) 0

unfoldable pub Parted : List ℕ → ℕ → ℕ → Interval → List ℕ → Type 0
Parted l i n c l' = (pre : List Interval) (r : Interval) (more : List Interval) (y z : ℕ) (post : List ℕ) → length pre ≡ i → i + 1 + length more ≡ n
    → l ≡ flat pre ++ (flat (r ∷ more) ++ (y ∷ z ∷ post))
    → l' ≡ flat pre ++ (flat (interval r.lo c.lo ∷ interval c.hi r.hi ∷ more) ++ post)
