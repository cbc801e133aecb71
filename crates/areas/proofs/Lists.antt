-- Lists of intervals: what is said of every element, and what a list holds once two are joined. Assumes nothing.
use mathlib.Core.List.{List, [], ◌∷◌, ◌++◌, map, Memᴰ}
use mathlib.Core.Logic.{◌⊎◌, inl, inr, ⊎_elim}
use native.Mathlib.Decide.{dec_le}
use native.Mathlib.Omega.{arith}
use Prim.Native.Nat.{ℕ, ◌≤◌, ◌<◌}
use Rattle.areas.specs.declared.Interval.{Interval}
use Rattle.areas.specs.Interval.{Listed}

pub le_or_lt : (a b : ℕ) → (a ≤ b) ⊎ (b < a)
le_or_lt a b = go (dec_le a b)
  where
    go : Dec (a ≤ b) → (a ≤ b) ⊎ (b < a)
    go (yes p) = inl p
    go (no q) = inr (omega arith)

-- P holds of every element
module _ {A : Type 0} (P : A → Type 0) where
  abbrev pub Every : List A → Type 0
  Every [] = Unit {0}
  Every (a ∷ l) = P a × Every l

  pub every_append : (l m : List A) → Every l → Every m → Every (l ++ m)
  every_append [] m s t = t
  every_append (a ∷ l) m s t = (s.0, every_append l m s.1 t)

pub every_member : {A : Type 0} (P : A → Type 0) (l : List A) → Every P l → (a : A) → Memᴰ a l → P a
every_member P [] e a m = elim m [ ]
every_member P (b ∷ l) e a (Memᴰ.head q) = rw q e.0
every_member P (b ∷ l) e a (Memᴰ.tail m) = every_member P l e.1 a m

pub every_map : {A B : Type 0} (P : B → Type 0) (f : A → B) (l : List A) → Every (λ a. P (f a)) l → Every P (map f l)
every_map P f [] h = tt
every_map P f (a ∷ l) h = (h.0, every_map P f l h.1)

pub every_weaker : {A : Type 0} (P Q : A → Type 0) → ((a : A) → P a → Q a) → (l : List A) → Every P l → Every Q l
every_weaker P Q f [] h = tt
every_weaker P Q f (a ∷ l) h = (f a h.0, every_weaker P Q f l h.1)

module _ (x : ℕ) where
  pub listed_append : (l m : List Interval) → Listed x (l ++ m) → Listed x l ⊎ Listed x m
  listed_append [] m i = inr i
  listed_append (r ∷ l) m (inl i) = inl (inl i)
  listed_append (r ∷ l) m (inr i) = ⊎_elim (λ j. inl (inr j)) (λ j. inr j) (listed_append l m i)

  pub listed_left : (l m : List Interval) → Listed x l → Listed x (l ++ m)
  listed_left [] m i = elim i [ ]
  listed_left (r ∷ l) m (inl i) = inl i
  listed_left (r ∷ l) m (inr i) = inr (listed_left l m i)

  pub listed_right : (l m : List Interval) → Listed x m → Listed x (l ++ m)
  listed_right [] m i = i
  listed_right (r ∷ l) m i = inr (listed_right l m i)
