-- What carving gives: the ways that one reservation cuts, which addresses are left, that the pieces ascend inside the area,
-- and the equation that `add_memory` is. Assumes nothing.
use mathlib.Core.Path.{◌≡◌, refl, ap₂, sym, ◌∙◌}
use mathlib.Core.List.{List, [], ◌∷◌, ◌++◌, Memᴰ}
use mathlib.Core.Logic.{◌⊎◌, inl, inr, ⊎_elim}
use Prim.Native.Nat.{ℕ, zero, suc, ◌+◌, ◌-◌, ◌≤◌, ◌<◌}
use native.Mathlib.Omega.{arith}
use native.Mathlib.Nat.{le_refl}
use lib.ListN.{length}
use borrow.Author.Tests.{le-ltb, lt-ltb, le-leb, lt-leb}
use Rattle.areas.specs.declared.Interval.{Interval}
use Rattle.areas.specs.Interval.{interval, Inside, Listed}
use Rattle.areas.specs.declared.Cut.{Cut}
use Rattle.areas.specs.declared.Cut.TheVariants.{Gone, Rest, Split}
use Rattle.areas.specs.Carve.{cut_by, after, walk, carve_by, carve, after_nests, walk_nests, Nests}
use Rattle.areas.specs.Steps.{Solid}
use Rattle.areas.proofs.Lists.{le_or_lt, listed_append, listed_left, listed_right}
use Rattle.areas.proofs.Starting.{starting, starting_most, starting_less}

-- which cut a nonempty r makes of a nonempty [s, e)
pub data CutOf (r : Interval) (s e : ℕ) : Cut → Type 0 where
  is_gone : r.lo ≤ s → e ≤ r.hi → CutOf r s e Gone
  is_before : e ≤ r.lo → CutOf r s e (Rest (interval s e))
  is_after : r.hi ≤ s → CutOf r s e (Rest (interval s e))
  is_left : s < r.lo → r.lo < e → e ≤ r.hi → CutOf r s e (Rest (interval s r.lo))
  is_right : r.lo ≤ s → s < r.hi → r.hi < e → CutOf r s e (Rest (interval r.hi e))
  is_split : s < r.lo → r.hi < e → CutOf r s e (Split (interval s r.lo) (interval r.hi e))

module _ (r : Interval) (s e : ℕ) (solid : r.lo < r.hi) (some : s < e) where
  pub gone= : r.lo ≤ s → e ≤ r.hi → cut_by r (interval s e) ≡ Gone
  unfolding cut_by
  gone= p q = simp (lt-ltb r.lo e (omega arith), le-leb e r.hi q, le-leb r.lo s p)

  pub before= : e ≤ r.lo → cut_by r (interval s e) ≡ Rest (interval s e)
  unfolding cut_by
  before= p = simp (le-ltb r.lo e p, lt-leb e s some, lt-leb r.lo s (omega arith), le-leb s r.lo (omega arith))

  pub after= : r.hi ≤ s → cut_by r (interval s e) ≡ Rest (interval s e)
  unfolding cut_by
  after= p = simp (lt-ltb r.lo e (omega arith), lt-leb e r.hi (omega arith), lt-leb e s some, le-leb r.lo s (omega arith), le-ltb s r.hi p, lt-leb s r.lo (omega arith))

  pub left= : s < r.lo → r.lo < e → e ≤ r.hi → cut_by r (interval s e) ≡ Rest (interval s r.lo)
  unfolding cut_by
  left= p q t = simp (lt-ltb r.lo e q, le-leb e r.hi t, lt-leb r.lo s p, le-leb s r.lo (omega arith), le-ltb r.lo r.lo (omega arith))

  pub right= : r.lo ≤ s → s < r.hi → r.hi < e → cut_by r (interval s e) ≡ Rest (interval r.hi e)
  unfolding cut_by
  right= p q t = simp (lt-ltb r.lo e (omega arith), lt-leb e r.hi t, lt-leb e s some, le-leb r.lo s p, lt-ltb s r.hi q, lt-leb r.hi r.lo solid)

  pub split= : s < r.lo → r.hi < e → cut_by r (interval s e) ≡ Split (interval s r.lo) (interval r.hi e)
  unfolding cut_by
  split= p q = simp (lt-ltb r.lo e (omega arith), lt-leb e r.hi q, lt-leb e s some, lt-leb r.lo s p, le-leb s r.lo (omega arith))

  pub cut_of : CutOf r s e (cut_by r (interval s e))
  cut_of =
      ⊎_elim (λ (p : e ≤ r.lo). rw (before= p) (is_before p))
      (λ (p : r.lo < e). ⊎_elim (λ (q : r.hi ≤ s). rw (after= q) (is_after q))
      (λ (q : s < r.hi). ⊎_elim
      (λ (t : r.lo ≤ s). ⊎_elim (λ (u : e ≤ r.hi). rw (gone= t u) (is_gone t u)) (λ (u : r.hi < e). rw (right= t q u) (is_right t q u)) (le_or_lt e r.hi))
      (λ (t : s < r.lo). ⊎_elim (λ (u : e ≤ r.hi). rw (left= t p u) (is_left t p u)) (λ (u : r.hi < e). rw (split= t u) (is_split t u)) (le_or_lt e r.hi))
      (le_or_lt r.lo s))
      (le_or_lt r.hi s))
      (le_or_lt e r.lo)

out_of : (x : ℕ) (r : Interval) → (Inside x r → ⊥) → (x < r.lo) ⊎ (r.hi ≤ x)
out_of x r f = ⊎_elim (λ (p : r.lo ≤ x). ⊎_elim (λ (q : r.hi ≤ x). inr q) (λ (q : x < r.hi). absurd (f (p, q))) (le_or_lt r.hi x)) (λ (p : x < r.lo). inl p) (le_or_lt r.lo x)

-- of x: the list l holds it only where [s, e) does and no interval of rs does; and holds it where [s, e) does and no interval of all does
pub record Right (x : ℕ) (all rs : List Interval) (s e : ℕ) (l : List Interval) : Type 0 where
  pub into : Listed x l → (s ≤ x) × (x < e) × (Listed x rs → ⊥)
  pub back : s ≤ x → x < e → (Listed x all → ⊥) → Listed x l

module _ (x : ℕ) (all : List Interval) (k : ℕ) (left : ℕ → ℕ → List Interval) (left-ok : (a b : ℕ) → a < b → b ≤ a + k → Right x all all a b (left a b)) where
  module _ (r : Interval) (rs : List Interval) (s e : ℕ) (solid : r.lo < r.hi) (some : s < e) (deep : e ≤ s + suc k) (sub : Listed x (r ∷ rs) → Listed x all)
      (go : ℕ → ℕ → List Interval) (go-ok : (a b : ℕ) → a < b → b ≤ a + suc k → Right x all rs a b (go a b)) where
    rest_right : (a b : ℕ) → a < b → s ≤ a → b ≤ e → ((a ≤ x) → (x < b) → Inside x r → ⊥) → (s ≤ x → x < e → (x < r.lo) ⊎ (r.hi ≤ x) → (a ≤ x) × (x < b)) → Right x all (r ∷ rs) s e (go a b)
    rest_right a b ab sa be f g =
        let o = go-ok a b ab (omega arith) in
        record {
          into = λ i. let t = o.into i in (omega arith, omega arith, ⊎_elim (λ h. f t.0 t.1 h) t.2);
          back = λ p q n. let t = g p q (out_of x r (λ h. n (sub (inl h)))) in o.back t.0 t.1 n;
        }

    after_right : (c : Cut) → CutOf r s e c → Right x all (r ∷ rs) s e (after left go c)
    after_right c (is_gone p q) = record { into = λ i. absurd i; back = λ u v n. absurd (n (sub (inl (omega arith, omega arith)))) }
    after_right c (is_before p) = rest_right s e some (le_refl s) (le_refl e) (λ u v h. omega arith) (λ u v w. (u, v))
    after_right c (is_after p) = rest_right s e some (le_refl s) (le_refl e) (λ u v h. omega arith) (λ u v w. (u, v))
    after_right c (is_left p q t) = rest_right s r.lo p (le_refl s) (omega arith) (λ u v h. omega arith) (λ u v w. (u, ⊎_elim (λ z. z) (λ z. absurd (omega arith)) w))
    after_right c (is_right p q t) = rest_right r.hi e t (omega arith) (le_refl e) (λ u v h. omega arith) (λ u v w. (⊎_elim (λ z. absurd (omega arith)) (λ z. z) w, v))
    after_right c (is_split p q) =
        let l = left-ok s r.lo p (omega arith) in
        let o = go-ok r.hi e q (omega arith) in
        record {
          into = λ i. ⊎_elim
              (λ j. let t = l.into j in (t.0, omega arith, λ h. t.2 (sub h)))
              (λ j. let t = o.into j in (omega arith, t.1, ⊎_elim (λ (h : Inside x r). omega arith) t.2))
              (listed_append x (left s r.lo) (go r.hi e) i);
          back = λ u v n. ⊎_elim
              (λ (z : x < r.lo). listed_left x (left s r.lo) (go r.hi e) (l.back u z n))
              (λ (z : r.hi ≤ x). listed_right x (left s r.lo) (go r.hi e) (o.back z v n))
              (out_of x r (λ h. n (sub (inl h))));
        }

  walk_right : (rs : List Interval) (s e : ℕ) → s < e → e ≤ s + suc k → Solid rs → (Listed x rs → Listed x all) → Right x all rs s e (walk left rs s e)
  unfolding walk
  walk_right [] s e some deep solid sub = record { into = ⊎_elim (λ h. (h.0, h.1, λ i. i)) (λ z. absurd z); back = λ u v n. inl (u, v) }
  walk_right (r ∷ rs) s e some deep solid sub =
      after_right r rs s e solid.0 some deep sub (λ a b. walk left rs a b)
      (λ a b ab dp. walk_right rs a b ab dp solid.1 (λ i. sub (inr i))) (cut_by r (interval s e)) (cut_of r s e solid.0 some)

carve_by_right : (x : ℕ) (k : ℕ) (all : List Interval) (s e : ℕ) → Solid all → s < e → e ≤ s + k → Right x all all s e (carve_by k all s e)
unfolding carve_by
carve_by_right x zero all s e solid some deep = absurd (omega arith)
carve_by_right x (suc k) all s e solid some deep =
    walk_right x all k (λ a b. carve_by k all a b) (λ a b ab dp. carve_by_right x k all a b solid ab dp) all s e some deep solid (λ i. i)

pub carve_right : (x : ℕ) (all : List Interval) (s e : ℕ) → Solid all → s < e → Right x all all s e (carve all s e)
unfolding carve
carve_right x all s e solid some = carve_by_right x (e - s) all s e solid some (omega arith)

-- ── The pieces ascend, are nonempty, never touch, and lie in the area ──

-- ascending, nonempty, never touching, and all from a up to b
abbrev pub Chain : ℕ → ℕ → List Interval → Type 0
Chain a b [] = Unit {0}
Chain a b (r ∷ l) = (a ≤ r.lo) × (r.lo < r.hi) × (r.hi ≤ b) × Chain (suc r.hi) b l

pub chain_wider : (l : List Interval) (a b c d : ℕ) → c ≤ a → b ≤ d → Chain a b l → Chain c d l
chain_wider [] a b c d p q h = tt
chain_wider (r ∷ l) a b c d p q h = (omega arith, h.1, omega arith, chain_wider l (suc r.hi) b (suc r.hi) d (le_refl (suc r.hi)) q h.3)

chain_append : (l m : List Interval) (a b c d : ℕ) → a ≤ c → b < c → b ≤ d → Chain a b l → Chain c d m → Chain a d (l ++ m)
chain_append [] m a b c d ac bc bd h k = chain_wider m c d a d ac (le_refl d) k
chain_append (r ∷ l) m a b c d ac bc bd h k = (h.0, h.1, omega arith, chain_append l m (suc r.hi) b c d (omega arith) bc bd h.3 k)

module _ (s₀ e₀ : ℕ) (left : ℕ → ℕ → List Interval) (left-ok : (a b : ℕ) → a < b → s₀ ≤ a → b < e₀ → Chain a b (left a b)) where
  after_chain : (r : Interval) (s e : ℕ) → r.lo < r.hi → s < e → s₀ ≤ s → e ≤ e₀ → (go : ℕ → ℕ → List Interval) → ((a b : ℕ) → a < b → s₀ ≤ a → b ≤ e₀ → Chain a b (go a b)) → (c : Cut) → CutOf r s e c → Chain s e (after left go c)
  after_chain r s e solid some lo hi go go-ok c (is_gone p q) = tt
  after_chain r s e solid some lo hi go go-ok c (is_before p) = go-ok s e some lo hi
  after_chain r s e solid some lo hi go go-ok c (is_after p) = go-ok s e some lo hi
  after_chain r s e solid some lo hi go go-ok c (is_left p q t) = chain_wider (go s r.lo) s r.lo s e (le_refl s) (omega arith) (go-ok s r.lo p lo (omega arith))
  after_chain r s e solid some lo hi go go-ok c (is_right p q t) = chain_wider (go r.hi e) r.hi e s e (omega arith) (le_refl e) (go-ok r.hi e t (omega arith) hi)
  after_chain r s e solid some lo hi go go-ok c (is_split p q) =
      chain_append (left s r.lo) (go r.hi e) s r.lo r.hi e (omega arith) solid (omega arith) (left-ok s r.lo p lo (omega arith)) (go-ok r.hi e q (omega arith) hi)

  walk_chain : (rs : List Interval) (s e : ℕ) → s < e → s₀ ≤ s → e ≤ e₀ → Solid rs → Chain s e (walk left rs s e)
  unfolding walk
  walk_chain [] s e some lo hi solid = (le_refl s, some, le_refl e, tt)
  walk_chain (r ∷ rs) s e some lo hi solid =
      after_chain r s e solid.0 some lo hi (λ a b. walk left rs a b) (λ a b ab al bh. walk_chain rs a b ab al bh solid.1) (cut_by r (interval s e)) (cut_of r s e solid.0 some)

carve_by_chain : (k : ℕ) (all : List Interval) (s e : ℕ) → Solid all → s < e → e ≤ s + k → Chain s e (carve_by k all s e)
unfolding carve_by
carve_by_chain zero all s e solid some deep = tt
carve_by_chain (suc k) all s e solid some deep =
    walk_chain s e (λ a b. carve_by k all a b) (λ a b ab sa be. carve_by_chain k all a b solid ab (omega arith)) all s e some (le_refl s) (le_refl e) solid

pub carve_chain : (all : List Interval) (s e : ℕ) → Solid all → s < e → Chain s e (carve all s e)
unfolding carve
carve_chain all s e solid some = carve_by_chain (e - s) all s e solid some (omega arith)

-- ── Depth enough is depth enough: carve's own equation ──

-- the left carver is asked only for a piece that ends where a reservation starts, inside the area
module _ (all : List Interval) (s₀ e₀ : ℕ) (left left' : ℕ → ℕ → List Interval)
    (same : (r : Interval) (a : ℕ) → Memᴰ r all → a < r.lo → s₀ ≤ a → r.lo < e₀ → left a r.lo ≡ left' a r.lo) where
  after_same : (r : Interval) (s e : ℕ) → Memᴰ r all → r.lo < r.hi → s < e → s₀ ≤ s → e ≤ e₀ → (go go' : ℕ → ℕ → List Interval) → ((a b : ℕ) → a < b → s₀ ≤ a → b ≤ e₀ → go a b ≡ go' a b) → (c : Cut) → CutOf r s e c → after left go c ≡ after left' go' c
  after_same r s e m solid some lo hi go go' ok c (is_gone p q) = refl
  after_same r s e m solid some lo hi go go' ok c (is_before p) = ok s e some lo hi
  after_same r s e m solid some lo hi go go' ok c (is_after p) = ok s e some lo hi
  after_same r s e m solid some lo hi go go' ok c (is_left p q t) = ok s r.lo p lo (omega arith)
  after_same r s e m solid some lo hi go go' ok c (is_right p q t) = ok r.hi e t (omega arith) hi
  after_same r s e m solid some lo hi go go' ok c (is_split p q) =
      ap₂ (λ (l m : List Interval). l ++ m) (same r s m p lo (omega arith)) (ok r.hi e q (omega arith) hi)

  walk_same : (rs : List Interval) (s e : ℕ) → ((r : Interval) → Memᴰ r rs → Memᴰ r all) → s < e → s₀ ≤ s → e ≤ e₀ → Solid rs → walk left rs s e ≡ walk left' rs s e
  unfolding walk
  walk_same [] s e sub some lo hi solid = refl
  walk_same (r ∷ rs) s e sub some lo hi solid =
      after_same r s e (sub r (Memᴰ.head refl)) solid.0 some lo hi (λ a b. walk left rs a b) (λ a b. walk left' rs a b)
      (λ a b ab al bh. walk_same rs a b (λ q m. sub q (Memᴰ.tail m)) ab al bh solid.1) (cut_by r (interval s e)) (cut_of r s e solid.0 some)

-- what may bound the depth: where it is none there is no area, and it falls with each piece on the left
record Bounds (all : List Interval) (D : ℕ → ℕ → ℕ → Type 0) : Type 0 where
  some : (s e : ℕ) → s < e → D zero s e → ⊥
  less : (k s e a : ℕ) (r : Interval) → Memᴰ r all → s ≤ a → a < r.lo → r.lo < e → D (suc k) s e → D k a r.lo

carve_by_same : (all : List Interval) (D E : ℕ → ℕ → ℕ → Type 0) → Bounds all D → Bounds all E → Solid all → (k j s e : ℕ) → s < e → D k s e → E j s e → carve_by k all s e ≡ carve_by j all s e
unfolding carve_by
carve_by_same all D E b c solid zero j s e some deep deep' = absurd (b.some s e some deep)
carve_by_same all D E b c solid (suc k) zero s e some deep deep' = absurd (c.some s e some deep')
carve_by_same all D E b c solid (suc k) (suc j) s e some deep deep' =
    walk_same all s e (λ a b. carve_by k all a b) (λ a b. carve_by j all a b)
    (λ r a m ab sa be. carve_by_same all D E b c solid k j a r.lo ab (b.less k s e a r m sa ab be deep) (c.less j s e a r m sa ab be deep'))
    all s e (λ r m. m) some (le_refl s) (le_refl e) solid

-- an area's size is depth enough
abbrev Sized : ℕ → ℕ → ℕ → Type 0
Sized k s e = e ≤ s + k

by_size : (all : List Interval) → Bounds all Sized
by_size all = record { some = λ s e h d. omega arith; less = λ k s e a r m sa ab be d. omega arith }

-- carve at any depth that is enough
carve_by_lem : (k : ℕ) (all : List Interval) (s e : ℕ) → Solid all → s < e → e ≤ s + k → carve all s e ≡ carve_by k all s e
unfolding carve
carve_by_lem k all s e solid some deep = carve_by_same all Sized Sized (by_size all) (by_size all) solid (e - s) k s e some (omega arith) deep

carve_by_suc : (k : ℕ) (all : List Interval) (s e : ℕ) → carve_by (suc k) all s e ≡ walk (λ a b. carve_by k all a b) all s e
unfolding carve_by
carve_by_suc k all s e = refl

-- what add_memory does: walk the whole list, and carve each piece on the left against the whole list
pub carve_eq : (all : List Interval) (s e : ℕ) → Solid all → s < e → carve all s e ≡ walk (λ a b. carve all a b) all s e
carve_eq all s e solid some =
    carve_by_lem (suc e) all s e solid some (omega arith) ∙ carve_by_suc e all s e
    ∙ walk_same all s e (λ a b. carve_by e all a b) (λ a b. carve all a b) (λ r a m ab sa be. sym (carve_by_lem e all a r.lo solid ab (omega arith))) all s e (λ r m. m) some (le_refl s) (le_refl e) solid

-- ── So is the number of reservations: each piece on the left has one fewer that starts inside ──
abbrev Started : List Interval → ℕ → ℕ → ℕ → Type 0
Started all k s e = starting all s e < k

by_starts : (all : List Interval) → Bounds all (Started all)
by_starts all = record { some = λ s e h d. omega arith; less = λ k s e a r m sa ab be d. omega (arith, starting_less all s e a r m sa ab be) }

-- carving that may call itself as deep as there are reservations, and no deeper, gives all the pieces
pub depth_enough : (all : List Interval) (s e : ℕ) → Solid all → s < e → carve_by (suc (length all)) all s e ≡ carve all s e
unfolding carve
depth_enough all s e solid some =
    carve_by_same all (Started all) Sized (by_starts all) (by_size all) solid (suc (length all)) (e - s) s e some (omega (arith, starting_most all s e)) (omega arith)

-- and the calls nest no deeper
module _ (all : List Interval) (s₀ e₀ : ℕ) (left : ℕ → ℕ → Type 0) (ok : (r : Interval) (a : ℕ) → Memᴰ r all → a < r.lo → s₀ ≤ a → r.lo < e₀ → left a r.lo) where
  after_nests_lem : (r : Interval) (s e : ℕ) → Memᴰ r all → r.lo < r.hi → s < e → s₀ ≤ s → e ≤ e₀ → (go : ℕ → ℕ → Type 0) → ((a b : ℕ) → a < b → s₀ ≤ a → b ≤ e₀ → go a b) → (c : Cut) → CutOf r s e c → after_nests left go c
  after_nests_lem r s e m solid some lo hi go more c (is_gone p q) = tt
  after_nests_lem r s e m solid some lo hi go more c (is_before p) = more s e some lo hi
  after_nests_lem r s e m solid some lo hi go more c (is_after p) = more s e some lo hi
  after_nests_lem r s e m solid some lo hi go more c (is_left p q t) = more s r.lo p lo (omega arith)
  after_nests_lem r s e m solid some lo hi go more c (is_right p q t) = more r.hi e t (omega arith) hi
  after_nests_lem r s e m solid some lo hi go more c (is_split p q) = (ok r s m p lo (omega arith), more r.hi e q (omega arith) hi)

  walk_nests_lem : (rs : List Interval) (s e : ℕ) → ((r : Interval) → Memᴰ r rs → Memᴰ r all) → s < e → s₀ ≤ s → e ≤ e₀ → Solid rs → walk_nests left rs s e
  unfolding walk_nests
  walk_nests_lem [] s e sub some lo hi solid = tt
  walk_nests_lem (r ∷ rs) s e sub some lo hi solid =
      after_nests_lem r s e (sub r (Memᴰ.head refl)) solid.0 some lo hi (λ a b. walk_nests left rs a b)
      (λ a b ab al bh. walk_nests_lem rs a b (λ q m. sub q (Memᴰ.tail m)) ab al bh solid.1) (cut_by r (interval s e)) (cut_of r s e solid.0 some)

nests : (all : List Interval) (D : ℕ → ℕ → ℕ → Type 0) → Bounds all D → Solid all → (k s e : ℕ) → s < e → D k s e → Nests k all s e
unfolding Nests
nests all D b solid zero s e some deep = b.some s e some deep
nests all D b solid (suc k) s e some deep =
    walk_nests_lem all s e (λ a b. Nests k all a b)
    (λ r a m ab sa be. nests all D b solid k a r.lo ab (b.less k s e a r m sa ab be deep)) all s e (λ r m. m) some (le_refl s) (le_refl e) solid

-- so the stack never holds more frames of `add_memory` than there are entries that are not Free, and one. A map holds 512 entries, and where
-- there is an area to carve one of them is Free: 512 frames
pub depth_most : (all : List Interval) (s e : ℕ) → Solid all → s < e → Nests (suc (length all)) all s e
depth_most all s e solid some = nests all (Started all) (by_starts all) solid (suc (length all)) s e some (omega (arith, starting_most all s e))
