-- Finding a child by a step of a path, a child at a time. Assumes nothing.
use mathlib.Core.Path.{◌≡◌, refl, sym, ◌∙◌, ap}
use Prim.Native.Nat.{ℕ, zero, suc, ◌+◌, ◌-◌, ◌<◌}
use native.Mathlib.Omega.{arith}
use mathlib.Core.List.{List, [], ◌∷◌}
use mathlib.Core.Bool.{Bool, true, false, cond}
use lib.ListN.{length}
use Rattle.std.specs.Prelude.{Option, Some, None}
use Rattle.words.specs.Bytes.{bytes, part_of}
use Rattle.words.proofs.BytesLaws.{part_cut}
use Rattle.fdt.specs.Tree.{Tok, begin, ended, prop, fin, bad, lex_at}
use Rattle.nodes.specs.declared.Kid.TheVariants.{Stuck}
use Rattle.nodes.specs.Nav.{matches, first_kid, drop_p, skip_t, find_t, KidIs, NodeIs, EndIs, SkipsTo, ChildIs}

find_drop : (step : List ℕ) (ts : List Tok) (d : ℕ) → find_t step (drop_p ts) d ≡ find_t step ts d
unfolding drop_p find_t
find_drop step [] d = refl
find_drop step (begin q nm ∷ ts) d = refl
find_drop step (ended ∷ ts) d = refl
find_drop step (prop q ∷ ts) d = find_drop step ts d
find_drop step (fin ∷ ts) d = refl
find_drop step (bad ∷ ts) d = refl

find_skip : (step : List ℕ) (ts : List Tok) (d : ℕ) → find_t step ts (suc d) ≡ find_t step (skip_t ts (suc d)) 0
unfolding find_t
find_skip step [] d = refl
find_skip step (begin q nm ∷ ts) d = find_skip step ts (suc d)
find_skip step (ended ∷ ts) zero = refl
find_skip step (ended ∷ ts) (suc d) = find_skip step ts d
find_skip step (prop q ∷ ts) d = find_skip step ts d
find_skip step (fin ∷ ts) d = refl
find_skip step (bad ∷ ts) d = refl

-- past a child's end the end of the block is nearer
pub nearer : {b n : List ℕ} {p q l r s : ℕ} → NodeIs b n p q l r → SkipsTo b n r s → length b - s < length b - p
nearer k j = omega arith

module _ (b n : List ℕ) (p : ℕ) (step : List ℕ) where
  -- from what stands past the properties
  find_past : {ts : List Tok} → drop_p (lex_at b n p) ≡ ts → find_t step (lex_at b n p) 0 ≡ find_t step ts 0
  find_past e = sym (find_drop step (lex_at b n p) 0) ∙ ap (λ (x : List Tok). find_t step x 0) e

  -- a child, whose name is x
  module _ (q l r : ℕ) (k : NodeIs b n p q l r) (x : List ℕ) (ex : x ≡ part_of b (q + 4) l) where
    name_is : x ≡ bytes b (q + 4) (q + 4 + l)
    name_is = ex ∙ part_cut b (q + 4) l (omega arith)

    pub find_here : matches x step ≡ true → find_t step (lex_at b n p) 0 ≡ begin q (bytes b (q + 4) (q + 4 + l)) ∷ lex_at b n r
    unfolding find_t
    find_here h = find_past k.is ∙ rw (rw name_is at h)

    pub find_next : (s : ℕ) → matches x step ≡ false → SkipsTo b n r s → find_t step (lex_at b n p) 0 ≡ find_t step (lex_at b n s) 0
    unfolding find_t
    find_next s h j =
        find_past k.is ∙ rw (rw name_is at h)
        (find_skip step (lex_at b n r) 0 ∙ ap (λ (y : List Tok). find_t step y 0) (sym j.is))

  stuck_none : (e : Bool) → find_t step (cond e fin bad ∷ []) 0 ≡ []
  unfolding find_t
  stuck_none true = refl
  stuck_none false = refl

  -- no child
  pub find_end : (r : ℕ) → EndIs b n p r → find_t step (lex_at b n p) 0 ≡ []
  unfolding find_t
  find_end r k = find_past k.is

  pub find_stuck : KidIs b n p Stuck → find_t step (lex_at b n p) 0 ≡ []
  find_stuck k = find_past k.1 ∙ stuck_none k.0

-- the child, as an answer
pub child_found : (b n : List ℕ) (p : ℕ) (step : List ℕ) (k : Option ℕ) → ChildIs b n p step k → k ≡ first_kid (find_t step (lex_at b n p) 0)
child_found b n p step (Some q) i = sym (ap first_kid i.2)
child_found b n p step None i = sym (ap first_kid i)
