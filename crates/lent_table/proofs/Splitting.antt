-- `split_at`: one area becomes two, and those after it stand one slot on. Assumes nothing.
use mathlib.Core.Path.{◌≡◌, ap₂, sym, ◌∙◌}
use mathlib.Core.List.{List, [], ◌∷◌, ◌++◌, append_assoc}
use Prim.Native.Nat.{ℕ, ◌+◌, ◌-◌, ◌≤◌}
use native.Mathlib.Omega.{arith}
use lib.ListN.{length, get_or, set, length-append}
use Rattle.areas.specs.declared.Interval.{Interval}
use Rattle.areas.specs.Table.{flat}
use Rattle.areas.proofs.Writing.{flat_length}
use Rattle.lent_table.specs.Steps.{Inserted, Parted}
use Rattle.lent_table.proofs.SlotLaws.{double, base_is, size_is, set_size}

pub parted : (l l' : List ℕ) (i n : ℕ) (c : Interval) → get_or l (i + i) 0 ≤ c.hi
    → Inserted (set l (i + i + 1) (c.lo - get_or l (i + i) 0)) (i + 1) n c.hi (get_or l (i + i + 1) 0 - (c.hi - get_or l (i + i) 0)) l' → Parted l i n c l'
unfolding Parted Inserted flat
parted l l' i n c h inserted pre r more y z post lp ln e =
    let b : get_or l (i + i) 0 ≡ r.lo = base_is l i pre r more (y ∷ z ∷ post) lp e in
    let w : get_or l (i + i + 1) 0 ≡ r.hi - r.lo = size_is l i pre r more (y ∷ z ∷ post) lp e in
    let u = c.lo - get_or l (i + i) 0 in
    let v = get_or l (i + i + 1) 0 - (c.hi - get_or l (i + i) 0) in
    let u= : u ≡ c.lo - r.lo = omega arith in
    let v= : v ≡ r.hi - c.hi = omega arith in
    let a : List ℕ = flat pre ++ (r.lo ∷ u ∷ []) in
    let la : length a ≡ (i + 1) + (i + 1) = omega (arith, length-append (flat pre) (r.lo ∷ u ∷ []), double pre i lp) in
    inserted a (flat more) post y z la (omega (arith, flat_length more))
    (set_size l i pre r more (y ∷ z ∷ post) lp e u ∙ sym (append_assoc (flat pre) (r.lo ∷ u ∷ []) (flat more ++ (y ∷ z ∷ post))))
    ∙ append_assoc (flat pre) (r.lo ∷ u ∷ []) (c.hi ∷ v ∷ (flat more ++ post))
    ∙ ap₂ (λ (g k : ℕ). flat pre ++ (r.lo ∷ g ∷ c.hi ∷ k ∷ (flat more ++ post))) u= v=
