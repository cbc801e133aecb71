-- The areas of a map less a late claim are the areas of the map with the claim registered. For every page size. Assumes nothing.
use Rattle.std.specs.Prelude.{Option, ℕ, Ok}
use mathlib.Core.Path.{◌≡◌, refl, ap, sym, ◌∙◌}
use mathlib.Core.Bool.{cond}
use mathlib.Core.Logic.{◌⊎◌, inl, inr, ⊎_elim, ◌↔◌}
use Prim.Native.Nat.{ℕ}
use Rattle.page.specs.Round.{Page}
use Rattle.entry.specs.declared.BootloaderMemoryKind.TheVariants.{Free}
use Rattle.entry.specs.Kind.{number_of, IsKind}
use Rattle.entry.specs.declared.Claim.{Claim}
use Rattle.entry.specs.Claim.{rounded}
use Rattle.entry.proofs.ClaimLaws.{rounded_kind}
use Rattle.memory.specs.declared.MemoryMap.{MemoryMap}
use Rattle.memory.specs.declared.Registered.{Registered}
use Rattle.memory.specs.Map.{slots_of, at, Something, registered}
use Rattle.memory.specs.Made.{Made}
use Rattle.memory.proofs.MapLaws.{registered_made}
use Rattle.runs.proofs.Sets.{registered_adds}
use Rattle.areas.specs.Interval.{Inside}
use Rattle.areas.specs.Areas.{span, areas_of}
use Rattle.areas.proofs.Normal.{one_list}
use Rattle.areas.proofs.MadeLaws.{LiesFree, LiesBusy, areas_of_ascends, areas_of_listed}
use Rattle.lent_table.specs.Less.{less}
use Rattle.lent_table.proofs.LessLaws.{above_solid, less_listed, less_ascends}
use Rattle.late_claim.specs.Late.{less_claim}
use Rattle.late_theorems.proofs.Taking.{nothing_ways, registers_nothing}

module _ (p : ℕ) (m : MemoryMap) (c : Claim) (g : Page p) (made : Made p m) (done : (registered p m c).answer ≡ Ok tt) (other : c.kind ≡ number_of Free → ⊥) where
  -- the claim adds nothing to the Free entries
  free_stays : (x : ℕ) → LiesFree x (registered p m c).map ↔ LiesFree x m
  free_stays x =
      let h = registered_adds p m c g made done (number_of Free) x in (
        λ w. ⊎_elim
            (λ v. record { slot = v.slot; held = v.held; kind = v.found.kind; has = v.found.has })
            (λ r. absurd (other (sym (rounded_kind p c) ∙ r.covers.kind)))
            (h.0 (record { slot = w.slot; held = w.held; found = record { kind = w.kind; has = w.has } })),
        λ w.
            let v = h.1 (inl (record { slot = w.slot; held = w.held; found = record { kind = w.kind; has = w.has } })) in
            record { slot = v.slot; held = v.held; kind = v.found.kind; has = v.found.has },
      )

  -- and its pages to the others
  busy_gains : Something p c → (x : ℕ) → LiesBusy x (registered p m c).map ↔ (LiesBusy x m ⊎ Inside x (span (rounded p c)))
  busy_gains s x = (
    λ w. ⊎_elim
        (λ v. inl (record { slot = v.slot; held = v.held; kind = λ e. w.kind (sym v.found.kind ∙ e); has = v.found.has }))
        (λ r. inr (r.covers.has.from, r.covers.has.to))
        ((registered_adds p m c g made done (at (slots_of (registered p m c).map) w.slot).kind x).0
        (record { slot = w.slot; held = w.held; found = record { kind = refl; has = w.has } })),
    ⊎_elim
        (λ w.
        let v = (registered_adds p m c g made done (at (slots_of m) w.slot).kind x).1
        (inl (record { slot = w.slot; held = w.held; found = record { kind = refl; has = w.has } })) in
        record { slot = v.slot; held = v.held; kind = λ e. w.kind (sym v.found.kind ∙ e); has = v.found.has })
        (λ (i : Inside x (span (rounded p c))).
        let v = (registered_adds p m c g made done c.kind x).1
        (inr (record { proper = s.proper; sized = s.sized; covers = record { kind = rounded_kind p c; has = record { from = i.0; to = i.1 } } })) in
        record { slot = v.slot; held = v.held; kind = λ e. other (sym v.found.kind ∙ e); has = v.found.has }),
  )

  module _ (low high : Option ℕ) where
    less_afresh : Something p c → less (span (rounded p c)) (areas_of p low high m) ≡ areas_of p low high (registered p m c).map
    less_afresh s =
        let made' = registered_made p m c g made in
        let up = areas_of_ascends made low high in
        one_list _ _ (less_ascends (span (rounded p c)) s.some _ up) (areas_of_ascends made' low high)
        (λ x.
        let l = less_listed (span (rounded p c)) s.some x (areas_of p low high m) (above_solid (areas_of p low high m) 0 up) in
        let old = areas_of_listed made low high x in
        let new = areas_of_listed made' low high x in
        let b = busy_gains s x in (
          λ i. let t = l.0 i in let o = old.0 t.0 in new.1 ((free_stays x).1 o.0, o.1, o.2, λ w. ⊎_elim o.3 t.1 (b.0 w)),
          λ i. let t = new.0 i in l.1 (old.1 ((free_stays x).0 t.0, t.1, t.2, λ w. t.3 (b.1 (inl w))), λ w. t.3 (b.1 (inr w))),
        ))

    -- THEOREM, a build afresh: the areas less an accepted late claim are the areas of the map that has it
    pub claim_afresh : IsKind c.kind → less_claim p c (areas_of p low high m) ≡ areas_of p low high (registered p m c).map
    unfolding less_claim
    claim_afresh known =
        nothing_ways p c (λ t. cond t (areas_of p low high m) (less (span (rounded p c)) (areas_of p low high m)) ≡ areas_of p low high (registered p m c).map)
        (λ n. ap (λ (r : Registered). areas_of p low high r.map) (sym (registers_nothing p m c known n)))
        (λ f. less_afresh (f known))
