-- Demand 3 over an order file and the late claims behind it, as the program `late` makes them, up to the first refusal: request L3 of
-- document 02. Assumes nothing.
use Rattle.std.specs.Prelude.{Option, ℕ, Ok, Result, Err}
use mathlib.Core.Path.{◌≡◌, refl, ap, sym, ◌∙◌}
use mathlib.Core.Bool.{Bool, true, false}
use mathlib.Core.List.{List, [], ◌∷◌, ◌++◌, append-nil, append_assoc}
use Prim.Native.Nat.{ℕ, zero, suc, ◌+◌, ◌-◌, ◌≤◌}
use native.Mathlib.Omega.{arith}
use lib.ListN.{take}
use Rattle.page.specs.Round.{Page}
use Rattle.entry.specs.declared.Claim.{Claim}
use Rattle.memory.specs.declared.MemoryMap.{MemoryMap}
use Rattle.demand3.specs.Rule.{map_after, SameClaims, SameLimits}
use Rattle.demand3.specs.Slots.{number_slot, SlotsRight}
use Rattle.sheet.specs.declared.PageSheet.{PageSheet}
use Rattle.order.specs.Layout.{good_order, order_in, order_of}
use Rattle.startup.specs.declared.Refusal.{Refusal}
use Rattle.startup.specs.declared.Refusal.TheVariants.{BadOrder}
use Rattle.startup.specs.declared.Summary.{Summary}
use Rattle.startup.specs.Report.{report_of, slots_after, reported}
use Rattle.startup.specs.Start.{kept_map, file_map, map_left}
use Rattle.late_claim.specs.Late.{After, late_of}
use Rattle.late_run.specs.Run.{Run, run, stopped, late_all}
use Rattle.late_run.proofs.Running.{run_on, run_stops}
use Rattle.late_theorems.specs.Refusals.{late_gives}
use Rattle.late_theorems.specs.Came.{Dealt, sources, late}
use Rattle.late_theorems.proofs.Refusals.{refused_leaves}
use Rattle.late_theorems.proofs.Demand.{late_slots_lem, late_order}
use Rattle.order_theorems.specs.Rows.{file_claims}
use Rattle.order_theorems.proofs.Rows.{done_accepted}
use Rattle.order_theorems.proofs.Demand.{built}

-- ── A run of late claims ──
run_none : (p : ℕ) (m : MemoryMap) (n : ℕ) (l : List ℕ) (i : ℕ) → late_all p m n l i [] ≡ run m n l i (Ok tt)
unfolding late_all
run_none p m n l i = refl

-- the claims that the run r made of those in ds, the first of which has index i, are registrations behind those in cs
record Deals (p : ℕ) (low high : Option ℕ) (cs ds : List Claim) (i : ℕ) (r : Run) : Type 0 where
  index : i ≤ r.index
  dealt : Dealt p low high (cs ++ take (r.index - i) ds) r.map r.count r.table

run_dealt : {p : ℕ} {low high : Option ℕ} {cs : List Claim} {m : MemoryMap} {n : ℕ} {l : List ℕ} → Dealt p low high cs m n l
    → (ds : List Claim) (i : ℕ) (r : Run) → r ≡ late_all p m n l i ds → Deals p low high cs ds i r
run_dealt {p} {low} {high} {cs} {m} {n} {l} h [] i r e =
    let z : i - i ≡ 0 = omega arith in
    rw (e ∙ run_none p m n l i) (record { index = omega arith; dealt = rw (z, append-nil cs) h })
run_dealt {p} {low} {high} {cs} {m} {n} {l} h (d ∷ ds) i r e =
    go (late_gives p m d n l) refl (λ q. run_dealt {cs = cs ++ (d ∷ [])} (late d h q) ds (i + 1) r (e ∙ run_on p m n l i d ds (late_of p m d n l) refl q))
  where
    go : (k : ℕ) → late_gives p m d n l ≡ k → (late_gives p m d n l ≡ 0 → Deals p low high (cs ++ (d ∷ [])) ds (i + 1) r) → Deals p low high cs (d ∷ ds) i r
    go zero q rest =
        let more = rest q in
        let s : r.index - i ≡ suc (r.index - (i + 1)) = omega (arith, more.index) in
        record {
          index = omega (arith, more.index);
          dealt = rw (s, ← append_assoc cs (d ∷ []) (take (r.index - (i + 1)) ds)) more.dealt;
        }
    go (suc k) q rest =
        let f : late_gives p m d n l ≡ 0 → ⊥ = λ w. omega arith in
        let same = refused_leaves p m d n l f in
        let z : i - i ≡ 0 = omega arith in
        rw (e ∙ run_stops p m n l i d ds (late_of p m d n l) refl f ∙ ap (λ (a : After). stopped a i) same)
        (record { index = omega arith; dealt = rw (z, append-nil cs) h })

-- ── Behind an order file ──
module _ (p : ℕ) (g : Page p) (s l : List ℕ) (n : ℕ) (sheet : PageSheet) (done : report_of p s l ≡ reported n sheet) where
  -- the map that the build leaves is that of the file's registrations
  left_map : map_left p s l ≡ map_after p (file_claims s)
  unfolding map_left order_of
  left_map = ap (λ (r : Result Summary Refusal). kept_map r (file_map p s (order_of s))) done ∙ go (good_order s) refl
    where
      go : (t : Bool) → good_order s ≡ t → file_map p s (order_of s) ≡ map_after p (file_claims s)
      go true e = rw e
      go false e =
          let bad : report_of p s l ≡ Err BadOrder = unfold report_of in rw e in
          let z : ◌≡◌ {A = ℕ} 0 1 = cc in absurd (omega arith)

  pub file_dealt : Dealt p (order_in s).low (order_in s).high (file_claims s) (map_left p s l) n (slots_after p s l)
  file_dealt = rw left_map (sources (done_accepted p s l n sheet done) (built p g s l n sheet done))

  module _ (ds : List Claim) (r : Run) (ran : r ≡ late_all p (map_left p s l) n (slots_after p s l) 0 ds) where
    late_dealt : Dealt p (order_in s).low (order_in s).high (file_claims s ++ take r.index ds) r.map r.count r.table
    late_dealt = let z : r.index - 0 ≡ r.index = omega arith in rw (sym z) (run_dealt file_dealt ds 0 r ran).dealt

    -- THEOREM, "demand 3 reads late claims as registrations", of an order file and the late claims that were made: the address rule of the
    -- numbers in the used slots, which are nonempty whole pages, ascend and never touch
    pub late_file_slots : SlotsRight p (order_in s).low (order_in s).high (file_claims s ++ take r.index ds) (number_slot r.table) r.count
    late_file_slots = late_slots_lem g late_dealt

    -- THEOREM, "a build afresh with the claim included": an order file whose sources register the same, the late claims among them, has the
    -- same used slots, in whatever slots it is built
    pub late_file_afresh : (t k : List ℕ) (n' : ℕ) (sheet' : PageSheet) → report_of p t k ≡ reported n' sheet'
        → SameLimits p (order_in s).low (order_in s).high (order_in t).low (order_in t).high
        → SameClaims (file_claims s ++ take r.index ds) (file_claims t)
        → (r.count ≡ n') × (take (r.count + r.count) r.table ≡ take (n' + n') (slots_after p t k))
    late_file_afresh t k n' sheet' afresh limits same =
        late_order g late_dealt (sources (done_accepted p t k n' sheet' afresh) (built p g t k n' sheet' afresh)) limits same
