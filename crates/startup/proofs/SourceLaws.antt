-- The sources in their order, as the code goes through them: each way out gives what the run of all registrations, judged in the order of
-- document 01's numbers, gives. Assumes nothing.
use Rattle.std.specs.Prelude.{Result, Ok, Err}
use mathlib.Core.Path.{◌≡◌, refl, ap, sym, ◌∙◌}
use mathlib.Core.Bool.{Bool, true, false}
use mathlib.Core.List.{List, ◌++◌}
use Prim.Native.Nat.{ℕ}
use native.Mathlib.Omega.{arith}
use Rattle.words.proofs.BytesLaws.{never}
use Rattle.page.specs.Round.{Page}
use Rattle.memory.specs.declared.MemoryMap.{MemoryMap}
use Rattle.memory.specs.declared.MapRefusal.{MapRefusal}
use Rattle.memory.specs.declared.MapRefusal.TheVariants as map
use Rattle.memory.specs.declared.Registered.{Registered}
use Rattle.memory.specs.Map.{blank, answer_number}
use Rattle.memory.specs.Made.{Made}
use Rattle.memory.specs.Run.{is_done, registered_all, settled}
use Rattle.memory.proofs.MapLaws.{blank_made}
use Rattle.memory.proofs.RunLaws.{all_made, settled_done, settled_refused}
use Rattle.bootloader.specs.List.{all_known, claims, listed}
use Rattle.bootloader.proofs.ListLaws.{listed_made}
use Rattle.runs.proofs.Runs.{done_or, run_append}
use Rattle.dtb.specs.declared.TreeRegistered.{TreeRegistered}
use Rattle.dtb.specs.Call.{tree_registered}
use Rattle.dtb.proofs.CallLaws.{tree_made}
use Rattle.order.specs.declared.Order.{Order}
use Rattle.startup.specs.declared.Refusal.{Refusal}
use Rattle.startup.specs.declared.Refusal.TheVariants.{UnknownKind, MapFull}
use Rattle.startup.specs.Sources.{list_in, tree_in, tree_claims, pair_claims, registrations}
use Rattle.startup.specs.Verdict.{list_verdict, tree_verdict, map_verdict, run_of, verdict_of, sources, rejection, judged_sources, sources_of, tree_fault, ended_sources}
use Rattle.startup.proofs.ListLaws.{run_refused, list_unknown, list_known, list_runs, list_refused}
use Rattle.startup.proofs.TreeLaws.{TreeWay, faulty, full, taken, tree_way}

-- ── How a run ends ──
pub ended_done : (r : Registered) → is_done r.answer ≡ true → sources r.map (Ok tt) ≡ ended_sources r
unfolding ended_sources map_verdict
ended_done r e = rw e

pub ended_refused : (r : Registered) → is_done r.answer ≡ false → rejection MapFull ≡ ended_sources r
unfolding ended_sources map_verdict
ended_refused r e = rw e

-- what a refused source had registered does not matter: it is the empty map that is handed back
pub ended_settled : (m : MemoryMap) (r : Registered) → ended_sources (settled m r) ≡ ended_sources r
unfolding ended_sources map_verdict
ended_settled m r = by (is_done r.answer) refl
  where
    by : (done : Bool) → is_done r.answer ≡ done → ended_sources (settled m r) ≡ ended_sources r
    by true e = rw (settled_done m r e)
    by false e = rw (settled_refused m r e, e)

-- ── The list's answer a by its number n: 1 is an unknown kind, and nothing else is ──
module _ (a : Result Unit MapRefusal) {n : ℕ} (is : n ≡ answer_number a) where
  pub is_unknown : n ≡ 1 → a ≡ Err map.UnknownKind
  is_unknown one = go a (sym is ∙ one)
    where
      go : (b : Result Unit MapRefusal) → answer_number b ≡ 1 → b ≡ Err map.UnknownKind
      go (Ok _) z = never z
      go (Err map.UnknownKind) z = refl
      go (Err map.MapFull) z = let clash : ⊥ = omega arith in absurd clash

  pub not_unknown : (n ≡ 1 → ⊥) → a ≡ Err map.UnknownKind → ⊥
  not_unknown other e = other (is ∙ ap answer_number e)

module _ (p : ℕ) (s : List ℕ) (o : Order) where
  -- ── What is checked first decides ──
  by_list : all_known (list_in s o) ≡ false → rejection UnknownKind ≡ sources_of p s o
  unfolding sources_of verdict_of list_verdict
  by_list k = rw k

  module _ (k : all_known (list_in s o) ≡ true) where
    by_tree : (f : Refusal) → tree_verdict (tree_in s o) o.arm ≡ Err f → rejection f ≡ sources_of p s o
    unfolding sources_of verdict_of list_verdict
    by_tree f e = rw (k, e)

    by_run : tree_verdict (tree_in s o) o.arm ≡ Ok tt → ended_sources (run_of p s o) ≡ sources_of p s o
    unfolding sources_of verdict_of list_verdict ended_sources
    by_run e = rw (k, e)

    by_full : tree_verdict (tree_in s o) o.arm ≡ Ok tt → is_done (run_of p s o).answer ≡ false → rejection MapFull ≡ sources_of p s o
    by_full e n = ended_refused (run_of p s o) n ∙ by_run e

  -- ── The run of all registrations ──
  abbrev list_run : Registered
  list_run = registered_all p blank (claims (list_in s o))

  abbrev tree_run : Registered
  tree_run = registered_all p list_run.map (tree_claims (tree_in s o) o.arm)

  list_stops : is_done list_run.answer ≡ false → is_done (run_of p s o).answer ≡ false
  unfolding registrations
  list_stops e = rw (run_refused p blank (claims (list_in s o)) (tree_claims (tree_in s o) o.arm ++ pair_claims o) e) e

  module _ (d : list_run.answer ≡ Ok tt) where
    list_on : run_of p s o ≡ registered_all p list_run.map (tree_claims (tree_in s o) o.arm ++ pair_claims o)
    unfolding registrations
    list_on = run_append p blank (claims (list_in s o)) (tree_claims (tree_in s o) o.arm ++ pair_claims o) d

    tree_stops : is_done tree_run.answer ≡ false → is_done (run_of p s o).answer ≡ false
    tree_stops e = rw (list_on, run_refused p list_run.map (tree_claims (tree_in s o) o.arm) (pair_claims o) e) e

    tree_on : tree_run.answer ≡ Ok tt → run_of p s o ≡ registered_all p tree_run.map (pair_claims o)
    tree_on e = list_on ∙ run_append p list_run.map (tree_claims (tree_in s o) o.arm) (pair_claims o) e

  -- ── The calls: m is the empty map, l and t are the list and the tree, x is what the list's call gave, and y what the tree's gave ──
  module _ (m : MemoryMap) (l t : List ℕ) (x : Registered) (em : m ≡ blank) (el : l ≡ list_in s o) (et : t ≡ tree_in s o) (ex : x ≡ listed p m l) where
    is : x ≡ listed p blank (list_in s o)
    is = rw (← em, ← el) ex

    pub unknown_sources : x.answer ≡ Err map.UnknownKind → rejection UnknownKind ≡ sources_of p s o
    unknown_sources e = by_list (list_unknown p blank (list_in s o) x is e)

    module _ (known : x.answer ≡ Err map.UnknownKind → ⊥) (y : TreeRegistered) (ey : y ≡ tree_registered p x.map t o.arm) where
      treed : y ≡ tree_registered p x.map (tree_in s o) o.arm
      treed = rw (← et) ey

      is_known_lem : all_known (list_in s o) ≡ true
      is_known_lem = list_known p blank (list_in s o) x is known

      abbrev ran : Registered
      ran = registered_all p x.map (tree_claims (tree_in s o) o.arm)

      goes : TreeWay (tree_verdict (tree_in s o) o.arm) ran y
      goes = rw treed (tree_way p x.map (tree_in s o) o.arm)

      -- a list that overflowed
      over : is_done x.answer ≡ false → is_done (run_of p s o).answer ≡ false
      over e = list_stops (list_refused p blank (list_in s o) x is is_known_lem e)

      -- a tree that overflows, whether the list did or not
      tree_over : is_done ran.answer ≡ false → is_done (run_of p s o).answer ≡ false
      tree_over e =
          done_or x.answer _
          (λ d.
          let r : x ≡ list_run = list_runs p blank (list_in s o) x is d in
          tree_stops (ap (λ (q : Registered). q.answer) (sym r) ∙ d) (rw r at e))
          (λ n q. over q)

      pub faulty_sources : (f : Refusal) → tree_fault y.answer ≡ Err f → rejection f ≡ sources_of p s o
      faulty_sources f e = go goes
        where
          go : TreeWay (tree_verdict (tree_in s o) o.arm) ran y → rejection f ≡ sources_of p s o
          go (faulty g v i) = by_tree is_known_lem f (v ∙ sym i ∙ e)
          go (full v i n) = let same : f ≡ MapFull = cc in rw same (by_full is_known_lem v (tree_over n))
          go (taken v i d w) = never (cc)

      module _ (fine : tree_fault y.answer ≡ Ok tt) where
        pub full_sources : is_done x.answer ≡ false → rejection MapFull ≡ sources_of p s o
        full_sources n = go goes
          where
            go : TreeWay (tree_verdict (tree_in s o) o.arm) ran y → rejection MapFull ≡ sources_of p s o
            go (faulty g v i) = never (cc)
            go (full v i q) = never (cc)
            go (taken v i d w) = by_full is_known_lem v (over n)

        pub all_sources : x.answer ≡ Ok tt → ended_sources (registered_all p y.map (pair_claims o)) ≡ sources_of p s o
        all_sources d = go goes
          where
            r : x ≡ list_run
            r = list_runs p blank (list_in s o) x is d

            go : TreeWay (tree_verdict (tree_in s o) o.arm) ran y → ended_sources (registered_all p y.map (pair_claims o)) ≡ sources_of p s o
            go (faulty g v i) = never (cc)
            go (full v i q) = never (cc)
            go (taken v i a w) =
                let all : run_of p s o ≡ registered_all p y.map (pair_claims o) =
                tree_on (ap (λ (q : Registered). q.answer) (sym r) ∙ d) (rw r at a) ∙ rw (w, r) refl in
                rw (← all) (by_run is_known_lem v)

-- ── Each of them makes a map again ──
module _ (p : ℕ) (g : Page p) where
  pub list_made : (m : MemoryMap) (l : List ℕ) (x : Registered) → m ≡ blank → x ≡ listed p m l → Made p x.map
  list_made m l x em ex = rw (ex, em) (listed_made p blank l g (blank_made p))

  pub treed_made : (m : MemoryMap) (t : List ℕ) (arm : Bool) (y : TreeRegistered) → Made p m → y ≡ tree_registered p m t arm → Made p y.map
  treed_made m t arm y h ey = rw ey (tree_made p m t arm g h)

  pub run_made : (s : List ℕ) (o : Order) → Made p (run_of p s o).map
  run_made s o = all_made p blank (registrations s o) g (blank_made p)

  -- and so does the whole: the map of the run, or the empty one beside a refusal
  pub sources_made : (s : List ℕ) (o : Order) → Made p (sources_of p s o).map
  unfolding sources_of
  sources_made s o = go (verdict_of p s o)
    where
      go : (v : Result Unit Refusal) → Made p (judged_sources (run_of p s o).map v).map
      go (Ok tt) = run_made s o
      go (Err r) = blank_made p
