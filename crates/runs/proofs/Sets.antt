-- Plain sets: after an accepted run, an address is covered by a kind exactly when some registration of that kind covers it. Assumes nothing.
use Rattle.std.specs.Prelude.{Ok}
use mathlib.Core.Path.{◌≡◌, refl, sym, ◌∙◌}
use mathlib.Core.List.Memᴰ
use mathlib.Core.List.{List, [], ◌∷◌}
use mathlib.Core.Logic.{◌↔◌, ◌⊎◌, inl, inr, ⊎_elim}
use Prim.Native.Nat.{ℕ}
use native.Mathlib.Omega.{arith}
use Rattle.page.specs.Round.{Page}
use Rattle.entry.specs.declared.MemoryEntry.{MemoryEntry}
use Rattle.entry.specs.Entry.{union}
use Rattle.entry.specs.Kind.{IsKind}
use Rattle.entry.specs.declared.Claim.{Claim}
use Rattle.entry.proofs.EntryLaws.{union_has}
use Rattle.memory.specs.declared.MemoryMap.{MemoryMap}
use Rattle.memory.specs.declared.Registered.{Registered}
use Rattle.memory.specs.Map.{registered, blank}
use Rattle.memory.specs.Made.{Made}
use Rattle.memory.specs.Run.{registered_all}
use Rattle.memory.proofs.MapLaws.{registered_made, blank_made, Way, no_kind, no_page, new_page, registered_way}
use Rattle.runs.specs.Sets.{Of, Covered, Registers, Some}
use Rattle.runs.proofs.Keeping.{Shared, registered_has}
use Rattle.runs.proofs.Runs.{run_nil, run_on, run_accepted}

union_kind : (a b : MemoryEntry) → (union a b).kind ≡ a.kind
unfolding union
union_kind a b = refl

-- an address under a kind is in the union of two of one kind exactly when it is in one of them
of_shared : (k x : ℕ) → Shared (Of k x)
of_shared k x a b t = (
  λ i. ⊎_elim
      (λ h. inl (record { kind = sym (union_kind a b) ∙ i.kind; has = h }))
      (λ h. inr (record { kind = sym t.kinds ∙ sym (union_kind a b) ∙ i.kind; has = h }))
      ((union_has a b x t.near).0 i.has),
  ⊎_elim
      (λ i. record { kind = union_kind a b ∙ i.kind; has = (union_has a b x t.near).1 (inl i.has) })
      (λ i. record { kind = union_kind a b ∙ t.kinds ∙ i.kind; has = (union_has a b x t.near).1 (inr i.has) }),
)

-- an accepted claim has one of the kinds
accepted_kind : (p : ℕ) (m : MemoryMap) (c : Claim) → (registered p m c).answer ≡ Ok tt → IsKind c.kind
accepted_kind p m c e = go (registered p m c) (registered_way p m c) e
  where
    go : (r : Registered) → Way p m c r → r.answer ≡ Ok tt → IsKind c.kind
    go r (no_kind n) f = absurd (let z : ◌≡◌ {A = ℕ} 0 1 = cc in omega arith)
    go r (no_page i n) f = i
    go r (new_page s) f = s.known

-- "Each accepted registration does what adding its pages to a plain set per kind does."
pub registered_adds : (p : ℕ) (m : MemoryMap) (c : Claim) → Page p → Made p m → (registered p m c).answer ≡ Ok tt → (k x : ℕ)
    → Covered k x (registered p m c).map ↔ (Covered k x m ⊎ Registers p k x c)
registered_adds p m c g made done k x =
    let h = registered_has (Of k x) (of_shared k x) p m c g made done in (
      λ w. ⊎_elim (λ v. inl v) (λ a. inr (record { proper = a.something.proper; sized = a.something.sized; covers = a.inside })) (h.0 w),
      λ w. h.1 (⊎_elim (λ v. inl v)
          (λ r. inr (record {
            something = record {
              known = accepted_kind p m c done;
              proper = r.proper;
              sized = r.sized;
              some = omega (arith, r.covers.has.from, r.covers.has.to);
            };
            inside = r.covers;
          })) w),
    )

-- ── Some of a run ──
some_none : (P : Claim → Type 0) → Some P [] → ⊥
some_none P s = Memᴰ.not-nil s.among

some_first : (P : Claim → Type 0) (c : Claim) (cs : List Claim) → P c → Some P (c ∷ cs)
some_first P c cs i = record { claim = c; among = Memᴰ.head refl; is = i }

some_later : (P : Claim → Type 0) (c : Claim) (cs : List Claim) → Some P cs → Some P (c ∷ cs)
some_later P c cs s = record { claim = s.claim; among = Memᴰ.tail s.among; is = s.is }

some_cases : (P : Claim → Type 0) (c : Claim) (cs : List Claim) → Some P (c ∷ cs) → P c ⊎ Some P cs
some_cases P c cs s =
    ⊎_elim (λ e. inl (rw e at s.is))
    (λ m. inr (record { claim = s.claim; among = m; is = s.is }))
    (Memᴰ.cases_cons s.among)

-- from any made map
pub run_adds : (p : ℕ) (m : MemoryMap) (cs : List Claim) → Page p → Made p m → (registered_all p m cs).answer ≡ Ok tt → (k x : ℕ)
    → Covered k x (registered_all p m cs).map ↔ (Covered k x m ⊎ Some (Registers p k x) cs)
run_adds p m [] g made e k x = rw (run_nil p m) (λ w. inl w, ⊎_elim (λ w. w) (λ s. absurd (some_none _ s)))
run_adds p m (c ∷ cs) g made e k x =
    run_accepted p m c cs _ e
    (λ d r.
    let one = registered_adds p m c g made d k x in
    let more = run_adds p (registered p m c).map cs g (registered_made p m c g made) r k x in
    rw (run_on p m c cs d) (
      λ w. ⊎_elim
          (λ v. ⊎_elim (λ o. inl o) (λ n. inr (some_first _ c cs n)) (one.0 v))
          (λ s. inr (some_later _ c cs s))
          (more.0 w),
      λ w. more.1 (⊎_elim
          (λ o. inl (one.1 (inl o)))
          (λ s. ⊎_elim (λ n. inl (one.1 (inr n))) (λ l. inr l) (some_cases _ c cs s))
          w),
    ))

blank_none : (k x : ℕ) → Covered k x blank → ⊥
unfolding blank
blank_none k x w = omega (arith, w.held)

-- THEOREM 1, plain sets: after any accepted run from the empty map, an address is covered by kind k exactly when
-- some registration of kind k with size not 0, rounded, covers it
pub plain_sets : (p : ℕ) (cs : List Claim) → Page p → (registered_all p blank cs).answer ≡ Ok tt → (k x : ℕ)
    → Covered k x (registered_all p blank cs).map ↔ Some (Registers p k x) cs
plain_sets p cs g e k x =
    let h = run_adds p blank cs g (blank_made p) e k x in
    (λ w. ⊎_elim (λ b. absurd (blank_none k x b)) (λ s. s) (h.0 w), λ s. h.1 (inr s))
