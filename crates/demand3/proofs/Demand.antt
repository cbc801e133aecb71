-- Demand 3: the address rule, the shape of the areas, and that no order of the registrations matters. For every page size. Assumes nothing.
use Rattle.areas.specs.declared.AreasRefusal.{AreasRefusal}
use Rattle.std.specs.Prelude.{Option, Some as At, None, ℕ, Result}
use mathlib.Core.Path.{◌≡◌, refl, ap, sym, ◌∙◌}
use mathlib.Core.List.{List}
use mathlib.Core.Logic.{◌↔◌}
use Prim.Native.Nat.{ℕ, ◌+◌, ◌-◌, ◌^◌, ◌≤◌, ◌<◌}
use native.Mathlib.Omega.{arith}
use Rattle.page.specs.Round.{top, down, up, Page}
use Rattle.page.proofs.Laws.{down_le, down_aligned, down_greatest, page_gap, top_aligned}
use Rattle.entry.specs.declared.MemoryEntry.{MemoryEntry}
use Rattle.entry.specs.declared.BootloaderMemoryKind.TheVariants.{Free}
use Rattle.entry.specs.Kind.{number_of}
use Rattle.entry.specs.Entry.{entry}
use Rattle.entry.specs.declared.Claim.{Claim}
use Rattle.entry.proofs.ClaimLaws.{rounded_kind, free_inward, other_outward}
use Rattle.memory.specs.declared.MemoryMap.{MemoryMap}
use Rattle.memory.specs.Map.{slots_of, at, blank}
use Rattle.memory.specs.Made.{Made}
use Rattle.memory.proofs.MapLaws.{blank_made}
use Rattle.memory.proofs.RunLaws.{all_made}
use Rattle.listing.specs.Listing.{held}
use Rattle.runs.specs.Sets.{Registers, Some}
use Rattle.runs.proofs.Sets.{plain_sets}
use Rattle.areas.specs.declared.Interval.{Interval}
use Rattle.areas.specs.Interval.{Listed}
use Rattle.areas.specs.Shape.{Shape}
use Rattle.areas.specs.Areas.{or_else, limit_of, areas_in, areas_of}
use Rattle.areas.specs.Table.{Form, answer_for, lent_after, BuildsIn, numbers, Builds}
use Rattle.areas.proofs.Normal.{one_list}
use Rattle.areas.proofs.MadeLaws.{LiesFree, LiesBusy, areas_of_listed, areas_of_shape}
use Rattle.lent_areas.specs.declared.MemoryArea.{MemoryArea}
use Rattle.lent_areas.specs.Row.{records, BuildsRow}
use Rattle.demand3.specs.Rule.{Accepted, map_after, areas_after, FreeOver, OtherOver, Rule, SameClaims, SameLimits}
use Rattle.demand3.proofs.Refusal.{in_numbers, in_records}

-- every run makes a map
pub after_made : (p : ℕ) (cs : List Claim) → Page p → Made p (map_after p cs)
after_made p cs g = all_made p blank cs g (blank_made p)

-- ── What is registered, as the rule says it ──
module _ (p x : ℕ) (c : Claim) where
  free_over_lem : Registers p (number_of Free) x c ↔ FreeOver p x c
  free_over_lem = (
    λ r.
        let k : c.kind ≡ number_of Free = sym (rounded_kind p c) ∙ r.covers.kind in
        record { kind = k; sized = r.sized; covers = rw (free_inward p c k) at r.covers.has },
    λ f. record {
      proper = λ e. omega (arith, e, f.kind);
      sized = f.sized;
      covers = record { kind = rounded_kind p c ∙ f.kind; has = rw (free_inward p c f.kind) f.covers };
    },
  )

  other_over_lem : OtherOver p x c → Registers p c.kind x c
  other_over_lem o =
      record {
        proper = o.proper;
        sized = o.sized;
        covers = record { kind = rounded_kind p c; has = rw (other_outward p c o.kind) o.covers };
      }

  over_other : (k : ℕ) → (k ≡ number_of Free → ⊥) → Registers p k x c → OtherOver p x c
  over_other k n r =
      let own : c.kind ≡ k = sym (rounded_kind p c) ∙ r.covers.kind in
      let other : c.kind ≡ number_of Free → ⊥ = λ e. n (sym own ∙ e) in
      record { kind = other; proper = r.proper; sized = r.sized; covers = rw (other_outward p c other) at r.covers.has }

some_map : (P Q : Claim → Type 0) (cs : List Claim) → ((c : Claim) → P c → Q c) → Some P cs → Some Q cs
some_map P Q cs f s = record { claim = s.claim; among = s.among; is = f s.claim s.is }

module _ (p : ℕ) (cs : List Claim) (g : Page p) (done : Accepted p cs) (x : ℕ) where
  -- an address lies in a Free entry exactly when a Free registration, rounded inward by itself, is over it
  pub free_lies_over : LiesFree x (map_after p cs) ↔ Some (FreeOver p x) cs
  free_lies_over =
      let h = plain_sets p cs g done (number_of Free) x in (
        λ l. some_map _ _ cs (λ c r. (free_over_lem p x c).0 r) (h.0 (record { slot = l.slot; held = l.held; found = record { kind = l.kind; has = l.has } })),
        λ s. let w = h.1 (some_map _ _ cs (λ c f. (free_over_lem p x c).1 f) s) in
            record { slot = w.slot; held = w.held; kind = w.found.kind; has = w.found.has },
      )

  -- and in another entry exactly when a registration of another kind, rounded outward, is
  busy_lies_over : LiesBusy x (map_after p cs) ↔ Some (OtherOver p x) cs
  busy_lies_over = (
    λ l.
        let k = (at (slots_of (map_after p cs)) l.slot).kind in
        some_map _ _ cs (λ c r. over_other p x c k l.kind r)
        ((plain_sets p cs g done k x).0 (record { slot = l.slot; held = l.held; found = record { kind = refl; has = l.has } })),
    λ s.
        let c = s.claim in
        let w = (plain_sets p cs g done c.kind x).1 (record { claim = c; among = s.among; is = other_over_lem p x c s.is }) in
        record { slot = w.slot; held = w.held; kind = λ e. s.is.kind (sym w.found.kind ∙ e); has = w.found.has },
  )

-- THEOREM 2, the address rule of demand 3
pub address_rule : (p : ℕ) (low high : Option ℕ) (cs : List Claim) → Page p → Accepted p cs → (x : ℕ)
    → Listed x (areas_after p low high cs) ↔ Rule p low high cs x
unfolding limit_of
address_rule p low high cs g done x =
    let r = areas_of_listed (after_made p cs g) low high x in
    let f = free_lies_over p cs g done x in
    let b = busy_lies_over p cs g done x in (
      λ i. let t = r.0 i in record { from = t.1; to = t.2; free = f.0 t.0; others = λ o. t.3 (b.1 o) },
      λ q. r.1 (f.1 q.free, q.from, q.to, λ o. q.others (b.0 o)),
    )

-- THEOREM 3, the shape of the areas: they ascend, are nonempty whole pages, never touch, and end at T at most
pub areas_shape : (p : ℕ) (low high : Option ℕ) (cs : List Claim) → Page p → Shape p (areas_after p low high cs)
areas_shape p low high cs g = areas_of_shape (after_made p cs g) low high g

-- ── Any order ──
some_same : (P : Claim → Type 0) (cs ds : List Claim) → SameClaims cs ds → Some P cs → Some P ds
some_same P cs ds e s = record { claim = s.claim; among = (e s.claim).0 s.among; is = s.is }

rule_same : (p : ℕ) (low high : Option ℕ) (cs ds : List Claim) (x : ℕ) → SameClaims cs ds → Rule p low high cs x → Rule p low high ds x
rule_same p low high cs ds x e r =
    record {
      from = r.from;
      to = r.to;
      free = some_same _ cs ds e r.free;
      others = λ s. r.others (some_same _ ds cs (λ c. ((e c).1, (e c).0)) s);
    }

same_order : (p : ℕ) (low high : Option ℕ) (cs ds : List Claim) → Page p → Accepted p cs → Accepted p ds → SameClaims cs ds
    → areas_after p low high cs ≡ areas_after p low high ds
same_order p low high cs ds g a b e =
    one_list _ _ (areas_shape p low high cs g).ascend (areas_shape p low high ds g).ascend
    (λ x.
    let r = address_rule p low high cs g a x in
    let q = address_rule p low high ds g b x in (
      λ i. q.1 (rule_same p low high cs ds x e (r.0 i)),
      λ i. r.1 (rule_same p low high ds cs x (λ c. ((e c).1, (e c).0)) (q.0 i)),
    ))

-- ── Limits count only as they are rounded ──
top_under : (p : ℕ) → Page p → top p + p ≡ 2 ^ 64
unfolding top
top_under p g = omega (arith, g.small)

same_limits : (p : ℕ) (low high low' high' : Option ℕ) (m : MemoryMap) → SameLimits p low high low' high' → areas_of p low high m ≡ areas_of p low' high' m
unfolding areas_of
same_limits p low high low' high' m e = ap (λ (limits : MemoryEntry). areas_in limits (held m)) e

-- a missing low is a low of 0
pub missing_low : (p : ℕ) (high : Option ℕ) → SameLimits p None high (At 0) high
unfolding limit_of
missing_low p high = refl

-- a missing high is any high in the top page
pub missing_high : (p : ℕ) (low : Option ℕ) (x : ℕ) → Page p → top p ≤ x → x < 2 ^ 64 → SameLimits p low None low (At x)
unfolding limit_of
missing_high p low x g from to = ap (λ (end : ℕ). entry (up p (or_else low 0)) end (number_of Free)) (at_top (2 ^ 64 - 1) last (omega arith) ∙ sym (at_top x from to))
  where
    last : top p ≤ 2 ^ 64 - 1
    last = omega (arith, top_under p g)

    at_top : (y : ℕ) → top p ≤ y → y < 2 ^ 64 → down p y ≡ top p
    at_top y u v =
        omega (
          arith,
          down_greatest p y (top p) g.pos (top_aligned p g) u,
          page_gap p (down p y) (top p) (down_aligned p y) (top_aligned p g) (omega (arith, down_le p y, top_under p g)),
        )

module _ (p : ℕ) (low high low' high' : Option ℕ) (cs ds : List Claim) (g : Page p) (a : Accepted p cs) (b : Accepted p ds)
    (limits : SameLimits p low high low' high') (e : SameClaims cs ds) where
  -- THEOREM 4, any order: the same registrations in any two orders, none refused, under limits that round to the same, give the same areas
  pub any_order : areas_after p low high cs ≡ areas_after p low' high' ds
  any_order = same_order p low high cs ds g a b e ∙ same_limits p low high low' high' (map_after p ds) limits

  -- so two builds answer alike, and leave the same in the same slots, whatever form these have
  any_order_lent : {A : Type 0} (f : Form A) (l l₁ l₂ : List A) (r₁ r₂ : Result ℕ AreasRefusal)
      → BuildsIn f (areas_after p low high cs) l l₁ r₁ → BuildsIn f (areas_after p low' high' ds) l l₂ r₂ → (r₁ ≡ r₂) × (l₁ ≡ l₂)
  any_order_lent f l l₁ l₂ r₁ r₂ x y = (
    x.answer ∙ ap (λ (areas : List Interval). answer_for (f.slots l) areas) any_order ∙ sym y.answer,
    x.after ∙ ap (λ (areas : List Interval). lent_after f areas l) any_order ∙ sym y.after,
  )

  -- "the finished areas are the same bytes each time": the same numbers
  pub any_order_built : (l l₁ l₂ : List ℕ) (r₁ r₂ : Result ℕ AreasRefusal)
      → Builds p (map_after p cs) low high l l₁ r₁ → Builds p (map_after p ds) low' high' l l₂ r₂ → (r₁ ≡ r₂) × (l₁ ≡ l₂)
  any_order_built l l₁ l₂ r₁ r₂ x y = any_order_lent numbers l l₁ l₂ r₁ r₂ (in_numbers x) (in_numbers y)

  -- and the same records
  pub any_order_row : (row row₁ row₂ : List MemoryArea) (r₁ r₂ : Result ℕ AreasRefusal)
      → BuildsRow p (map_after p cs) low high row row₁ r₁ → BuildsRow p (map_after p ds) low' high' row row₂ r₂ → (r₁ ≡ r₂) × (row₁ ≡ row₂)
  any_order_row row row₁ row₂ r₁ r₂ x y = any_order_lent records row row₁ row₂ r₁ r₂ (in_records x) (in_records y)
