-- The ways that a late claim goes: what it comes to, whole, for each reason. For every page size. Assumes nothing.
use Rattle.std.specs.Prelude.{Option, Some, Result, Ok, Err}
use mathlib.Core.Path.{◌≡◌, refl, ap, sym, ◌∙◌}
use mathlib.Core.Bool.{Bool, true, false, true≢false}
use mathlib.Core.List.{List}
use mathlib.Core.Logic.{◌⊎◌, inl, inr, ⊎_elim}
use Prim.Native.Nat.{ℕ, zero, suc, ◌≤◌, ◌<◌}
use native.Mathlib.Omega.{arith}
use lib.Dec.{eqb}
use lib.ListN.{length}
use borrow.Author.Tests.{eqb-true, eqb-false, le-leb, lt-leb}
use Rattle.entry.specs.declared.BootloaderMemoryKind.{BootloaderMemoryKind}
use Rattle.entry.specs.declared.BootloaderMemoryKind.TheVariants.{Null, Free}
use Rattle.entry.specs.Kind.{number_of, IsKind, kind_of}
use Rattle.entry.specs.declared.Claim.{Claim}
use Rattle.entry.proofs.KindLaws.{Reads, known, unknown, reads, unknown_at, known_at}
use Rattle.memory.specs.declared.MemoryMap.{MemoryMap}
use Rattle.memory.specs.declared.MapRefusal.{MapRefusal}
use Rattle.memory.specs.declared.MapRefusal.TheVariants as refusal
use Rattle.memory.specs.Map.{answer_number, registered}
use Rattle.memory.specs.Run.{is_done}
use Rattle.runs.specs.Refusals.{Kindless}
use Rattle.runs.proofs.Refusals as runs
use Rattle.areas.specs.Table.{slots_in}
use Rattle.areas.proofs.Lists.{le_or_lt}
use Rattle.lent_table.specs.Table.{good_table}
use Rattle.late_claim.specs.declared.LateRefusal.TheVariants.{UnknownKind, NotLate, BadTable, MapFull, TooManyAreas}
use Rattle.late_claim.specs.Late.{late_number, areas_left, judged, entering, After, unchanged, entered, late_of}
use Rattle.late_claim.proofs.Judging.{judged_unknown, judged_never, judged_bad, judged_done}
use Rattle.late_claim.proofs.Claiming.{late_judged, late_refused, late_done}
use Rattle.late_theorems.specs.Refusals.{late_gives, NullOrFree, LateKind, TableStands}
use Rattle.late_theorems.proofs.Stands.{table_exactly}

-- ── 1, 13, 14 ──
-- the kind is none of the seven, one that is never late, or another
data KindWay (c : Claim) : Type 0 where
  is_kindless : Kindless c → KindWay c
  is_never : NullOrFree c → KindWay c
  is_late : LateKind c → KindWay c

kind_ways : (c : Claim) → KindWay c
kind_ways c = go (kind_of c.kind) (reads c.kind) (eqb c.kind (number_of Null)) refl (eqb c.kind (number_of Free)) refl
  where
    go : (r : Option BootloaderMemoryKind) → Reads c.kind r → (t : Bool) → eqb c.kind (number_of Null) ≡ t → (u : Bool) → eqb c.kind (number_of Free) ≡ u → KindWay c
    go r (unknown f) t e u d = is_kindless f
    go r (known k q) true e u d = is_never (inl (eqb-true _ _ e))
    go r (known k q) false e true d = is_never (inr (eqb-true _ _ d))
    go r (known k q) false e false d = is_late (record { known = record { kind = k; number = q }; other = ⊎_elim (eqb-false _ _ e) (eqb-false _ _ d) })

-- Null and Free have the two smallest numbers
never_small : (k : ℕ) → (k ≡ number_of Null) ⊎ (k ≡ number_of Free) → k ≤ 1
never_small k (inl e) = omega arith
never_small k (inr e) = omega arith

never_known : (k : ℕ) → (k ≡ number_of Null) ⊎ (k ≡ number_of Free) → IsKind k
never_known k (inl e) = record { kind = Null; number = sym e }
never_known k (inr e) = record { kind = Free; number = sym e }

late_large : (k : ℕ) → ((k ≡ number_of Null) ⊎ (k ≡ number_of Free) → ⊥) → 1 < k
late_large zero f = absurd (f (inl refl))
late_large (suc zero) f = absurd (f (inr refl))
late_large (suc (suc k)) f = omega arith

reads_known : (k : ℕ) (i : IsKind k) → Some i.kind ≡ kind_of k
reads_known k i = known_at i.kind k (sym i.number)

-- ── 2, 3 ──
-- a registration with the number 0 is done
pub map_done : (a : Result Unit MapRefusal) → answer_number a ≡ 0 → a ≡ Ok tt
map_done (Ok tt) e = refl
map_done (Err refusal.UnknownKind) e = absurd (omega arith)
map_done (Err refusal.MapFull) e = absurd (omega arith)

full_is : (a : Result Unit MapRefusal) → answer_number a ≡ 2 → is_done a ≡ false
full_is (Ok tt) e = absurd (omega arith)
full_is (Err r) e = refl

-- a claim of a kind is answered 0 or 2 by the map
zero_or_two : (p : ℕ) (m : MemoryMap) (c : Claim) → IsKind c.kind → (answer_number (registered p m c).answer ≡ 0) ⊎ (answer_number (registered p m c).answer ≡ 2)
zero_or_two p m c k = go (registered p m c).answer refl
  where
    go : (a : Result Unit MapRefusal) → (registered p m c).answer ≡ a
        → (answer_number (registered p m c).answer ≡ 0) ⊎ (answer_number (registered p m c).answer ≡ 2)
    go (Ok tt) e = inl (ap answer_number e)
    go (Err refusal.UnknownKind) e = absurd ((runs.number_1 p m c).0 (ap answer_number e) k)
    go (Err refusal.MapFull) e = inr (ap answer_number e)

-- ── All of it ──
module _ (p : ℕ) (m : MemoryMap) (c : Claim) (n : ℕ) (l : List ℕ) where
  pub late_unknown : Kindless c → late_of p m c n l ≡ unchanged m n l (Err UnknownKind)
  late_unknown f = late_judged p m c n l (Err UnknownKind) (sym (judged_unknown p c.kind n l (unknown_at c.kind f))) (λ e. omega arith)

  pub late_never : NullOrFree c → late_of p m c n l ≡ unchanged m n l (Err NotLate)
  late_never h =
      late_judged p m c n l (Err NotLate) (sym (judged_never p c.kind n l (reads_known c.kind (never_known c.kind h)) (never_small c.kind h))) (λ e. omega arith)

  module _ (kind : LateKind c) where
    read : Some kind.known.kind ≡ kind_of c.kind
    read = reads_known c.kind kind.known

    pub late_bad : (TableStands p n l → ⊥) → late_of p m c n l ≡ unchanged m n l (Err BadTable)
    late_bad f =
        late_judged p m c n l (Err BadTable) (sym (judged_bad p c.kind n l read (late_large c.kind kind.other) (go (good_table p n l) refl))) (λ e. omega arith)
      where
        go : (t : Bool) → good_table p n l ≡ t → t ≡ false
        go true e = absurd (f ((table_exactly p n l).0 e))
        go false e = refl

    module _ (stands : TableStands p n l) where
      pub late_checked : judged p c.kind n l ≡ Ok tt
      late_checked = sym (judged_done p c.kind n l read (late_large c.kind kind.other) ((table_exactly p n l).1 stands))

      pub late_full : answer_number (registered p m c).answer ≡ 2 → late_of p m c n l ≡ unchanged m n l (Err MapFull)
      unfolding entering
      late_full e = late_refused p m c n l late_checked (Err MapFull) (rw (full_is (registered p m c).answer e)) (λ z. omega arith)

      module _ (done : answer_number (registered p m c).answer ≡ 0) where
        pub late_many : slots_in l < length (areas_left p c n l) → late_of p m c n l ≡ unchanged m n l (Err TooManyAreas)
        unfolding entering
        late_many h =
            late_refused p m c n l late_checked (Err TooManyAreas)
            (rw (map_done (registered p m c).answer done, lt-leb (length (areas_left p c n l)) (slots_in l) h)) (λ z. omega arith)

        pub late_entered : length (areas_left p c n l) ≤ slots_in l → late_of p m c n l ≡ entered p m c n l
        unfolding entering
        late_entered h =
            late_done p m c n l late_checked (rw (map_done (registered p m c).answer done, le-leb (length (areas_left p c n l)) (slots_in l) h))

-- what a late claim comes to, with the reason
pub data Way (p : ℕ) (m : MemoryMap) (c : Claim) (n : ℕ) (l : List ℕ) : After → Type 0 where
  unknown_kind : Kindless c → Way p m c n l (unchanged m n l (Err UnknownKind))
  not_late : NullOrFree c → Way p m c n l (unchanged m n l (Err NotLate))
  bad_table : LateKind c → (TableStands p n l → ⊥) → Way p m c n l (unchanged m n l (Err BadTable))
  map_full : LateKind c → TableStands p n l → answer_number (registered p m c).answer ≡ 2 → Way p m c n l (unchanged m n l (Err MapFull))
  too_many : LateKind c → TableStands p n l → answer_number (registered p m c).answer ≡ 0 → slots_in l < length (areas_left p c n l)
      → Way p m c n l (unchanged m n l (Err TooManyAreas))
  done : LateKind c → TableStands p n l → answer_number (registered p m c).answer ≡ 0 → length (areas_left p c n l) ≤ slots_in l → Way p m c n l (entered p m c n l)

pub late_way : (p : ℕ) (m : MemoryMap) (c : Claim) (n : ℕ) (l : List ℕ) → Way p m c n l (late_of p m c n l)
late_way p m c n l = by_kind (kind_ways c)
  where
    by_slots : LateKind c → TableStands p n l → answer_number (registered p m c).answer ≡ 0
        → (length (areas_left p c n l) ≤ slots_in l) ⊎ (slots_in l < length (areas_left p c n l)) → Way p m c n l (late_of p m c n l)
    by_slots k s z (inl h) = rw (late_entered p m c n l k s z h) (done k s z h)
    by_slots k s z (inr h) = rw (late_many p m c n l k s z h) (too_many k s z h)

    by_map : LateKind c → TableStands p n l → (answer_number (registered p m c).answer ≡ 0) ⊎ (answer_number (registered p m c).answer ≡ 2) → Way p m c n l (late_of p m c n l)
    by_map k s (inl z) = by_slots k s z (le_or_lt (length (areas_left p c n l)) (slots_in l))
    by_map k s (inr z) = rw (late_full p m c n l k s z) (map_full k s z)

    by_table : LateKind c → (t : Bool) → good_table p n l ≡ t → Way p m c n l (late_of p m c n l)
    by_table k true e = by_map k ((table_exactly p n l).0 e) (zero_or_two p m c k.known)
    by_table k false e =
        let bad : TableStands p n l → ⊥ = λ s. true≢false (sym ((table_exactly p n l).1 s) ∙ e) in
        rw (late_bad p m c n l k bad) (bad_table k bad)

    by_kind : KindWay c → Way p m c n l (late_of p m c n l)
    by_kind (is_kindless f) = rw (late_unknown p m c n l f) (unknown_kind f)
    by_kind (is_never h) = rw (late_never p m c n l h) (not_late h)
    by_kind (is_late k) = by_table k (good_table p n l) refl

-- a late claim that is done: what nothing refused, and what it comes to
pub record Unrefused (p : ℕ) (m : MemoryMap) (c : Claim) (n : ℕ) (l : List ℕ) : Type 0 where
  pub kind : LateKind c
  pub stands : TableStands p n l
  pub registers : answer_number (registered p m c).answer ≡ 0
  pub enough : length (areas_left p c n l) ≤ slots_in l
  pub is : late_of p m c n l ≡ entered p m c n l

pub unrefused : (p : ℕ) (m : MemoryMap) (c : Claim) (n : ℕ) (l : List ℕ) → late_gives p m c n l ≡ 0 → Unrefused p m c n l
unrefused p m c n l = go (late_of p m c n l) (late_way p m c n l)
  where
    go : (a : After) → Way p m c n l a → late_number a.answer ≡ 0 → Unrefused p m c n l
    go a (unknown_kind f) e = absurd (omega arith)
    go a (not_late h) e = absurd (omega arith)
    go a (bad_table k f) e = absurd (omega arith)
    go a (map_full k s z) e = absurd (omega arith)
    go a (too_many k s z h) e = absurd (omega arith)
    go a (done k s z h) e = record { kind = k; stands = s; registers = z; enough = h; is = late_entered p m c n l k s z h }
