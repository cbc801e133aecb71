-- Each number of a late claim, exactly when: request L3 of document 02, "Refusals, in order: 1, 13 .., 14 .., 2, 3"; and that a refused one
-- changes nothing. For every page size. Assumes nothing.
use Rattle.std.specs.Prelude.{Result, Ok, Err}
use mathlib.Core.Path.{◌≡◌, refl, ap, subst}
use mathlib.Core.Bool.{cond}
use mathlib.Core.List.{List}
use mathlib.Core.Logic.{◌↔◌, ◌⊎◌, inl, inr}
use Prim.Native.Nat.{ℕ, ◌≤◌, ◌<◌}
use native.Mathlib.Omega.{arith}
use lib.Dec.{eqb}
use lib.ListN.{length}
use Rattle.numbers.specs.Number.{Names}
use Rattle.numbers.proofs.Given.{given}
use Rattle.entry.specs.declared.Claim.{Claim}
use Rattle.memory.specs.declared.MemoryMap.{MemoryMap}
use Rattle.memory.specs.Map.{answer_number, registered}
use Rattle.runs.specs.Refusals.{Kindless, Refused}
use Rattle.runs.proofs.Refusals as runs
use Rattle.areas.specs.Table.{slots_in}
use Rattle.late_claim.specs.declared.LateRefusal.{LateRefusal}
use Rattle.late_claim.specs.declared.LateRefusal.TheVariants.{UnknownKind, NotLate, BadTable, MapFull, TooManyAreas}
use Rattle.late_claim.specs.Late.{late_refusal_number, late_number, areas_left, After, unchanged, late_of}
use Rattle.late_claim.proofs.MadeLaws.{refused_unchanged}
use Rattle.late_theorems.specs.Refusals.{late_gives, NullOrFree, LateKind, TableStands}
use Rattle.late_theorems.proofs.Ways.{late_unknown, late_never, late_bad, late_full, late_many, late_entered, Way, unknown_kind, not_late, bad_table, map_full, too_many, done, late_way, unrefused}

-- 1, 13, 14, 2 and 3 name their cases
abbrev numbered : ℕ → LateRefusal
numbered n = cond (eqb n 1) UnknownKind (cond (eqb n 13) NotLate (cond (eqb n 14) BadTable (cond (eqb n 2) MapFull TooManyAreas)))

number_back : (r : LateRefusal) → numbered (late_refusal_number r) ≡ r
number_back UnknownKind = refl
number_back NotLate = refl
number_back BadTable = refl
number_back MapFull = refl
number_back TooManyAreas = refl

pub late_names : Names late_number
late_names = record { back = λ n. Err (numbered n); named = each }
  where
    each : (a : Result Unit LateRefusal) → (late_number a ≡ 0) ⊎ (Err (numbered (late_number a)) ≡ a)
    each (Ok tt) = inl refl
    each (Err r) = inr (ap Err (number_back r))

module _ (p : ℕ) (m : MemoryMap) (c : Claim) (n : ℕ) (l : List ℕ) where
  -- the reason for each answer, with what the map answers to the registration
  abbrev Due : Result Unit LateRefusal → Type 0
  Due (Err UnknownKind) = Kindless c
  Due (Err NotLate) = NullOrFree c
  Due (Err BadTable) = LateKind c × (TableStands p n l → ⊥)
  Due (Err MapFull) = LateKind c × TableStands p n l × (answer_number (registered p m c).answer ≡ 2)
  Due (Err TooManyAreas) = LateKind c × TableStands p n l × (answer_number (registered p m c).answer ≡ 0) × (slots_in l < length (areas_left p c n l))
  Due (Ok tt) = LateKind c × TableStands p n l × (answer_number (registered p m c).answer ≡ 0) × (length (areas_left p c n l) ≤ slots_in l)

  due : (a : After) → Way p m c n l a → Due a.answer
  due a (unknown_kind f) = f
  due a (not_late h) = h
  due a (bad_table k f) = (k, f)
  due a (map_full k s z) = (k, s, z)
  due a (too_many k s z h) = (k, s, z, h)
  due a (done k s z h) = (k, s, z, h)

  only : (a : Result Unit LateRefusal) → Due a → (late_of p m c n l).answer ≡ a
  only (Err UnknownKind) d = ap (λ (a : After). a.answer) (late_unknown p m c n l d)
  only (Err NotLate) d = ap (λ (a : After). a.answer) (late_never p m c n l d)
  only (Err BadTable) d = ap (λ (a : After). a.answer) (late_bad p m c n l d.0 d.1)
  only (Err MapFull) d = ap (λ (a : After). a.answer) (late_full p m c n l d.0 d.1 d.2)
  only (Err TooManyAreas) d = ap (λ (a : After). a.answer) (late_many p m c n l d.0 d.1 d.2 d.3)
  only (Ok tt) d = ap (λ (a : After). a.answer) (late_entered p m c n l d.0 d.1 d.2 d.3)

  exactly : (a : Result Unit LateRefusal) → ((late_of p m c n l).answer ≡ a) ↔ Due a
  exactly a = (λ e. subst (λ (b : Result Unit LateRefusal). Due b) e (due (late_of p m c n l) (late_way p m c n l)), only a)

  -- 1: "a kind is none of the seven, size 0 included" (document 01)
  pub number_1 : (late_gives p m c n l ≡ 1) ↔ Kindless c
  number_1 = given late_names (Err UnknownKind) (λ z. omega arith) (exactly (Err UnknownKind))

  -- "13 kind Null or Free"
  pub number_13 : (late_gives p m c n l ≡ 13) ↔ NullOrFree c
  number_13 = given late_names (Err NotLate) (λ z. omega arith) (exactly (Err NotLate))

  -- "14 count above the slots, or areas not ascending, aligned, nonempty, apart without touching and ending at or below T"
  pub number_14 : (late_gives p m c n l ≡ 14) ↔ (LateKind c × (TableStands p n l → ⊥))
  number_14 = given late_names (Err BadTable) (λ z. omega arith) (exactly (Err BadTable))

  -- 2, as the map answers the registration
  full_map : (late_gives p m c n l ≡ 2) ↔ (LateKind c × TableStands p n l × (answer_number (registered p m c).answer ≡ 2))
  full_map = given late_names (Err MapFull) (λ z. omega arith) (exactly (Err MapFull))

  -- 3, where the map takes the registration
  pub many_areas : (late_gives p m c n l ≡ 3) ↔ (LateKind c × TableStands p n l × (answer_number (registered p m c).answer ≡ 0) × (slots_in l < length (areas_left p c n l)))
  many_areas = given late_names (Err TooManyAreas) (λ z. omega arith) (exactly (Err TooManyAreas))

  module _ (room : m.size ≤ 512) where
    -- 2, after 1, 13 and 14: "It is refused exactly when it is nonempty, 512 entries are held and none of its kind overlaps or touches it."
    -- (document 01)
    pub number_2 : (late_gives p m c n l ≡ 2) ↔ (LateKind c × TableStands p n l × Refused p m c)
    number_2 = (
      λ e. let d = full_map.0 e in (d.0, d.1, (runs.number_2 p m c room).0 d.2),
      λ d. full_map.1 (d.0, d.1, (runs.number_2 p m c room).1 d.2),
    )

    -- 3, after all others: "Refused exactly when there are more areas than slots." (document 01)
    pub number_3 : (late_gives p m c n l ≡ 3) ↔ (LateKind c × TableStands p n l × (Refused p m c → ⊥) × (slots_in l < length (areas_left p c n l)))
    number_3 = (
      λ e. let d = many_areas.0 e in (d.0, d.1, ((runs.number_0 p m c room).0 d.2).1, d.3),
      λ d. many_areas.1 (d.0, d.1, (runs.number_0 p m c room).1 (d.0.known, d.2), d.3),
    )

    -- "0 is done": none of them
    pub number_0 : (late_gives p m c n l ≡ 0) ↔ (LateKind c × TableStands p n l × (Refused p m c → ⊥) × (length (areas_left p c n l) ≤ slots_in l))
    number_0 = (
      λ e. let d = unrefused p m c n l e in (d.kind, d.stands, ((runs.number_0 p m c room).0 d.registers).1, d.enough),
      λ d. ap late_number (only (Ok tt) (d.0, d.1, (runs.number_0 p m c room).1 (d.0.known, d.2), d.3)),
    )

  -- THEOREM, refusals "all leave map and table unchanged"
  pub refused_leaves : (late_gives p m c n l ≡ 0 → ⊥) → late_of p m c n l ≡ unchanged m n l (late_of p m c n l).answer
  refused_leaves = refused_unchanged p m c n l
