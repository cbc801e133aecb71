-- What `wharfthrum_claim_late` asks of the map's memory, the calls leave so: a caller that uses only these calls owes nothing. And a refused
-- claim leaves every number of it. Assumes nothing.
use Rattle.startup.specs.declared.Summary.{Summary}
use Rattle.std.specs.Prelude.{Result, Ok, Err}
use mathlib.Core.Path.{◌≡◌, ap, sym, subst, ◌∙◌}
use mathlib.Core.List.{List}
use Prim.Native.Nat.{ℕ}
use native.Mathlib.Omega.{arith}
use lib.ListN.{length}
use Rattle.page.specs.Round.{Page}
use Rattle.entry.specs.declared.Claim.{Claim}
use Rattle.memory.specs.declared.MemoryMap.{MemoryMap}
use Rattle.memory.specs.Made.{Made}
use Rattle.late_claim.specs.Late.{late_number, After, late_of}
use Rattle.late_claim.proofs.MadeLaws.{refused_unchanged, late_made}
use Rattle.map_numbers.specs.Numbers.{map_in, numbers_of}
use Rattle.map_numbers.proofs.NumberLaws.{map_numbers, numbers_map}
use Rattle.startup.specs.declared.Refusal.{Refusal}
use Rattle.startup.specs.declared.Refusal.TheVariants.{BadOrder, UnknownKind, BadHeader, OverLimit, BadStructure, UnreadableReg, UnreadableRanges, MapFull, TooManyAreas}
use Rattle.startup.specs.Verdict.{refusal_number}
use Rattle.startup.specs.Report.{report_of, report_number}
use Rattle.startup.specs.Start.{map_left}
use Rattle.startup.proofs.StartLaws.{left_made}
use Rattle.service.specs.Late.{numbers_left, memory_after}

-- a map that was stored is loaded as it was
stored_made : (p : ℕ) (m : MemoryMap) → Made p m → Made p (map_in (numbers_of m))
stored_made p m h = subst (Made p) (sym (map_numbers m h.slots)) h

-- 0 is no refusal's number
not_zero : (r : Refusal) → refusal_number r ≡ 0 → ⊥
not_zero BadOrder e = omega arith
not_zero UnknownKind e = omega arith
not_zero BadHeader e = omega arith
not_zero OverLimit e = omega arith
not_zero BadStructure e = omega arith
not_zero UnreadableReg e = omega arith
not_zero UnreadableRanges e = omega arith
not_zero MapFull e = omega arith
not_zero TooManyAreas e = omega arith

-- AFTER A BUILD THAT IS DONE
pub build_asks : (p : ℕ) (s l k : List ℕ) → Page p → report_number (report_of p s l) ≡ 0 → Made p (map_in (memory_after p s l k))
unfolding memory_after
build_asks p s l k g = go (report_of p s l)
  where
    go : (r : Result Summary Refusal) → report_number r ≡ 0 → Made p (map_in (numbers_left r (map_left p s l) k))
    go (Ok x) e = stored_made p (map_left p s l) (left_made p s l g)
    go (Err r) e = absurd (not_zero r e)

-- AFTER EVERY LATE CLAIM
pub claim_asks : (p : ℕ) (k : List ℕ) (c : Claim) (n : ℕ) (l : List ℕ) → Page p → Made p (map_in k) → Made p (map_in (numbers_of (late_of p (map_in k) c n l).map))
claim_asks p k c n l g h = stored_made p (late_of p (map_in k) c n l).map (late_made p (map_in k) c n l g h)

-- A REFUSAL LEAVES THE MEMORY: "all leave map and table unchanged"
pub refused_memory : (p : ℕ) (k : List ℕ) (c : Claim) (n : ℕ) (l : List ℕ) → length k ≡ 1537
    → (late_number (late_of p (map_in k) c n l).answer ≡ 0 → ⊥) → numbers_of (late_of p (map_in k) c n l).map ≡ k
refused_memory p k c n l h f =
    ap (λ (a : After). numbers_of a.map) (refused_unchanged p (map_in k) c n l f) ∙ numbers_map k h
