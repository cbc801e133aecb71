-- What a late claim leaves: a refusal nothing else than was there, and any answer a map that every call takes. Assumes nothing.
use Rattle.late_claim.specs.declared.LateRefusal.{LateRefusal}
use Rattle.std.specs.Prelude.{Result, Ok, Err}
use mathlib.Core.Path.{◌≡◌, refl}
use mathlib.Core.List.{List}
use Prim.Native.Nat.{ℕ}
use Rattle.page.specs.Round.{Page}
use Rattle.entry.specs.declared.Claim.{Claim}
use Rattle.memory.specs.declared.MemoryMap.{MemoryMap}
use Rattle.memory.specs.Made.{Made}
use Rattle.memory.proofs.MapLaws.{registered_made}
use Rattle.late_claim.specs.Late.{late_number, judged, entering, on_done, After, unchanged, entered, enter_of, late_of}

-- what is so of both is so of the one that an answer picks
pub on_either : {A : Type 0} (P : A → Type 0) (a : Result Unit LateRefusal) (x y : A) → P x → P y → P (on_done a x y)
on_either P (Ok _) x y h k = h
on_either P (Err _) x y h k = k

-- refusals "all leave map and table unchanged"
pub refused_unchanged : (p : ℕ) (m : MemoryMap) (c : Claim) (n : ℕ) (l : List ℕ) → (late_number (late_of p m c n l).answer ≡ 0 → ⊥)
    → late_of p m c n l ≡ unchanged m n l (late_of p m c n l).answer
unfolding late_of enter_of
refused_unchanged p m c n l =
    on_either Same (judged p c.kind n l) _ (unchanged m n l (judged p c.kind n l))
    (on_either Same (entering p m c n l) (entered p m c n l) (unchanged m n l (entering p m c n l)) (λ f. absurd (f refl)) (λ f. refl))
    (λ f. refl)
  where
    Same : After → Type 0
    Same a = (late_number a.answer ≡ 0 → ⊥) → a ≡ unchanged m n l a.answer

pub late_made : (p : ℕ) (m : MemoryMap) (c : Claim) (n : ℕ) (l : List ℕ) → Page p → Made p m → Made p (late_of p m c n l).map
unfolding late_of enter_of
late_made p m c n l g h =
    on_either (λ (a : After). Made p a.map) (judged p c.kind n l) _ (unchanged m n l (judged p c.kind n l))
    (on_either (λ (a : After). Made p a.map) (entering p m c n l) (entered p m c n l) (unchanged m n l (entering p m c n l)) (registered_made p m c g h) h)
    h
