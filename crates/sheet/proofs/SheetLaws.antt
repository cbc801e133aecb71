-- The usable pages of a finished table are those of its areas: what `usable_pages` returns, said of the areas that a build wrote. Assumes nothing.
use mathlib.Core.Path.{◌≡◌, refl, sym, ◌∙◌}
use mathlib.Core.List.{List, [], ◌∷◌, ◌++◌, append_assoc}
use Prim.Native.Nat.{ℕ, ◌+◌, ◌-◌, ◌^◌, ◌≤◌, ◌<◌}
use native.Mathlib.Omega.{arith}
use lib.ListN.{length, get_or, drop, length-append}
use Rattle.areas.specs.declared.Interval.{Interval}
use Rattle.areas.specs.Table.{flat}
use Rattle.areas.proofs.Writing.{get_past}
use Rattle.sheet.specs.Sheet.{usable_in, slot_pages}

-- the areas after the first i
slots_from : (p : ℕ) (l : List Interval) (s xs post : List ℕ) (i : ℕ) → length xs ≡ i + i → s ≡ xs ++ (flat l ++ post) → usable_in p l < 2 ^ 64
    → slot_pages p s (length l) i ≡ usable_in p l
unfolding slot_pages usable_in flat
slots_from p [] s xs post i at e h = refl
slots_from p (r ∷ l) s xs post i at e h =
    let two : List ℕ = r.lo ∷ (r.hi - r.lo) ∷ [] in
    let size : get_or s (i + i + 1) 0 ≡ r.hi - r.lo = rw e (get_past xs (r.lo ∷ (r.hi - r.lo) ∷ (flat l ++ post)) (i + i) at 1) in
    let more : slot_pages p s (length l) (i + 1) ≡ usable_in p l =
    slots_from p l s (xs ++ two) post (i + 1) (omega (arith, length-append xs two)) (e ∙ sym (append_assoc xs two (flat l ++ post))) (omega arith) in
    rw (size, more) (omega arith)

pub slots_usable : (p : ℕ) (l : List Interval) (s : List ℕ) → usable_in p l < 2 ^ 64 → length l + length l ≤ length s
    → s ≡ flat l ++ drop (length l + length l) s → slot_pages p s (length l) 0 ≡ usable_in p l
slots_usable p l s h room e = slots_from p l s [] (drop (length l + length l) s) 0 refl e h
