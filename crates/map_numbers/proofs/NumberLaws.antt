-- A map and its numbers: either gives back the other. Assumes nothing.
use mathlib.Core.Path.{◌≡◌, ap, ap₂, sym, ◌∙◌}
use mathlib.Core.List.{List}
use Prim.Native.Nat.{ℕ}
use lib.ListN.{length, get_or}
use Rattle.std.proofs.lemmas.List.{set-get_or}
use Rattle.entry.specs.declared.MemoryEntry.{MemoryEntry}
use Rattle.memory.specs.declared.MemoryMap.{MemoryMap}
use Rattle.memory.specs.Map.{Slots, vacant, slots_of, map_of}
use Rattle.memory.specs.Made.{Full}
use Rattle.map_numbers.specs.Numbers.{map_in, slots_in, numbers, numbers_of}
use Rattle.map_numbers.proofs.Places.{Reads, reads_all, start_at, end_at, kind_at, size_at, slots_length, slots_from_first, Written, written_all}

-- WHAT WAS STORED IS WHAT IS LOADED
pub map_numbers : (m : MemoryMap) → Full (slots_of m) → map_in (numbers_of m) ≡ m
unfolding map_in numbers_of
map_numbers m f =
    let l = numbers m.entries m.size in
    let back : Reads l 512 m.entries =
    record { full = f; read = λ k h. let a = start_at m.entries f m.size k h in let b = end_at m.entries f m.size k h in let d = kind_at m.entries f m.size k h in rw (a, b, d) } in
    ap₂ map_of (sym (reads_all back)) (size_at m.entries f m.size)

-- WHAT WAS LOADED, STORED BACK, CHANGES NO NUMBER
pub numbers_map : (l : List ℕ) → length l ≡ 1537 → numbers_of (map_in l) ≡ l
unfolding map_in numbers_of
numbers_map l h =
    let full : Full (slots_in l 512 0) = slots_length l 512 0 in
    let there : Written (slots_in l 512 0) 512 l =
    record {
      size = h;
      starts = λ k b. ap (λ (e : MemoryEntry). e.start) (sym (slots_from_first l k vacant b));
      ends = λ k b. ap (λ (e : MemoryEntry). e.end) (sym (slots_from_first l k vacant b));
      kinds = λ k b. ap (λ (e : MemoryEntry). e.kind) (sym (slots_from_first l k vacant b));
    } in
    sym (written_all (get_or l 1536 0) full there) ∙ set-get_or l 1536 0
