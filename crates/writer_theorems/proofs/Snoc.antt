-- One part more behind the others, one entry more behind the others. Assumes nothing.
use mathlib.Core.Path.{◌≡◌, sym, ◌∙◌, ap}
use Prim.Native.Nat.{ℕ, ◌+◌}
use native.Mathlib.Omega.{arith}
use mathlib.Core.List.{List, [], ◌∷◌, ◌++◌, append_assoc, append-nil}
use Rattle.cells.specs.declared.Region.{Region}
use Rattle.pen.specs.Numbers.{bytes8}
use Rattle.flattened.specs.Parts.{Part, begins, property, ends, part_bytes, name_bytes, part_size, name_size, parts_bytes, names_bytes, parts_size, names_size, Clean, AllClean}
use Rattle.flattened.specs.Blob.{entries_bytes, Entry, AllEntries}
use Rattle.writer_theorems.specs.Refusals.{begun, ended}

pub parts_snoc : (xs : List Part) (x : Part) (a : ℕ) → parts_bytes a (xs ++ (x ∷ [])) ≡ parts_bytes a xs ++ part_bytes (a + names_size xs) x
unfolding parts_bytes names_size
parts_snoc [] x a =
    let e : a ≡ a + 0 = omega arith in append-nil (part_bytes a x) ∙ ap (λ (k : ℕ). part_bytes k x) e
parts_snoc (y ∷ xs) x a =
    let e : a + name_size y + names_size xs ≡ a + (name_size y + names_size xs) = omega arith in
    ap (λ (l : List ℕ). part_bytes a y ++ l) (parts_snoc xs x (a + name_size y) ∙ ap (λ (k : ℕ). parts_bytes (a + name_size y) xs ++ part_bytes k x) e)
    ∙ sym (append_assoc (part_bytes a y) (parts_bytes (a + name_size y) xs) (part_bytes (a + (name_size y + names_size xs)) x))

pub names_snoc : (xs : List Part) (x : Part) → names_bytes (xs ++ (x ∷ [])) ≡ names_bytes xs ++ name_bytes x
unfolding names_bytes
names_snoc [] x = append-nil (name_bytes x)
names_snoc (y ∷ xs) x = ap (λ (l : List ℕ). name_bytes y ++ l) (names_snoc xs x) ∙ sym (append_assoc (name_bytes y) (names_bytes xs) (name_bytes x))

pub size_snoc : (xs : List Part) (x : Part) → parts_size (xs ++ (x ∷ [])) ≡ parts_size xs + part_size x
unfolding parts_size
size_snoc [] x = omega arith
size_snoc (y ∷ xs) x = let h = size_snoc xs x in omega arith

pub name_size_snoc : (xs : List Part) (x : Part) → names_size (xs ++ (x ∷ [])) ≡ names_size xs + name_size x
unfolding names_size
name_size_snoc [] x = omega arith
name_size_snoc (y ∷ xs) x = let h = name_size_snoc xs x in omega arith

pub clean_snoc : (xs : List Part) (x : Part) → AllClean xs → Clean x → AllClean (xs ++ (x ∷ []))
clean_snoc [] x h n = (n, tt)
clean_snoc (y ∷ xs) x h n = (h.0, clean_snoc xs x h.1 n)

pub entries_snoc : (rs : List Region) (r : Region) → entries_bytes (rs ++ (r ∷ [])) ≡ entries_bytes rs ++ (bytes8 r.address ++ bytes8 r.size)
unfolding entries_bytes
entries_snoc [] r = ap (λ (l : List ℕ). bytes8 r.address ++ l) (append-nil (bytes8 r.size))
entries_snoc (q ∷ rs) r =
    ap (λ (l : List ℕ). bytes8 q.address ++ (bytes8 q.size ++ l)) (entries_snoc rs r) ∙ simp append_assoc

pub entered_snoc : (rs : List Region) (r : Region) → AllEntries rs → Entry r → AllEntries (rs ++ (r ∷ []))
entered_snoc [] r h n = (n, tt)
entered_snoc (q ∷ rs) r h n = (h.0, entered_snoc rs r h.1 n)

-- how many nodes begin and end in both
pub begun_append : (xs ys : List Part) → begun (xs ++ ys) ≡ begun xs + begun ys
begun_append [] ys = omega arith
begun_append (begins name ∷ xs) ys = let h = begun_append xs ys in omega arith
begun_append (property name value ∷ xs) ys = begun_append xs ys
begun_append (ends ∷ xs) ys = begun_append xs ys

pub ended_append : (xs ys : List Part) → ended (xs ++ ys) ≡ ended xs + ended ys
ended_append [] ys = omega arith
ended_append (begins name ∷ xs) ys = ended_append xs ys
ended_append (property name value ∷ xs) ys = ended_append xs ys
ended_append (ends ∷ xs) ys = let h = ended_append xs ys in omega arith

-- how long two lists of parts are together
pub sizes_append : (xs ys : List Part) → (parts_size (xs ++ ys) ≡ parts_size xs + parts_size ys) × (names_size (xs ++ ys) ≡ names_size xs + names_size ys)
unfolding parts_size names_size
sizes_append [] ys = (omega arith, omega arith)
sizes_append (x ∷ xs) ys = let h = sizes_append xs ys in (omega arith, omega arith)
