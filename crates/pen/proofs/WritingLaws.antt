-- Laws of a text put into a lent buffer: two texts one behind the other are their join, and the buffer keeps its length. Assumes nothing.
use mathlib.Core.Path.{◌≡◌, sym, ap, ◌∙◌, subst}
use mathlib.Core.List.{List, ◌++◌, append_assoc}
use Prim.Native.Nat.{ℕ, ◌+◌, ◌≤◌}
use native.Mathlib.Omega.{arith}
use native.Mathlib.Nat.{add_assoc}
use lib.ListN.{length, take, drop, length-append, length-take}
use lib.Seq.{take-paste, drop-paste, length-paste, take-length, drop-drop}
use Rattle.pen.specs.Writing.{Writes, Lands, Put}

-- ── One text behind the other ──
pub same_text : {a : List ℕ} {at : ℕ} {x y b : List ℕ} {q : ℕ} → Writes a at x b q → x ≡ y → Writes a at y b q
same_text {a} {at} {x} {y} {b} {q} w e = subst (λ (l : List ℕ). Writes a at l b q) e w

module _ {a : List ℕ} {at : ℕ} {x b : List ℕ} {q : ℕ} (first : Writes a at x b q) where
  -- the buffer keeps its length
  pub kept : at + length x ≤ length a → length b ≡ length a
  kept fits = ap length first.put ∙ length-paste a at x (length x) fits (omega arith)

  front : at ≤ length a → take q b ≡ take at a ++ x
  front h =
      ap (λ (k : ℕ). take k b) first.end
      ∙ ap (λ (l : List ℕ). take (at + length x) l) first.put
      ∙ take-paste a at x (length x) h (omega arith) ∙ ap (λ (l : List ℕ). take at a ++ l) (take-length x)

  rest : at ≤ length a → drop q b ≡ drop (at + length x) a
  rest h =
      ap (λ (k : ℕ). drop k b) first.end
      ∙ ap (λ (l : List ℕ). drop (at + length x) l) first.put ∙ drop-paste a at x (length x) h (omega arith)

  rest_from : at ≤ length a → (n : ℕ) → drop (q + n) b ≡ drop (at + length x + n) a
  rest_from h n =
      sym (drop-drop n q b) ∙ ap (λ (l : List ℕ). drop n l) (rest h) ∙ drop-drop n (at + length x) a

  module _ {y c : List ℕ} {r : ℕ} (second : Writes b q y c r) where
    place : at + length x + length y ≡ at + length (x ++ y)
    place = add_assoc at (length x) (length y) ∙ ap (λ (k : ℕ). at + k) (sym (length-append x y))

    pub writes_append : at ≤ length a → Writes a at (x ++ y) c r
    writes_append h =
        record {
          put =
              second.put
              ∙ ap (λ (l : List ℕ). take q b ++ l ++ drop (q + length y) b) (take-length y)
              ∙ ap (λ (l : List ℕ). l ++ y ++ drop (q + length y) b) (front h)
              ∙ ap (λ (l : List ℕ). (take at a ++ x) ++ y ++ l) (rest_from h (length y) ∙ ap (λ (k : ℕ). drop k a) place)
              ∙ ap (λ (l : List ℕ). l ++ drop (at + length (x ++ y)) a)
              (append_assoc (take at a) x y ∙ ap (λ (l : List ℕ). take at a ++ l) (sym (take-length (x ++ y))));
          end = second.end ∙ ap (λ (k : ℕ). k + length y) first.end ∙ place;
        }

-- ── Texts that are put one behind the other, where there is room for all of them ──
pub lands_append : {a : List ℕ} {at : ℕ} {x b : List ℕ} {q : ℕ} {y c : List ℕ} {r : ℕ} → Lands a at x b q → Lands b q y c r
    → Lands a at (x ++ y) c r
lands_append {a} {at} {x} {b} {q} {y} f k h =
    let n = length-append x y in
    let w = f (omega arith) in
    let l = kept w (omega arith) in
    writes_append w (k (omega arith)) (omega arith)

pub and_then_lem : {a : List ℕ} {at : ℕ} {x b : List ℕ} {q : ℕ} {y c : List ℕ} {r : ℕ} → Put a at x b q → Lands b q y c r → Lands a at (x ++ y) c r
and_then_lem p k = lands_append p.fits k

pub as_text : {a : List ℕ} {at : ℕ} {x y b : List ℕ} {r : ℕ} → x ≡ y → Lands a at x b r → Lands a at y b r
as_text {a} {at} {x} {y} {b} {r} e k = subst (λ (t : List ℕ). Lands a at t b r) e k

-- ── A text at the start ──
module _ {a x b : List ℕ} {q : ℕ} (w : Writes a 0 x b q) where
  -- what is answered is how much of the buffer is text, and the buffer has it
  pub text_length : q ≡ length (take q b)
  text_length = omega (arith, w.end, ap length (front w (omega arith)), length-append (take 0 a) x, length-take 0 a)

  pub text_inside : q ≤ length b
  text_inside = omega (arith, text_length, length-take q b)

  -- and what is text is the text
  pub text_taken : take q b ≡ x
  text_taken = front w (omega arith)
