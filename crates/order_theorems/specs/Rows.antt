-- The table of document 01, "Numbers a caller gets back", over an order file's bytes s and the lent slots l.
use Rattle.std.specs.Prelude.{◌≡◌, ◌↔◌, ℕ, ◌<◌, List, length}
use Rattle.entry.specs.declared.Claim.{Claim}
use Rattle.memory.specs.Map.{blank}
use Rattle.bootloader.specs.List.{claims}
use Rattle.runs.specs.Sets.{Some}
use Rattle.runs.specs.Refusals.{Kindless, Overflows}
use Rattle.areas.specs.declared.Interval.{Interval}
use Rattle.areas.specs.Table.{slots_in}
use Rattle.demand3.specs.Rule.{areas_after}
use Rattle.fdt.specs.Header.{structure_of, strings_of}
use Rattle.fdt.specs.Tree.{Nodes, tree_of}
use Rattle.grammar.specs.Numbers.{HeaderBroken, OverLimits, StructureBroken, Opens}
use Rattle.tree_theorems.specs.Unreadable.{BadReserved, BadSoc}
use Rattle.order.specs.Layout.{GoodOrder, order_in}
use Rattle.startup.specs.declared.Refusal.{Refusal}
use Rattle.startup.specs.declared.Refusal.TheVariants.{BadOrder, UnknownKind, BadHeader, OverLimit, BadStructure, UnreadableReg, UnreadableRanges, MapFull, TooManyAreas}
use Rattle.startup.specs.Sources.{list_in, tree_in, registrations}

-- "Checked in this order"
abbrev pub rank : Refusal → ℕ
rank BadOrder = 0
rank UnknownKind = 1
rank BadHeader = 2
rank OverLimit = 3
rank BadStructure = 4
rank UnreadableReg = 5
rank UnreadableRanges = 6
rank MapFull = 7
rank TooManyAreas = 8

-- the registrations of a file, read by its layout, and its finished areas
abbrev pub file_claims : List ℕ → List Claim
file_claims s = registrations s (order_in s)

abbrev pub file_areas : ℕ → List ℕ → List Interval
file_areas p s = areas_after p (order_in s).low (order_in s).high (file_claims s)

-- the tree's bytes, and the tree
abbrev pub file_tree : List ℕ → List ℕ
file_tree s = tree_in s (order_in s)

abbrev pub file_root : List ℕ → Nodes
file_root s = tree_of (structure_of (file_tree s)) (strings_of (file_tree s))

abbrev pub HasTree : List ℕ → Type 0
HasTree s = Opens (file_tree s)

-- what each row says
abbrev pub Row : ℕ → List ℕ → List ℕ → Refusal → Type 0
-- 9: "order file breaks its layout, or is longer than 65,536"
Row p s l BadOrder = GoodOrder s → ⊥
-- 1: "a kind is none of the seven, size 0 included"
Row p s l UnknownKind = Some Kindless (claims (list_in s (order_in s)))
-- 4: "tree header broken"; 6: "tree over a size, level or node limit"; 5: "tree structure broken"
Row p s l BadHeader = HeaderBroken (file_tree s)
Row p s l OverLimit = OverLimits (file_tree s)
Row p s l BadStructure = StructureBroken (file_tree s)
-- 7: "a counted reserved child's nonempty `reg` is unreadable"
Row p s l UnreadableReg = HasTree s × BadReserved (file_root s)
-- 8: "a readable /soc entry meets an unreadable `ranges`"
Row p s l UnreadableRanges = HasTree s × BadSoc (order_in s).arm (file_root s)
-- 2: "map full"
Row p s l MapFull = Overflows p blank (file_claims s)
-- 3: "more areas than slots"
Row p s l TooManyAreas = slots_in l < length (file_areas p s)

-- "Given exactly when" its row says so, and no row above it does
abbrev pub Due : ℕ → List ℕ → List ℕ → Refusal → Type 0
Due p s l r = Row p s l r × ((q : Refusal) → rank q < rank r → Row p s l q → ⊥)

-- THE TABLE, of the number n that a caller gets back
pub record Table (p : ℕ) (s l : List ℕ) (n : ℕ) : Type 0 where
  pub nine : (n ≡ 9) ↔ Due p s l BadOrder
  pub one : (n ≡ 1) ↔ Due p s l UnknownKind
  pub four : (n ≡ 4) ↔ Due p s l BadHeader
  pub six : (n ≡ 6) ↔ Due p s l OverLimit
  pub five : (n ≡ 5) ↔ Due p s l BadStructure
  pub seven : (n ≡ 7) ↔ Due p s l UnreadableReg
  pub eight : (n ≡ 8) ↔ Due p s l UnreadableRanges
  pub two : (n ≡ 2) ↔ Due p s l MapFull
  pub three : (n ≡ 3) ↔ Due p s l TooManyAreas
  -- "0 is done."
  pub done : (n ≡ 0) ↔ ((q : Refusal) → Row p s l q → ⊥)
