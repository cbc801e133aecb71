-- The rules on one node, and on the way to it, do not look behind the veil: cell counts, translation, which children of /reserved-memory
-- count, and the console. Each reads values of kept names only, or whether a property is there. From the laws of ReadVeil on a kept name's
-- value and on the order, and of VeilShape on the nodes that are asked. Assumes nothing.
use Rattle.std.specs.Prelude.{Option, Some, None}
use mathlib.Core.Path.{◌≡◌, refl, ap}
use Prim.Native.Nat.{ℕ}
use mathlib.Core.List.{List, [], ◌∷◌}
use Rattle.cells.specs.declared.CellCount.{CellCount}
use Rattle.fdt.specs.Tree.{Property, Nodes, none, node}
use Rattle.grammar.specs.Veil.{Free, veil_p, veil_k}
use Rattle.nodes.specs.Cells.{address_cells, size_cells}
use Rattle.nodes.specs.OnTree.{kids_of}
use Rattle.nodes.specs.Order.{order, number_in}
use Rattle.reading.specs.Values.{value_of, count_of}
use Rattle.reading.proofs.ReadVeil.{value_veil, veil_cond, order_veil}
use Rattle.windows.specs.declared.Window.{Window}
use Rattle.windows.specs.declared.Window.TheVariants.{To, Nowhere, Unreadable}
use Rattle.subtree.specs.Names.{reg_name, ranges_name, status_name, stdout_path_name, compatible_name, chosen_name, aliases_name}
use Rattle.subtree.specs.Subtree.{props_of, under_root}
use Rattle.text.specs.Strings.{string_in}
use Rattle.translation.specs.declared.Sought.{Sought}
use Rattle.translation.specs.declared.Sought.TheVariants.{FirstReg}
use Rattle.translation.specs.Translation.{address_of, size_of, over, onward, climb, climbed, Start, from, no_start, start_of, from_start, parent_of, along_trail, trail, translated}
use Rattle.reserved.specs.Reserved.{available, children_count}
use Rattle.stdout.specs.Stdout.{before_colon, aliased, named, stdout_by, stdout_in, uart_by, uart_of}
use Rattle.value_bytes.specs.Unread.{Unread}
use Rattle.value_bytes.proofs.VeilShape.{veil_trail, props_veil, kids_veil, under_props, path_veil, trail_veil, parent_veil, there_veil, kept_veil}

onward_same : (w : Window) (f g : ℕ → Window) → ((x : ℕ) → f x ≡ g x) → onward w f ≡ onward w g
onward_same (To x) f g h = h x
onward_same Nowhere f g h = refl
onward_same Unreadable f g h = refl

module _ {free : Free} {t : Nodes} (k : Unread free t) where
  -- ── Cell counts ──
  pub address_veil : (ps : List Property) → address_of (veil_p free ps) ≡ address_of ps
  unfolding address_of
  address_veil ps = ap count_of (value_veil free address_cells k.address_cell_count ps)

  pub size_veil : (ps : List Property) → size_of (veil_p free ps) ≡ size_of ps
  unfolding size_of
  size_veil ps = ap count_of (value_veil free size_cells k.size_cell_count ps)

  -- ── Translation ──
  over_veil : (bus : List Property) (up : CellCount) (address size : ℕ) → over (veil_p free bus) up address size ≡ over bus up address size
  unfolding over
  over_veil bus up address size = rw (value_veil free ranges_name k.ranges bus, address_veil bus, size_veil bus)

  climb_veil : (above : List (List Property)) (address size : ℕ) → climb (veil_trail free above) address size ≡ climb above address size
  unfolding climb veil_trail
  climb_veil [] address size = refl
  climb_veil (root ∷ []) address size = refl
  climb_veil (bus ∷ up ∷ above) address size =
      rw (address_veil up, over_veil bus (address_of up) address size)
      (onward_same (over bus (address_of up) address size) _ _ (λ x. climb_veil (up ∷ above) x size))

  start_veil : (s : Start) (above : List (List Property)) (n : ℕ) → from_start s (veil_trail free above) n ≡ from_start s above n
  unfolding climbed
  start_veil no_start above n = refl
  start_veil (from r) above n = rw (climb_veil above r.address r.size)

  along_veil : (l : List (List Property)) (s : Sought) (n : ℕ) → along_trail (veil_trail free l) s n ≡ along_trail l s n
  unfolding veil_trail
  along_veil [] s n = refl
  along_veil (own ∷ above) s n =
      rw (parent_veil free above, address_veil (parent_of above), size_veil (parent_of above), value_veil free reg_name k.reg own)
      (start_veil (start_of s (address_of (parent_of above)) (size_of (parent_of above)) (value_of reg_name own)) above n)

  translated_veil : (w : Nodes) (q : ℕ) (s : Sought) → translated (veil_k free w) q s ≡ translated w q s
  unfolding translated veil_trail
  translated_veil w q s =
      rw (props_veil free w, kids_veil free w, order_veil free (kids_of w) [], trail_veil free q (kids_of w) (props_of w ∷ []))
      (along_veil (trail q (kids_of w) (props_of w ∷ [])) s (number_in (order (kids_of w) []) q 1))

  -- ── /reserved-memory ──
  pub available_veil : (ps : List Property) → available (veil_p free ps) ≡ available ps
  unfolding available
  available_veil ps = rw (value_veil free status_name k.status ps)

  pub children_veil : (root ps : List Property) → children_count (veil_p free root) (veil_p free ps) ≡ children_count root ps
  unfolding children_count
  children_veil root ps =
      rw (
        value_veil free address_cells k.address_cell_count root,
        value_veil free address_cells k.address_cell_count ps,
        value_veil free size_cells k.size_cell_count root,
        value_veil free size_cells k.size_cell_count ps,
        value_veil free ranges_name k.ranges ps,
      )

  -- ── The console, of this tree: none of its aliases is free ──
  aliased_veil : (o : Option (List ℕ)) → aliased (veil_k free t) o ≡ veil_k free (aliased t o)
  unfolding veil_k
  aliased_veil None = refl
  aliased_veil (Some path) = path_veil free t path

  named_veil : (s : List ℕ) → named (veil_k free t) s ≡ veil_k free (named t s)
  unfolding named
  named_veil s =
      simp
      (under_props free aliases_name t, kept_veil free k.aliases, path_veil free t s, aliased_veil, veil_cond free)

  by_veil : (o : Option (List ℕ)) → stdout_by (veil_k free t) o ≡ veil_k free (stdout_by t o)
  unfolding veil_k
  by_veil None = refl
  by_veil (Some s) = named_veil (before_colon s)

  stdout_veil : stdout_in (veil_k free t) ≡ veil_k free (stdout_in t)
  unfolding stdout_in
  stdout_veil =
      rw (under_props free chosen_name t, value_veil free stdout_path_name k.stdout_path (props_of (under_root chosen_name t)))
      (by_veil (string_in (value_of stdout_path_name (props_of (under_root chosen_name t)))))

  at_veil : (w : Nodes) → uart_by (veil_k free t) (veil_k free w) ≡ uart_by t w
  unfolding veil_k
  at_veil none = refl
  at_veil (node q nm ps kids rest) = rw (there_veil free compatible_name ps, translated_veil t q FirstReg)

  pub uart_veil : uart_of (veil_k free t) ≡ uart_of t
  unfolding uart_of
  uart_veil = rw stdout_veil (at_veil (stdout_in t))
