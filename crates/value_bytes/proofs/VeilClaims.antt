-- What a tree is refused for, and what it claims, does not look behind the veil: from the laws of VeilShape on the nodes that are asked,
-- and of VeilRules on what is read there. Assumes nothing.
use Rattle.std.specs.Prelude.{Option, Some, None}
use mathlib.Core.Path.{◌≡◌, refl}
use Prim.Native.Nat.{ℕ}
use mathlib.Core.Bool.{Bool, true, false}
use mathlib.Core.List.{List}
use Rattle.cells.specs.declared.CellCount.{CellCount}
use Rattle.cells.specs.declared.Region.{Region}
use Rattle.cells.specs.declared.Range.{Range}
use Rattle.cells.specs.Rows.{Table}
use Rattle.fdt.specs.Tree.{Property, Nodes, none, node}
use Rattle.grammar.specs.Veil.{Free, veil_p, veil_k}
use Rattle.reading.specs.Values.{value_of}
use Rattle.reading.proofs.ReadVeil.{value_veil, find_veil}
use Rattle.subtree.specs.Names.{reg_name, ranges_name, size_name, alloc_ranges_name, model_name, interrupt_controller_name, soc_name}
use Rattle.subtree.specs.Subtree.{props_of, under_root}
use Rattle.claims.specs.declared.Way.{Way}
use Rattle.claims.specs.declared.Way.TheVariants.{Reserve, Soc, Controllers}
use Rattle.claims.specs.Claims.{child_regions, kid_claims, reserved_claims, soc_by, soc_claims, stdout_claims, controller_claims, is_virt, device_claims, claims_of}
use Rattle.claims.specs.Judging.{child_is, some_kid, bad_reg, bad_ranges, judged_of}
use Rattle.value_bytes.specs.Unread.{Unread}
use Rattle.value_bytes.proofs.VeilShape.{props_veil, kids_veil, under_veil, there_veil}
use Rattle.value_bytes.proofs.VeilRules.{address_veil, size_veil, available_veil, children_veil, uart_veil}

module _ {free : Free} {t : Nodes} (k : Unread free t) where
  -- ── Children in a row ──
  reg_veil : (ps : List Property) → value_of reg_name (veil_p free ps) ≡ value_of reg_name ps
  reg_veil = value_veil free reg_name k.reg

  regions_veil : (way : Way) (a c : CellCount) (ps : List Property) → child_regions way a c (veil_p free ps) ≡ child_regions way a c ps
  unfolding child_regions
  regions_veil Reserve a c ps =
      rw (available_veil k ps, reg_veil ps, value_veil free size_name k.size ps, value_veil free alloc_ranges_name k.alloc_ranges ps)
  regions_veil Soc a c ps = rw (reg_veil ps)
  regions_veil Controllers a c ps = rw (there_veil free interrupt_controller_name ps, reg_veil ps)

  kid_claims_veil : (way : Way) (w : Table Range) (a c : CellCount) (ks : Nodes)
      → kid_claims way w a c (veil_k free ks) ≡ kid_claims way w a c ks
  unfolding kid_claims veil_k
  kid_claims_veil way w a c none = refl
  kid_claims_veil way w a c (node q nm ps kids rest) = rw (regions_veil way a c ps, kid_claims_veil way w a c rest)

  is_veil : (reserved : Bool) (a c : CellCount) (ps : List Property) → child_is reserved a c (veil_p free ps) ≡ child_is reserved a c ps
  unfolding child_is
  is_veil true a c ps = rw (available_veil k ps, reg_veil ps)
  is_veil false a c ps = rw (reg_veil ps)

  some_veil : (reserved : Bool) (a c : CellCount) (ks : Nodes) → some_kid reserved a c (veil_k free ks) ≡ some_kid reserved a c ks
  unfolding some_kid veil_k
  some_veil reserved a c none = refl
  some_veil reserved a c (node q nm ps kids rest) = rw (is_veil reserved a c ps, some_veil reserved a c rest)

  -- ── The parts ──
  reserved_veil : reserved_claims (veil_k free t) ≡ reserved_claims t
  unfolding reserved_claims
  reserved_veil =
      simp (find_veil free, props_veil free, kids_veil free, children_veil k, address_veil k, size_veil k, kid_claims_veil)

  soc_veil : soc_claims (veil_k free t) ≡ soc_claims t
  unfolding soc_claims
  soc_veil = rw (under_veil free soc_name t) (go (under_root soc_name t))
    where
      by : (s : Nodes) (o : Option (List ℕ)) → soc_by (veil_k free t) (veil_k free s) o ≡ soc_by t s o
      by s None = refl
      by s (Some v) = simp (props_veil free, kids_veil free, address_veil k, size_veil k, kid_claims_veil)

      go : (s : Nodes)
          → soc_by (veil_k free t) (veil_k free s) (value_of ranges_name (props_of (veil_k free s))) ≡ soc_by t s (value_of ranges_name (props_of s))
      go s = rw (props_veil free s, value_veil free ranges_name k.ranges (props_of s)) (by s (value_of ranges_name (props_of s)))

  stdout_claims_veil : stdout_claims (veil_k free t) ≡ stdout_claims t
  unfolding stdout_claims
  stdout_claims_veil = rw (uart_veil k)

  controllers_veil : controller_claims (veil_k free t) ≡ controller_claims t
  unfolding controller_claims
  controllers_veil = simp (props_veil free, kids_veil free, address_veil k, size_veil k, kid_claims_veil)

  virt_veil : (arm : Bool) → is_virt arm (veil_k free t) ≡ is_virt arm t
  unfolding is_virt
  virt_veil arm = rw (props_veil free t, value_veil free model_name k.model (props_of t))

  devices_veil : (arm : Bool) → device_claims arm (veil_k free t) ≡ device_claims arm t
  unfolding device_claims
  devices_veil arm = rw (virt_veil arm, soc_veil, stdout_claims_veil, controllers_veil)

  bad_reg_veil : bad_reg (veil_k free t) ≡ bad_reg t
  unfolding bad_reg
  bad_reg_veil =
      simp (find_veil free, props_veil free, kids_veil free, children_veil k, address_veil k, size_veil k, some_veil)

  bad_ranges_veil : bad_ranges (veil_k free t) ≡ bad_ranges t
  unfolding bad_ranges
  bad_ranges_veil =
      simp
      (find_veil free, props_veil free, kids_veil free, value_veil free ranges_name k.ranges, address_veil k, size_veil k, some_veil)

  -- THE THEOREMS, on a tree of which these properties are unread: the veiled tree is refused for the same
  pub same_judged : (arm : Bool) → judged_of arm (veil_k free t) ≡ judged_of arm t
  unfolding judged_of
  same_judged arm = rw (bad_reg_veil, virt_veil arm, bad_ranges_veil)

  -- and claims the same
  pub same_claims : (arm : Bool) (block : List Region) → claims_of arm block (veil_k free t) ≡ claims_of arm block t
  unfolding claims_of
  same_claims arm block = rw (reserved_veil, devices_veil arm)
