-- Laws on the console: what a string below the root says, read in the block; the node of a name; and that the stdout node is a node that
-- stands, so that what is read at its place is what it says. All from the laws on the node at a place. Assumes nothing.
use mathlib.Core.Path.{◌≡◌, refl, sym, ◌∙◌, ap}
use Prim.Native.Nat.{ℕ, ◌-◌}
use native.Mathlib.Omega.{arith}
use mathlib.Core.Bool.{cond}
use mathlib.Core.List.{List, [], ◌∷◌}
use lib.ListN.{length, get_or, get_or-eq_default}
use lib.Dec.{eqb}
use borrow.Author.Tests.{eq-eqb, ne_eqb}
use Rattle.std.specs.Prelude.{Option, Some, None}
use Rattle.words.specs.Bytes.{part_of, Finds}
use Rattle.words.proofs.BytesLaws.{cond_elim, never}
use Rattle.fdt.specs.Tree.{Nodes, none, node}
use Rattle.fdt.specs.declared.Block.{Block}
use Rattle.nodes.specs.Nav.{prop_at, child_at}
use Rattle.nodes.specs.Path.{path_at}
use Rattle.nodes.specs.OnTree.{head_of, find_k, kids_of}
use Rattle.nodes.proofs.SameLaws.{part_upto}
use Rattle.reading.specs.Values.{value_of, held}
use Rattle.subtree.specs.Names.{chosen_name, aliases_name, stdout_path_name, compatible_name}
use Rattle.subtree.specs.Subtree.{node_at, at, root_at, props_of, under_root, path_to}
use Rattle.subtree.proofs.SubtreeLaws.{value_at, child_at_lem, path_at_lem, path_stands}
use Rattle.text.specs.Strings.{string_in, string_at}
use Rattle.text.proofs.StringLaws.{string_held}
use Rattle.translation.specs.declared.Sought.TheVariants.{FirstReg}
use Rattle.translation.specs.Translation.{translated}
use Rattle.stdout.specs.Stdout.{before_colon, aliased, named, stdout_by, stdout_in, is_there, uart_at, uart_by, uart_of}
use Rattle.translation.specs.declared.Translated.{Translated}

-- ── Paths ──
module _ (b n : List ℕ) where
  -- a path leads to the same place in the block and on the tree
  pub path_head : (path : List ℕ) → path_at b n path ≡ head_of (path_to (root_at b n) path)
  path_head path = sym (path_stands b n path) ∙ ap head_of (path_at_lem b n path)

  -- and the node there is the one that it names
  path_back : (path : List ℕ) → at b n (head_of (path_to (root_at b n) path)) ≡ path_to (root_at b n) path
  path_back path = ap (at b n) (sym (path_head path)) ∙ path_at_lem b n path

-- ── A string of a node below the root ──
module _ (b n : List ℕ) (root : ℕ) (is : node_at b n root ≡ root_at b n) (name prop : List ℕ) (f : Option ℕ) (e : f ≡ child_at b n root name) where
  child_under : at b n f ≡ under_root name (root_at b n)
  child_under = ap (at b n) e ∙ child_at_lem b n root name ∙ ap (λ (t : Nodes). find_k name (kids_of t)) is

  string_under : (q : ℕ) → f ≡ Some q → (v : Option Block) → v ≡ string_at b n q prop → held b v ≡ string_in (value_of prop (props_of (under_root name (root_at b n))))
  string_under q g v h = rw (← child_under, g) (ap (held b) h ∙ string_held b n q prop ∙ ap string_in (value_at b n q prop))

  -- what k makes of the string: no such child, no such string, or the bytes that are found
  module _ (k : Nodes → Option (List ℕ) → Nodes) where
    pub string_nowhere : f ≡ None → head_of (k (root_at b n) None) ≡ head_of (k (root_at b n) (string_in (value_of prop (props_of (under_root name (root_at b n))))))
    unfolding string_in value_of
    string_nowhere g = rw (← child_under, g)

    module _ (q : ℕ) (g : f ≡ Some q) (v : Option Block) (h : v ≡ string_at b n q prop) where
      pub string_missing : v ≡ None
          → head_of (k (root_at b n) None) ≡ head_of (k (root_at b n) (string_in (value_of prop (props_of (under_root name (root_at b n))))))
      string_missing m = rw (← string_under q g v h, m)

      pub string_here : (p : Block) (s : List ℕ) → v ≡ Some p → s ≡ part_of b p.at p.len
          → head_of (k (root_at b n) (Some s)) ≡ head_of (k (root_at b n) (string_in (value_of prop (props_of (under_root name (root_at b n))))))
      string_here p s m o = rw (← string_under q g v h, m, o)

-- ── The node of a name ──
module _ (t : Nodes) (s : List ℕ) where
  pub named_path : get_or s 0 0 ≡ 47 → path_to t s ≡ named t s
  unfolding named
  named_path h = rw (eq-eqb _ _ h)

  pub named_alias : (get_or s 0 0 ≡ 47 → ⊥) → aliased t (string_in (value_of s (props_of (under_root aliases_name t)))) ≡ named t s
  unfolding named
  named_alias h = rw (ne_eqb _ _ h)

  pub named_empty : length s ≡ 0 → aliased t (string_in (value_of s (props_of (under_root aliases_name t)))) ≡ named t s
  named_empty h = let d = get_or-eq_default s 0 {n = 0} (omega arith) in named_alias (λ e. omega arith)

-- ── The stdout node ──
module _ (b n : List ℕ) (f : Option ℕ) (e : f ≡ path_at b n (47 ∷ [])) where
  -- the path `/` leads to the root
  root_at_lem : at b n f ≡ root_at b n
  unfolding path_to
  root_at_lem = ap (at b n) e ∙ path_at_lem b n (47 ∷ [])

  pub root_is : (q : ℕ) → f ≡ Some q → node_at b n q ≡ root_at b n
  root_is q g = ap (at b n) (sym g) ∙ root_at_lem

  pub stdout_rootless : f ≡ None → None ≡ head_of (stdout_in (root_at b n))
  unfolding stdout_in find_k value_of string_in
  stdout_rootless g = rw (← root_at_lem, g)

-- the name is the string up to the colon
pub stdout_named : (t : Nodes) (s : List ℕ) (c : ℕ) (p : List ℕ) → Finds 58 s 0 c → p ≡ part_of s 0 c → head_of (named t p) ≡ head_of (stdout_by t (Some s))
stdout_named t s c p f e =
    let i = f.is in
    let u = f.upto (omega arith) in
    let z : c ≡ c - 0 = omega arith in
    ap (λ (x : List ℕ). head_of (named t x)) (rw (← i) (part_upto s 0 c p (rw (← z) e) (omega arith) u))

module _ (b n : List ℕ) where
  alias_at : (o : Option (List ℕ)) → at b n (head_of (aliased (root_at b n) o)) ≡ aliased (root_at b n) o
  alias_at None = refl
  alias_at (Some path) = path_back b n _

  named_at : (s : List ℕ) → at b n (head_of (named (root_at b n) s)) ≡ named (root_at b n) s
  unfolding named
  named_at s =
      cond_elim (λ (r : Nodes). at b n (head_of r) ≡ r) (eqb (get_or s 0 0) 47) _ _ (λ e. path_back b n s)
      (λ e. alias_at (string_in (value_of s (props_of (under_root aliases_name (root_at b n))))))

  -- THE THEOREM: what is found is a node that stands, and the tree's
  pub stdout_at : at b n (head_of (stdout_in (root_at b n))) ≡ stdout_in (root_at b n)
  unfolding stdout_in
  stdout_at = go (string_in (value_of stdout_path_name (props_of (under_root chosen_name (root_at b n)))))
    where
      go : (o : Option (List ℕ)) → at b n (head_of (stdout_by (root_at b n) o)) ≡ stdout_by (root_at b n) o
      go None = refl
      go (Some s) = named_at (before_colon s)

-- ── Its claim ──
uart_by_lem : (t k : Nodes) (q : ℕ) → head_of k ≡ Some q
    → uart_by t k ≡ cond (is_there (value_of compatible_name (props_of k))) (uart_at (translated t q FirstReg)) None
uart_by_lem t none q e = never (cc)
uart_by_lem t (node p nm ps kids rest) q e = let i : p ≡ q = cc in rw i

module _ (b n : List ℕ) (f : Option ℕ) (e : f ≡ head_of (stdout_in (root_at b n))) where
  pub uart_nowhere : f ≡ None → None ≡ uart_of (root_at b n)
  unfolding uart_of
  uart_nowhere g = rw (← stdout_at b n, ← e, g)

  module _ (q : ℕ) (g : f ≡ Some q) (v : Option Block) (h : v ≡ prop_at b n q compatible_name) where
    stdout_is : node_at b n q ≡ stdout_in (root_at b n)
    stdout_is = ap (at b n) (sym g ∙ e) ∙ stdout_at b n

    uart_is : cond (is_there (held b v)) (uart_at (translated (root_at b n) q FirstReg)) None ≡ uart_of (root_at b n)
    unfolding uart_of
    uart_is =
        rw (h, value_at b n q compatible_name, stdout_is)
        (sym (uart_by_lem (root_at b n) (stdout_in (root_at b n)) q (sym e ∙ g)))

    pub uart_incompatible : v ≡ None → None ≡ uart_of (root_at b n)
    uart_incompatible m = rw m at uart_is

    pub uart_translated : (p : Block) (r : Option Translated) → v ≡ Some p → r ≡ translated (root_at b n) q FirstReg → uart_at r ≡ uart_of (root_at b n)
    uart_translated p r m i = ap uart_at i ∙ (rw m at uart_is)
