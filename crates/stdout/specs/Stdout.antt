-- The console: document 01, "Stdout" and "Devices".
use Rattle.std.specs.Prelude.{ℕ, List, Bool, true, false, cond, get_or, eqb, Option, Some, None}
use Rattle.words.specs.Bytes.{bytes, first_byte}
use Rattle.cells.specs.declared.Region.{Region}
use Rattle.fdt.specs.Tree.{Nodes, none, node}
use Rattle.reading.specs.Values.{value_of}
use Rattle.subtree.specs.Names.{chosen_name, aliases_name, stdout_path_name, compatible_name}
use Rattle.subtree.specs.Subtree.{props_of, under_root, path_to}
use Rattle.text.specs.Strings.{string_in}
use Rattle.translation.specs.declared.Sought.TheVariants.{FirstReg}
use Rattle.translation.specs.Translation.{translated}
use Rattle.translation.specs.declared.Translated.{Translated}

-- "`stdout-path` of /chosen up to a colon"
abbrev pub before_colon : List ℕ → List ℕ
before_colon s = bytes s 0 (first_byte 58 s 0)

-- "whose value is such a path": from `/`, and no colon is cut from it
abbrev pub aliased : Nodes → Option (List ℕ) → Nodes
aliased t None = none
aliased t (Some path) = path_to t path

-- "from `/` a path, else a name in /aliases"
unfoldable pub named : Nodes → List ℕ → Nodes
named t s = cond (eqb (get_or s 0 0) 47) (path_to t s) (aliased t (string_in (value_of s (props_of (under_root aliases_name t)))))

abbrev pub stdout_by : Nodes → Option (List ℕ) → Nodes
stdout_by t None = none
stdout_by t (Some s) = named t (before_colon s)

-- the stdout node, with the siblings after it
unfoldable pub stdout_in : Nodes → Nodes
stdout_in t = stdout_by t (string_in (value_of stdout_path_name (props_of (under_root chosen_name t))))

-- ── Its claim ──
abbrev pub is_there : Option (List ℕ) → Bool
is_there None = false
is_there (Some v) = true

abbrev pub uart_at : Option Translated → Option Region
uart_at (Some t) = Some t.region
uart_at None = None

abbrev pub uart_by : Nodes → Nodes → Option Region
uart_by t none = None
uart_by t (node q nm ps kids rest) = cond (is_there (value_of compatible_name ps)) (uart_at (translated t q FirstReg)) None

-- "the first `reg` entry of the stdout node, if it has `compatible`, translated"
unfoldable pub uart_of : Nodes → Option Region
uart_of t = uart_by t (stdout_in t)
