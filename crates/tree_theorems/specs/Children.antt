-- A child in a row of nodes, by its place and its properties.
use Rattle.std.specs.Prelude.{ℕ, List}
use Rattle.fdt.specs.Tree.{Property, Nodes, node}

pub data Child (q : ℕ) (ps : List Property) : Nodes → Type 0 where
  this : {nm : List ℕ} {kids rest : Nodes} → Child q ps (node q nm ps kids rest)
  later : {p : ℕ} {nm : List ℕ} {os : List Property} {kids rest : Nodes} → Child q ps rest → Child q ps (node p nm os kids rest)
