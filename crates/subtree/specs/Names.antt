-- The names of nodes and properties that document 01 speaks of, as bytes.
use Rattle.std.specs.Prelude.{ℕ, List, [], ◌∷◌}

-- `reg`
abbrev pub reg_name : List ℕ
reg_name = 114 ∷ 101 ∷ 103 ∷ []

-- `ranges`
abbrev pub ranges_name : List ℕ
ranges_name = 114 ∷ 97 ∷ 110 ∷ 103 ∷ 101 ∷ 115 ∷ []

-- `status`
abbrev pub status_name : List ℕ
status_name = 115 ∷ 116 ∷ 97 ∷ 116 ∷ 117 ∷ 115 ∷ []

-- `size`
abbrev pub size_name : List ℕ
size_name = 115 ∷ 105 ∷ 122 ∷ 101 ∷ []

-- `alloc-ranges`
abbrev pub alloc_ranges_name : List ℕ
alloc_ranges_name = 97 ∷ 108 ∷ 108 ∷ 111 ∷ 99 ∷ 45 ∷ 114 ∷ 97 ∷ 110 ∷ 103 ∷ 101 ∷ 115 ∷ []

-- `model`
abbrev pub model_name : List ℕ
model_name = 109 ∷ 111 ∷ 100 ∷ 101 ∷ 108 ∷ []

-- `stdout-path`
abbrev pub stdout_path_name : List ℕ
stdout_path_name = 115 ∷ 116 ∷ 100 ∷ 111 ∷ 117 ∷ 116 ∷ 45 ∷ 112 ∷ 97 ∷ 116 ∷ 104 ∷ []

-- `compatible`
abbrev pub compatible_name : List ℕ
compatible_name = 99 ∷ 111 ∷ 109 ∷ 112 ∷ 97 ∷ 116 ∷ 105 ∷ 98 ∷ 108 ∷ 101 ∷ []

-- `interrupt-controller`
abbrev pub interrupt_controller_name : List ℕ
interrupt_controller_name = 105 ∷ 110 ∷ 116 ∷ 101 ∷ 114 ∷ 114 ∷ 117 ∷ 112 ∷ 116 ∷ 45 ∷ 99 ∷ 111 ∷ 110 ∷ 116 ∷ 114 ∷ 111 ∷ 108 ∷ 108 ∷ 101 ∷ 114 ∷ []

-- /soc, /reserved-memory, /chosen, /aliases
abbrev pub soc_name : List ℕ
soc_name = 115 ∷ 111 ∷ 99 ∷ []

abbrev pub reserved_memory_name : List ℕ
reserved_memory_name = 114 ∷ 101 ∷ 115 ∷ 101 ∷ 114 ∷ 118 ∷ 101 ∷ 100 ∷ 45 ∷ 109 ∷ 101 ∷ 109 ∷ 111 ∷ 114 ∷ 121 ∷ []

abbrev pub chosen_name : List ℕ
chosen_name = 99 ∷ 104 ∷ 111 ∷ 115 ∷ 101 ∷ 110 ∷ []

abbrev pub aliases_name : List ℕ
aliases_name = 97 ∷ 108 ∷ 105 ∷ 97 ∷ 115 ∷ 101 ∷ 115 ∷ []

-- `okay` with its zero byte
abbrev pub okay : List ℕ
okay = 111 ∷ 107 ∷ 97 ∷ 121 ∷ 0 ∷ []

-- `linux,dummy-virt`
abbrev pub dummy_virt : List ℕ
dummy_virt = 108 ∷ 105 ∷ 110 ∷ 117 ∷ 120 ∷ 44 ∷ 100 ∷ 117 ∷ 109 ∷ 109 ∷ 121 ∷ 45 ∷ 118 ∷ 105 ∷ 114 ∷ 116 ∷ []
