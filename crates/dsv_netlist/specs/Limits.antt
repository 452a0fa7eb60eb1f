-- The limits of a netlist.
use Rattle.std.specs.Prelude.{ℕ, ◌^◌}

-- the most nodes
abbrev pub most_nodes : ℕ
most_nodes = 512

-- the most registers
abbrev pub most_registers : ℕ
most_registers = 512

-- the most exact values of a sample
abbrev pub most_exact : ℕ
most_exact = 160

-- the size that no bound of a node reaches
abbrev pub bound_limit : ℕ
bound_limit = 2 ^ 126
