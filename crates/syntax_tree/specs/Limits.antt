-- The limits of a program of the core.
use Rattle.std.specs.Prelude.{ℕ}

-- the procedures of a program
abbrev pub most_procedures : ℕ
most_procedures = 256

-- the parameters of a procedure
abbrev pub most_parameters : ℕ
most_parameters = 8

-- the globals of a program
abbrev pub most_globals : ℕ
most_globals = 16

-- the parameters, locals and temporaries of a procedure
abbrev pub most_slots : ℕ
most_slots = 24

-- the nodes of a procedure's flow graph
abbrev pub most_nodes : ℕ
most_nodes = 512

-- the assertions of a program
abbrev pub most_checks : ℕ
most_checks = 1024

-- the cases of a value, of a condition's truth or falsity, and of the arguments of a call together
abbrev pub most_cases : ℕ
most_cases = 256

-- the operators of a value, of a condition, and of the arguments of a call together
abbrev pub most_operators : ℕ
most_operators = 200000
