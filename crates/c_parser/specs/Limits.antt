-- The limits of nesting and of operators.
use Rattle.std.specs.Prelude.{ℕ}

-- the most levels of nesting, of which a procedure's block is the first
abbrev pub most_levels : ℕ
most_levels = 64

-- the most operators with two operands in one whole expression
abbrev pub most_binary_operators : ℕ
most_binary_operators = 256
