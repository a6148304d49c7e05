-- The limits of an input.
use Rattle.std.specs.Prelude.{ℕ}

-- the most bytes of an edit script, and of a text with values and turns, on which an execution is
-- followed
abbrev pub most_input : ℕ
most_input = 8388608

-- the most bytes of a certificate file
abbrev pub most_file : ℕ
most_file = 67108864
