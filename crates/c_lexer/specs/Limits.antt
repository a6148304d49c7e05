-- The limits of a text.
use Rattle.std.specs.Prelude.{ℕ}

-- the most tokens of a text, its end not counted
abbrev pub most_tokens : ℕ
most_tokens = 200000
