-- The numbers of phases.
use Rattle.std.specs.Prelude.{ℕ}

-- how deep phases split
abbrev pub most_depth : ℕ
most_depth = 4

-- how many inequalities of a body are tried
abbrev pub most_splits : ℕ
most_splits = 64
