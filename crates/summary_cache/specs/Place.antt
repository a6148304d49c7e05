-- The line and the column of a place of a text: the line is one more than the newlines before it,
-- the column one more than the bytes since the last of these.
use Rattle.std.specs.Prelude.{ℕ, ◌+◌, ◌==◌, Bool, List, [], ◌∷◌, take, if◌then◌else◌}
use Rattle.std.specs.List.{count_by}

-- whether a byte is a newline, which is 10
abbrev pub is_newline : ℕ → Bool
is_newline b = b == 10

-- the line of a place of a text, from 1; the place is in bytes from 0
abbrev pub line_at : List ℕ → ℕ → ℕ
line_at text at = count_by is_newline (take at text) + 1

-- the column behind these bytes, where the first of them stands in a column
abbrev pub column_behind : ℕ → List ℕ → ℕ
column_behind column [] = column
column_behind column (b ∷ bytes) = column_behind (if is_newline b then 1 else column + 1) bytes

-- the column of a place of a text, in bytes from 1; the place is in bytes from 0
abbrev pub column_at : List ℕ → ℕ → ℕ
column_at text at = column_behind 1 (take at text)
