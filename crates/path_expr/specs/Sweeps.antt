-- Tables in the midst of an elimination, which the contracts of its parts cite.
use Rattle.std.specs.Prelude.{ℕ, ◌==◌, ◌&&◌, nat_lt, List, ◌++◌, if◌then◌else◌}
use Rattle.path_expr.specs.PathExpr.{PathExpr, Zero, seq_of, join_of}
use Rattle.path_expr.specs.Operations.{seq_operation, join_operation}
use Rattle.path_expr.specs.Elimination.{Table, after_elimination}

-- a table with another cell at i and j
abbrev pub with_cell : Table → ℕ → ℕ → PathExpr → Table
with_cell cells i j path a b = if a == i && b == j then path else cells a b

-- a table with other cells in row i, below column j
abbrev pub row_written : Table → ℕ → ℕ → (ℕ → PathExpr) → Table
row_written cells i j row a b = if a == i && nat_lt b j then row b else cells a b

-- a table with the rows of another one below row i
abbrev pub rows_written : Table → ℕ → Table → Table
rows_written cells i other a b = if nat_lt a i then other a b else cells a b

-- the operations where a way to place n goes on by the cell for n and j, and is joined to the cell
-- for i and j
abbrev pub step_operations : Table → PathExpr → ℕ → ℕ → ℕ → List PathExpr
step_operations cells way n i j = seq_operation way (cells n j) ++ join_operation (cells i j)
    (seq_of way (cells n j))

-- the table when a way to place n went on to the columns below j, in row i
abbrev pub swept : Table → PathExpr → ℕ → ℕ → ℕ → Table
swept cells way n i j = row_written cells i j (λ b. join_of (cells i b) (seq_of way (cells n b)))

-- the table when place n is eliminated in the rows below i
abbrev pub rows_swept : Table → ℕ → ℕ → Table
rows_swept cells n i = rows_written cells i (after_elimination n cells)

-- the table whose rows below i have begun
abbrev pub rows_begun : Table → ℕ → Table
rows_begun first i = rows_written (λ _ _. Zero) i first
