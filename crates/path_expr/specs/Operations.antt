-- The operations of the stated elimination, each once and in their order. An operation with an
-- operand Zero or One is none.
use Rattle.std.specs.Prelude.{ℕ, zero, suc, ◌+◌, ◌-◌, List, [], ◌∷◌, ◌++◌, length, Bool, true, false, ◌&&◌, if◌then◌else◌}
use Rattle.path_expr.specs.declared.link.Link.{Link}
use Rattle.path_expr.specs.PathExpr.{PathExpr, Zero, One, Edge, Seq, Join, Star, seq_of, join_of, star_of}
use Rattle.path_expr.specs.Elimination.{Table, links_between, table_after, last_table, ways}

-- whether a path expression is an item of the algebra
abbrev pub is_item : PathExpr → Bool
is_item Zero = false
is_item One = false
is_item path = true

-- the operation of a sequence, as a list of one; [] where an operand is no item
abbrev pub seq_operation : PathExpr → PathExpr → List PathExpr
seq_operation first second = if is_item first && is_item second then Seq first second ∷ [] else []

-- the operation of a join, as a list of one; [] where an operand is no item
abbrev pub join_operation : PathExpr → PathExpr → List PathExpr
join_operation left right = if is_item left && is_item right then Join left right ∷ [] else []

-- the operation of a star, as a list of one; [] where the operand is no item
abbrev pub star_operation : PathExpr → List PathExpr
star_operation turn = if is_item turn then Star turn ∷ [] else []

-- the operations at 0, 1 and so on below n
abbrev pub below : (ℕ → List PathExpr) → ℕ → List PathExpr
below operations_at zero = []
below operations_at (suc n) = below operations_at n ++ operations_at n

-- the joins of a path and of links, from the left
abbrev pub join_operations : PathExpr → List ℕ → List PathExpr
join_operations path [] = []
join_operations path (number ∷ numbers) = join_operation path (Edge number) ++ join_operations
    (join_of path (Edge number)) numbers

-- the joins that begin the cells of a row
unfoldable pub first_row_operations : ℕ → List Link → ℕ → ℕ → List PathExpr
first_row_operations nodes links source i =
    below (λ j. join_operations Zero (links_between source 0 links i j)) nodes

-- where place n is eliminated: the operations at the cell for i and j
unfoldable pub cell_operations : Table → ℕ → ℕ → ℕ → List PathExpr
cell_operations cells n i j =
    let turned = seq_of (cells i n) (star_of (cells n n)) in
    seq_operation turned (cells n j) ++ join_operation (cells i j) (seq_of turned (cells n j))

-- the operations at the cells of row i
unfoldable pub row_operations : Table → ℕ → ℕ → List PathExpr
row_operations cells n i = seq_operation (cells i n) (star_of (cells n n))
    ++ below (cell_operations cells n i) n

-- the operations at all cells
unfoldable pub place_operations : Table → ℕ → List PathExpr
place_operations cells n = star_operation (cells n n) ++ below (row_operations cells n) n

-- the operations that eliminate the last `count` places
abbrev pub eliminations : ℕ → List Link → ℕ → ℕ → List PathExpr
eliminations nodes links source zero = []
eliminations nodes links source (suc count) =
    eliminations nodes links source count ++ place_operations (table_after nodes links source count)
    (nodes - suc count)

-- the operations that put the way over place p behind a path to place n
unfoldable pub arrival_operations : Table → ℕ → PathExpr → ℕ → PathExpr → List PathExpr
arrival_operations cells n way p path =
    let up = seq_of way (cells p n) in
    seq_operation way (cells p n)
    ++ (seq_operation up (star_of (cells n n)) ++ join_operation path
    (seq_of up (star_of (cells n n))))

-- the operations of `arrivals`
abbrev pub arrivals_operations : Table → ℕ → List PathExpr → ℕ → PathExpr → List PathExpr
arrivals_operations cells n [] p path = []
arrivals_operations cells n (way ∷ ways) p path =
    arrival_operations cells n way p path
    ++ arrivals_operations cells n ways (p + 1)
    (join_of path (seq_of (seq_of way (cells p n)) (star_of (cells n n))))

-- the operations of the way to place n
abbrev pub way_operations : Table → ℕ → List PathExpr
way_operations cells zero = star_operation (cells 0 0)
way_operations cells (suc n) = arrivals_operations cells (suc n) (ways cells (suc n)) 0 Zero

-- all operations: the edges, the joins that begin the cells, the eliminations from the last place
-- down, and the ways
unfoldable pub operations : ℕ → List Link → ℕ → List PathExpr
operations nodes links source =
    below (λ number. Edge number ∷ []) (length links)
    ++ (below (first_row_operations nodes links source) nodes
    ++ (eliminations nodes links source (nodes - 1)
    ++ below (way_operations (last_table nodes links source)) nodes))
